-- The words of a line, and how each kind of word is spelled.
use Rattle.std.specs.Prelude.{ℕ, ◌≤◌, ◌⊎◌, List, [], ◌∷◌, ◌++◌, ◌==◌, if◌then◌else◌, Bool, true, false, codes, decimal}
use Rattle.hex.specs.Hex.{encode_lower}
use Rattle.bench_base.specs.declared.{words.Kind.Kind, words.Kind.TheVariants.Enrol, words.Kind.TheVariants.Reset, words.Kind.TheVariants.Audit, words.Kind.TheVariants.Refund, words.Kind.TheVariants.Withdraw, words.Node.Node, words.Node.TheVariants.Device, words.Node.TheVariants.Centre, words.Node.TheVariants.Host, words.Node.TheVariants.Verifier}

-- the words in a row, with one space before each
abbrev pub spaced : List (List ℕ) → List ℕ
spaced [] = []
spaced (w ∷ ws) = 32 ∷ (w ++ spaced ws)

-- the words in a row, with exactly one space between each two
abbrev pub joined : List (List ℕ) → List ℕ
joined [] = []
joined (w ∷ ws) = w ++ spaced ws

-- a byte more at the front of the first word
abbrev pub longer : ℕ → List (List ℕ) → List (List ℕ)
longer c [] = []
longer c (w ∷ ws) = (c ∷ w) ∷ ws

-- the words of a line: what is before, between and after its spaces
unfoldable pub words_in : List ℕ → List (List ℕ)
words_in [] = [] ∷ []
words_in (c ∷ line) = if c == 32 then [] ∷ words_in line else longer c (words_in line)

-- the word for a device: `d` and its number
abbrev pub device_word : ℕ → List ℕ
device_word d = codes "d" ++ decimal d

-- the word for a node
abbrev pub node_word : Node → List ℕ
node_word (Device d) = device_word d
node_word Centre = codes "centre"
node_word Host = codes "host"
node_word Verifier = codes "verifier"

-- two lower-case hexadecimal digits for each byte
abbrev pub hex_word : List ℕ → List ℕ
hex_word bytes = encode_lower bytes

-- a byte in two hexadecimal digits
abbrev pub byte_word : ℕ → List ℕ
byte_word b = hex_word (b ∷ [])

-- the digits of the bytes, or a dash for no bytes
abbrev pub given_word : List ℕ → List ℕ
given_word [] = codes "-"
given_word (b ∷ bytes) = hex_word (b ∷ bytes)

-- the word for a kind of transaction
abbrev pub kind_word : Kind → List ℕ
kind_word Enrol = codes "enrol"
kind_word Reset = codes "reset"
kind_word Audit = codes "audit"
kind_word Refund = codes "refund"
kind_word Withdraw = codes "withdraw"

-- whether something was answered before: `again` or `new`
abbrev pub new_word : Bool → List ℕ
new_word true = codes "again"
new_word false = codes "new"

-- a hexadecimal digit that isn't in upper case
abbrev pub IsLowerDigit : ℕ → Type 0
IsLowerDigit c = ((48 ≤ c) × (c ≤ 57)) ⊎ ((97 ≤ c) × (c ≤ 102))
