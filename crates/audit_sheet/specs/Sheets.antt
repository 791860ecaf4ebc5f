-- The bytes of a page, and what each entry of the sheet adds to it.
use Rattle.std.specs.Prelude.{◌≡◌, ◌⊎◌, ℕ, ◌+◌, ◌-◌, ◌*◌, ◌/◌, Bool, true, ◌&&◌, ◌||◌, nat_le, nat_lt, ◌==◌, if◌then◌else◌, List, [], ◌∷◌, ◌++◌, length, take, drop, flat_map, codes}
use Rattle.audit_words.specs.Shown.{shown_bytes}

-- the byte is printable ASCII or a line end
abbrev pub is_safe : ℕ → Bool
is_safe byte = (byte == 10) || (nat_le 32 byte && nat_lt byte 127)

-- every byte of a page is
abbrev pub IsSafe : ℕ → Type 0
IsSafe byte = is_safe byte ≡ true

-- a byte of the program's own markup: a question mark in place of one that is not safe
abbrev pub own_byte : ℕ → List ℕ
own_byte byte = (if is_safe byte then byte else 63) ∷ []

-- the program's own markup
abbrev pub own_bytes : List ℕ → List ℕ
own_bytes own = flat_map own_byte own

-- a byte of an input: each of the five that could be markup as its entity
abbrev pub escaped : ℕ → List ℕ
escaped byte = if byte == 60 then own_bytes (codes "&lt;")
    else (if byte == 62 then own_bytes (codes "&gt;")
    else (if byte == 38 then own_bytes (codes "&amp;")
    else (if byte == 34 then own_bytes (codes "&quot;") else (if byte == 39 then own_bytes (codes "&#39;") else own_byte byte))))

-- how many characters are left at either end of a text that is cut
abbrev pub half : ℕ → ℕ
half most = (most - 2) / 2

-- a text of an input that is shown: cut in the middle, if it has more than so many characters
abbrev pub put_cut : List ℕ → ℕ → List ℕ
put_cut text most = if nat_le (length text) most then flat_map escaped text
    else (flat_map escaped (take (half most) text) ++ own_bytes (codes "..") ++ flat_map escaped (drop (length text - half most) text))

-- WHAT A TEXT OF AN INPUT ADDS: its bytes as they are shown, cut, and with entities
abbrev pub shown_of : List ℕ → ℕ → List ℕ
shown_of text most = put_cut (shown_bytes text) most

-- A PAGE ON WHICH NOTHING IS MISSING has these bytes after those that it had, and nothing was missing before.
pub record Adds (added before after : List ℕ) (was is : Bool) : Type 0 where
  pub whole : is ≡ true → was ≡ true
  pub bytes : is ≡ true → after ≡ before ++ added

-- the number that the digits of a text are, read on from another one; all other bytes are passed over
abbrev pub read_on : ℕ → List ℕ → ℕ
read_on number [] = number
read_on number (byte ∷ rest) = read_on (if nat_le 48 byte && nat_le byte 57 then number * 10 + (byte - 48) else number) rest

-- A TEXT IS ADDED WHOSE DIGITS READ ON from any number as this one, with so many places
pub record AddsDigits (number places : ℕ) (before after : List ℕ) (was is : Bool) : Type 0 where
  pub text : List ℕ
  pub adds : Adds text before after was is
  pub reads : (n : ℕ) → read_on n text ≡ n * places + number

-- A TEXT IS ADDED WHOSE DIGITS ARE THIS NUMBER
pub record AddsNumber (number : ℕ) (before after : List ℕ) (was is : Bool) : Type 0 where
  pub text : List ℕ
  pub adds : Adds text before after was is
  pub reads : read_on 0 text ≡ number

-- AN AMOUNT IS ADDED: the digits of its text are the mills, or, if the third decimal is left out, a tenth of them with nothing left over
pub record AddsMills (mills : ℕ) (before after : List ℕ) (was is : Bool) : Type 0 where
  pub text : List ℕ
  pub adds : Adds text before after was is
  pub reads : (read_on 0 text ≡ mills) ⊎ (read_on 0 text * 10 ≡ mills)
