-- Words are read back: what each kind of word is the word of.
use Rattle.std.proofs.Common.{◌≡◌, ◌≢◌, length, ℕ, suc, ℤ, pos, negsuc, ◌-◌, ◌^◌, ◌≤◌, ◌<◌, List, [], ◌∷◌, get_or, drop, take, Bool, true, false, eqb, cond, refl, sym, ap, ◌∙◌, arith, inl, inr, decimal, codes, zero, ◌+◌, ◌*◌}
use Rattle.std.specs.Fmt.{signed_decimal}
use Rattle.std.specs.Result.{result_unwrap_or}
use Rattle.std.proofs.lemmas.Bool.{ne_eqb, cond-false}
use Rattle.std.proofs.lemmas.Fmt.{digits_value-decimal, digits_decimal, decimal_nonempty}
use Rattle.std.proofs.lemmas.Str.Parse.{not_in_digits}
use Rattle.hex.specs.Hex.{decode_of, encode_with}
use Rattle.hex.proofs.HexLemmas.{decode_of-encode_lower}
use Rattle.jiff_core.specs.Calendar.{days_from_civil}
use Rattle.psd_audit.specs.Dates.{IsDateText, read_on}
use Rattle.psd_audit.proofs.DateCells.{IsDateText-none}
use Rattle.bench_base.specs.declared.{words.Kind.Kind, words.Kind.TheVariants.Enrol, words.Kind.TheVariants.Reset, words.Kind.TheVariants.Audit, words.Kind.TheVariants.Refund, words.Kind.TheVariants.Withdraw, words.Node.Node, words.Node.TheVariants.Device, words.Node.TheVariants.Centre, words.Node.TheVariants.Host, words.Node.TheVariants.Verifier}
use Rattle.bench_base.specs.Table.{IsBytes}
use Rattle.bench_base.specs.Ranges.{IsWord}
use Rattle.script_words.specs.Words.{device_word, node_word, hex_word, byte_word, given_word, kind_word, new_word, IsLowerDigit}
use Rattle.script_words.proofs.HexDigits.{AreLower-encode, AreLower}
use Rattle.script_words.proofs.Numbers.{own}

-- a number for each word
abbrev pub code : List ℕ → ℕ
code [] = 0
code (c ∷ w) = c + 256 * code w

-- a byte alone
pub one_byte : (b : ℕ) → b < 2 ^ 8 → IsBytes (b ∷ [])
one_byte b h zero = h
one_byte b h (suc i) = omega arith

-- two words are the same
abbrev pub same : List ℕ → List ℕ → Bool
same v w = eqb (code v) (code w)

-- the i-th word
abbrev pub at : List (List ℕ) → ℕ → List ℕ
at ws i = get_or ws i []

abbrev pub number_in : List ℕ → ℕ
number_in w = read_on 0 w

pub number_again : (n : ℕ) → n < 2 ^ 64 → number_in (decimal n) ≡ n
number_again n h = digits_value-decimal own n h

pub word_again : (n : ℕ) → n < 2 ^ 32 → number_in (decimal n) ≡ n
word_again n h = number_again n (omega (arith, h))

-- words that begin with a number begin with one number
pub one_number : (ws : List (List ℕ)) (c d : ℕ) (v w : List (List ℕ)) → IsWord c → IsWord d → ws ≡ decimal c ∷ v → ws ≡ decimal d ∷ w → c ≡ d
one_number ws c d v w short short' is is' = let same : decimal c ≡ decimal d = cc in sym (word_again c short) ∙ ap (λ (x : List ℕ). number_in x) same ∙ word_again d short'

pub class_again : (n : ℕ) → n < 2 ^ 16 → number_in (decimal n) ≡ n
class_again n h = number_again n (omega (arith, h))

pub small_again : (n most : ℕ) → most < 2 ^ 32 → (1 ≤ n) × (n ≤ most) → number_in (decimal n) ≡ n
small_again n most small h = number_again n (omega (arith, small, h.1))

abbrev pub device_in : List ℕ → ℕ
device_in w = number_in (drop 1 w)

pub device_again : (d : ℕ) → (1 ≤ d) × (d ≤ 8) → device_in (device_word d) ≡ d
device_again d h = number_again d (omega (arith, h.1))

abbrev pub first_byte : List ℕ → ℕ
first_byte w = get_or w 0 0

abbrev pub node_in : List ℕ → Node
node_in w = cond (eqb (first_byte w) 99) Centre (cond (eqb (first_byte w) 104) Host (cond (eqb (first_byte w) 118) Verifier (Device (device_in w))))

-- a device is one of the eight
abbrev pub IsIn : Node → Type 0
IsIn (Device d) = (1 ≤ d) × (d ≤ 8)
IsIn n = Unit {0}

pub node_again : (n : Node) → IsIn n → node_in (node_word n) ≡ n
node_again (Device d) h = ap Device (device_again d h)
node_again Centre h = refl
node_again Host h = refl
node_again Verifier h = refl

abbrev pub hex_in : List ℕ → List ℕ
hex_in w = result_unwrap_or (decode_of w) []

pub hex_again : (bytes : List ℕ) → IsBytes bytes → hex_in (hex_word bytes) ≡ bytes
hex_again bytes h = ap (λ r. result_unwrap_or r []) (decode_of-encode_lower bytes h)

abbrev pub byte_in : List ℕ → ℕ
byte_in w = get_or (hex_in w) 0 0

pub byte_again : (b : ℕ) → b < 2 ^ 8 → byte_in (byte_word b) ≡ b
byte_again b h = ap (λ (l : List ℕ). get_or l 0 0) (hex_again (b ∷ []) (one_byte b h))

abbrev pub given_in : List ℕ → List ℕ
given_in w = cond (eqb (first_byte w) 45) [] (hex_in w)

not_dash : (c : ℕ) → IsLowerDigit c → c ≢ 45
not_dash c (inl h) e = omega (arith, h.0, e)
not_dash c (inr h) e = omega (arith, h.0, e)

first_lower : (c : ℕ) (w v : List ℕ) → AreLower v → v ≡ c ∷ w → first_byte v ≢ 45
first_lower c w [] h e = absurd (cc e)
first_lower c w (x ∷ v) h e = not_dash x h.0

pub given_again : (bytes : List ℕ) → IsBytes bytes → given_in (given_word bytes) ≡ bytes
unfolding encode_with
given_again [] h = refl
given_again (b ∷ bytes) h =
    let word = hex_word (b ∷ bytes) in
    let digit : first_byte word ≢ 45 = first_lower _ _ word (AreLower-encode (b ∷ bytes) h) refl in
    cond-false (eqb (first_byte word) 45) [] (hex_in word) (ne_eqb (first_byte word) 45 digit) ∙ hex_again (b ∷ bytes) h

-- bytes that are some are given in hex
pub given_is : (mark : List ℕ) → length mark ≡ 64 → given_word mark ≡ hex_word mark
given_is [] long = absurd (omega (arith, long))
given_is (b ∷ bytes) long = refl

abbrev pub kind_in : List ℕ → Kind
kind_in w = cond (same w (codes "enrol")) Enrol (cond (same w (codes "reset")) Reset (cond (same w (codes "audit")) Audit (cond (same w (codes "refund")) Refund Withdraw)))

pub kind_again : (k : Kind) → kind_in (kind_word k) ≡ k
kind_again Enrol = refl
kind_again Reset = refl
kind_again Audit = refl
kind_again Refund = refl
kind_again Withdraw = refl

abbrev pub again_in : List ℕ → Bool
again_in w = same w (codes "again")

pub again_again : (b : Bool) → again_in (new_word b) ≡ b
again_again true = refl
again_again false = refl

-- ---- signed numbers

abbrev pub signed_in : List ℕ → ℤ
signed_in w = cond (eqb (first_byte w) 45) (negsuc (number_in (drop 1 w) - 1)) (pos (number_in w))

figure : (n : ℕ) → n < 2 ^ 64 → first_byte (decimal n) ≢ 45
figure n h = not_in_digits own (decimal n) 45 (digits_decimal own n h) (λ r. omega (arith, r.0)) 0 (decimal_nonempty n h)

abbrev pub IsSmall : ℤ → Type 0
IsSmall (pos n) = n < 2 ^ 63
IsSmall (negsuc n) = n < 2 ^ 63

pub signed_again : (z : ℤ) → IsSmall z → signed_in (signed_decimal z) ≡ z
signed_again (pos n) h =
    let fits : n < 2 ^ 64 = omega (arith, h) in
    cond-false (eqb (first_byte (decimal n)) 45) (negsuc (number_in (drop 1 (decimal n)) - 1)) (pos (number_in (decimal n))) (ne_eqb _ 45 (figure n fits))
    ∙ ap pos (number_again n fits)
signed_again (negsuc n) h =
    let one = number_again (suc n) (omega (arith, h)) in
    let back : suc n - 1 ≡ n = omega arith in
    ap (λ (m : ℕ). negsuc (m - 1)) one ∙ ap negsuc back

-- ---- dates

abbrev pub date_in : List ℕ → ℤ
date_in text = days_from_civil (pos (read_on 0 (take 4 text))) (read_on 0 (take 2 (drop 5 text))) (read_on 0 (take 2 (drop 8 text)))

pub date_again : (t : ℤ) (text : List ℕ) → IsDateText t text → date_in text ≡ t
date_again t text h =
    let told = IsDateText-none text (read_on 0 (take 4 text)) (read_on 0 (take 2 (drop 5 text))) (read_on 0 (take 2 (drop 8 text))) t refl refl refl h in
    sym told.1
