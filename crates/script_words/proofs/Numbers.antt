-- Numbers in decimal digits.
use Rattle.std.proofs.Common.{◌≡◌, ◌≢◌, ℕ, zero, suc, ◌^◌, ◌≤◌, ◌<◌, List, [], ◌∷◌, length, get_or, Option, Some, None, true, false, sym, ap, ◌∙◌, arith, rules, decimal, MatchOption, IsSome, ◌↔◌}
use Rattle.std.specs.Prelude.{IfSome, IfNone}
use Rattle.std.specs.Str.{all_ascii_digits}
use Rattle.std.proofs.lemmas.Bool.{false≢true}
use Rattle.std.proofs.lemmas.Str.Parse.{IsNumeralModel, numerals_by_fold, digits_value_short, tells_all_ascii_digits}
use Rattle.std.proofs.lemmas.Fmt.{digits_decimal, digits_value-decimal, decimal-digits_value, decimal_nonempty, length-decimal-le, first_decimal, decimal_digit, decimal_injective}
use Rattle.psd_audit.specs.Dates.{read_on}
use Rattle.script_words.proofs.Splits.{Printed}

pub own : IsNumeralModel (λ ds. all_ascii_digits ds ≡ true) (read_on 0)
own = numerals_by_fold _ tells_all_ascii_digits read_on (search rules)

pub wide : (n : ℕ) → n < 2 ^ 32 → n < 2 ^ 64
wide n h = omega (arith, h)

-- ---- words that are no number of 64 bits

pub not_empty : (w : List ℕ) → length w ≡ 0 → (n : ℕ) → n < 2 ^ 64 → w ≢ decimal n
not_empty w e n h is = let some = decimal_nonempty n h in omega (arith, some, ap length is, e)

not_zero_at : (w : List ℕ) (n : ℕ) → get_or w 0 0 ≡ 48 → 1 < length w → n < 2 ^ 64 → w ≡ decimal n → ⊥
not_zero_at w zero z long h is = let one = decimal_digit 0 (omega arith) in omega (arith, ap length (is ∙ one), long)
not_zero_at w (suc n) z long h is = let first = first_decimal (suc n) (omega arith) h in omega (arith, ap (λ v. get_or v 0 0) is, first, z)

pub not_zero : (w : List ℕ) → get_or w 0 0 ≡ 48 → 1 < length w → (n : ℕ) → n < 2 ^ 64 → w ≢ decimal n
not_zero w z long n h is = not_zero_at w n z long h is

pub not_digits : (w : List ℕ) → all_ascii_digits w ≡ false → (n : ℕ) → n < 2 ^ 64 → w ≢ decimal n
not_digits w e n h is = false≢true (sym e ∙ ap all_ascii_digits is ∙ digits_decimal own n h)

-- one of more than twenty digits
pub not_twenty : (w : List ℕ) → 20 < length w → (n : ℕ) → n < 2 ^ 64 → w ≢ decimal n
not_twenty w long n h is =
    let short = length-decimal-le 20 n (omega arith) (omega (arith, h)) h in omega (arith, short, ap length is, long)

-- ---- numbers of at most ten digits

pub not_long : (w : List ℕ) → 10 < length w → (n : ℕ) → n < 2 ^ 32 → w ≢ decimal n
not_long w long n h is =
    let short = length-decimal-le 10 n (omega arith) (omega (arith, h)) (wide n h) in omega (arith, short, ap length is, long)

is_number : (w : List ℕ) → all_ascii_digits w ≡ true → 0 < length w → length w ≤ 10 → (get_or w 0 0 ≡ 48 → length w ≡ 1)
    → (w ≡ decimal (read_on 0 w)) × (read_on 0 w < 10 ^ 10)
is_number w digits some short lead =
    let small = digits_value_short own w 10 digits short in
    (sym (decimal-digits_value own w digits some lead (omega (arith, small))), small)

pub number_found : (r : Option ℕ) (w : List ℕ) → 0 < length w → length w ≤ 10 → (get_or w 0 0 ≡ 48 → length w ≡ 1)
    → MatchOption r (all_ascii_digits w ≡ false) (λ n. (all_ascii_digits w ≡ true) × (n ≡ read_on 0 w)) → IfSome r (λ n. (w ≡ decimal n) × (n < 10 ^ 10))
number_found None w some short lead h = tt
number_found (Some n) w some short lead h =
    let found = is_number w h.0 some short lead in
    (found.0 ∙ ap decimal (sym h.1), omega (arith, found.1, h.1))

pub number_none : (r : Option ℕ) (w : List ℕ) → MatchOption r (all_ascii_digits w ≡ false) (λ n. (all_ascii_digits w ≡ true) × (n ≡ read_on 0 w))
    → IfNone r ((n : ℕ) → n < 2 ^ 32 → w ≢ decimal n)
number_none (Some n) w h = tt
number_none None w h = λ n small. not_digits w h n (wide n small)

-- ---- numbers of 64 bits

pub wide_found : (r : Option ℕ) (w : List ℕ) (v : ℕ) → 0 < length w → (get_or w 0 0 ≡ 48 → length w ≡ 1) → all_ascii_digits w ≡ true → v ≡ read_on 0 w
    → IfSome r (λ n. (n ≡ v) × (v < 2 ^ 64)) → IfSome r (λ n. w ≡ decimal n)
wide_found None w v some lead digits is h = tt
wide_found (Some n) w v some lead digits is h =
    sym (decimal-digits_value own w digits some lead (omega (arith, h.1, is))) ∙ ap decimal (sym is ∙ sym h.0)

pub wide_none : (r : Option ℕ) (w : List ℕ) (v : ℕ) → v ≡ read_on 0 w → IfNone r (2 ^ 64 ≤ v) → IfNone r ((n : ℕ) → n < 2 ^ 64 → w ≢ decimal n)
wide_none (Some n) w v is h = tt
wide_none None w v is h = λ n small e.
    let value : read_on 0 w ≡ n = ap (read_on 0) e ∙ digits_value-decimal own n small in omega (arith, value, is, h, small)

-- a word is one number
pub same_number : (w : List ℕ) (m n : ℕ) → m < 10 ^ 10 → n < 10 ^ 10 → w ≡ decimal m → w ≡ decimal n → m ≡ n
same_number w m n h k e f = decimal_injective m n (omega (arith, h)) (omega (arith, k)) (sym e ∙ f)

pub Printed-decimal : (n : ℕ) → n < 2 ^ 64 → Printed (decimal n)
Printed-decimal n h = digits_printed (decimal n) (digits_decimal own n h)
  where
    digits_printed : (ds : List ℕ) → all_ascii_digits ds ≡ true → Printed ds
    digits_printed [] h = tt
    digits_printed (c ∷ ds) h = let at = tells_all_ascii_digits.parts c ds h in (omega (arith, at.0.0), digits_printed ds at.1)

-- ---- numbers in a smaller range

-- the number of a word isn't in the range
pub none_within : (r : Option ℕ) (most v : ℕ) (w : List ℕ) → (IsSome r ↔ ((1 ≤ v) × (v ≤ most))) → most < 2 ^ 32 → v < 2 ^ 32 → w ≡ decimal v
    → IfNone r ((n : ℕ) → (1 ≤ n) × (n ≤ most) → w ≢ decimal n)
none_within (Some x) most v w h small range is = tt
none_within None most v w h small range is = λ n fits e.
    let same = same_number w v n (omega (arith, range)) (omega (arith, fits.1, small)) is e in
    let none : Option ℕ = None in
    let some : IsSome none = h.1 (omega (arith, same, fits.0), omega (arith, same, fits.1)) in absurd cc

-- so it is with a letter in front
pub none_behind : (r : Option ℕ) (most v : ℕ) (w rest : List ℕ) → (IsSome r ↔ ((1 ≤ v) × (v ≤ most))) → most < 2 ^ 32 → v < 2 ^ 32 → w ≡ 100 ∷ rest → rest ≡ decimal v
    → IfNone r ((n : ℕ) → (1 ≤ n) × (n ≤ most) → w ≢ 100 ∷ decimal n)
none_behind (Some x) most v w rest h small range front is = tt
none_behind None most v w rest h small range front is = λ n fits e.
    let inner : rest ≡ decimal n = cc in
    none_within None most v rest h small range is n fits inner
