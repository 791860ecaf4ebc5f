-- What two entries after each other add, and the digits of a number one after another.
use Rattle.std.proofs.Common.{◌≡◌, ℕ, ◌+◌, ◌<◌, ◌≤◌, ◌/◌, ◌%◌, ◌^◌, Bool, List, [], ◌∷◌, ◌++◌, sym, ◌∙◌, ap, subst, append_assoc, arith}
use Rattle.std.specs.Fmt.{decimal}
use Rattle.std.proofs.lemmas.Fmt.{decimal_digit, decimal_step}
use Rattle.audit_sheet.specs.Sheets.{Adds, own_byte}

-- one after the other
pub Adds-both : {a b x y z : List ℕ} {p q r : Bool} → Adds a x y p q → Adds b y z q r → Adds (a ++ b) x z p r
Adds-both {a} {b} {x} first second = record {
  whole = λ h. first.whole (second.whole h);
  bytes = λ h. second.bytes h ∙ ap (λ (l : List ℕ). l ++ b) (first.bytes (second.whole h)) ∙ append_assoc x a b;
}

-- a digit is printable ASCII
pub digit_own : (d : ℕ) → d < 10 → own_byte (48 + d) ≡ (48 + d) ∷ []
digit_own d small = grind arith

-- a number of one digit
pub decimal_one : (n : ℕ) {x y : List ℕ} {p q : Bool} → n < 10 → Adds ((48 + n) ∷ []) x y p q → Adds (decimal n) x y p q
decimal_one n {x} {y} {p} {q} small added = subst (λ (l : List ℕ). Adds l x y p q) (sym (decimal_digit n small)) added

-- a number with one digit more
pub decimal_more : (n : ℕ) {x y z : List ℕ} {p q r : Bool} → 10 ≤ n → n < 2 ^ 64 → Adds (decimal (n / 10)) x y p q → Adds ((48 + n % 10) ∷ []) y z q r → Adds (decimal n) x z p r
decimal_more n {x} {y} {z} {p} {q} {r} big fits first second = subst (λ (l : List ℕ). Adds l x z p r) (sym (decimal_step n big fits)) (Adds-both first second)
