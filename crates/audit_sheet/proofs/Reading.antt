-- What the digits of an amount read as, group after group.
use Rattle.std.proofs.Common.{◌≡◌, ℕ, ◌+◌, ◌-◌, ◌*◌, ◌<◌, ◌≤◌, ◌/◌, ◌%◌, ◌^◌, Bool, refl, List, [], ◌∷◌, ◌++◌, sym, ◌∙◌, ap, subst, inl, inr, arith}
use Rattle.std.specs.Prelude.{◌⊎◌, codes, nat_le, ◌&&◌, if◌then◌else◌}
use Rattle.std.specs.Fmt.{decimal}
use Rattle.std.proofs.lemmas.Fmt.{decimal_digit, decimal_by_steps}
use Rattle.audit_sheet.specs.Sheets.{Adds, AddsDigits, AddsMills, AddsNumber, own_bytes, read_on}
use Rattle.audit_sheet.proofs.Adding.{Adds-both}

-- one text after the other
pub read-both : (xs ys : List ℕ) (n : ℕ) → read_on n (xs ++ ys) ≡ read_on (read_on n xs) ys
read-both [] ys n = refl
read-both (x ∷ xs) ys n = read-both xs ys (if nat_le 48 x && nat_le x 57 then n * 10 + (x - 48) else n)

-- one digit
pub read-digit : (n d : ℕ) → d < 10 → read_on n ((48 + d) ∷ []) ≡ n * 10 + d
read-digit n d small = grind arith

-- a digit as a number
pub read-small : (n d : ℕ) → d < 10 → read_on n (decimal d) ≡ n * 10 + d
read-small n d small = ap (read_on n) (decimal_digit d small) ∙ read-digit n d small

read-step : (n : ℕ) (ds : List ℕ) → 10 ≤ n → read_on 0 ds ≡ n / 10 → read_on 0 (ds ++ ((48 + n % 10) ∷ [])) ≡ n
read-step n ds big before = read-both ds ((48 + n % 10) ∷ []) 0 ∙ ap (λ (m : ℕ). read_on m ((48 + n % 10) ∷ [])) before ∙ read-digit (n / 10) (n % 10) (omega arith) ∙ omega arith

-- a number
pub read-decimal : (n : ℕ) → n < 2 ^ 64 → read_on 0 (decimal n) ≡ n
read-decimal n fits = decimal_by_steps (λ (m : ℕ) (ds : List ℕ). read_on 0 ds ≡ m) (λ m small. read-digit 0 m small ∙ omega arith) (λ m ds big before. read-step m ds big before) n fits

pub two_digits : (n : ℕ) {x y z : List ℕ} {p q r : Bool} → n < 100 → Adds (decimal (n / 10)) x y p q → Adds (decimal (n % 10)) y z q r → AddsDigits n 100 x z p r
two_digits n small first second = record {
  text = decimal (n / 10) ++ decimal (n % 10);
  adds = Adds-both first second;
  reads = λ m. read-both (decimal (n / 10)) (decimal (n % 10)) m ∙ ap (λ (k : ℕ). read_on k (decimal (n % 10))) (read-small m (n / 10) (omega arith)) ∙ read-small (m * 10 + n / 10) (n % 10) (omega arith) ∙ omega arith;
}

pub three_digits : (n : ℕ) {x y z : List ℕ} {p q r : Bool} → n < 1000 → Adds (decimal (n / 100)) x y p q → AddsDigits (n % 100) 100 y z q r → AddsDigits n 1000 x z p r
three_digits n small first second = record {
  text = decimal (n / 100) ++ second.text;
  adds = Adds-both first second.adds;
  reads = λ m. read-both (decimal (n / 100)) second.text m ∙ second.reads (read_on m (decimal (n / 100))) ∙ ap (λ (k : ℕ). k * 100 + n % 100) (read-small m (n / 100) (omega arith)) ∙ omega arith;
}

pub group_one : (n : ℕ) {x y : List ℕ} {p q : Bool} → n < 1000 → Adds (decimal n) x y p q → AddsNumber n x y p q
group_one n small added = record { text = decimal n; adds = added; reads = read-decimal n (omega arith) }

pub group_more : (n : ℕ) {x y z w : List ℕ} {p q r s : Bool} → AddsNumber (n / 1000) x y p q → Adds (own_bytes (codes ",")) y z q r → AddsDigits (n % 1000) 1000 z w r s → AddsNumber n x w p s
group_more n first comma second = record {
  text = first.text ++ own_bytes (codes ",") ++ second.text;
  adds = Adds-both (Adds-both first.adds comma) second.adds;
  reads = read-both (first.text ++ own_bytes (codes ",")) second.text 0 ∙ second.reads (read_on 0 (first.text ++ own_bytes (codes ","))) ∙ ap (λ (k : ℕ). k * 1000 + n % 1000) (read-both first.text (own_bytes (codes ",")) 0 ∙ first.reads) ∙ omega arith;
}

-- the dollars, up to the point
record Front (dollars : ℕ) (before after : List ℕ) (was is : Bool) : Type 0 where
  text : List ℕ
  adds : Adds text before after was is
  reads : read_on 0 text ≡ dollars

front : (d : ℕ) {x y z w : List ℕ} {p q r s : Bool} → Adds (own_bytes (codes "$")) x y p q → AddsNumber d y z q r → Adds (own_bytes (codes ".")) z w r s → Front d x w p s
front d dollar number point = record {
  text = own_bytes (codes "$") ++ number.text ++ own_bytes (codes ".");
  adds = Adds-both (Adds-both dollar number.adds) point;
  reads = read-both (own_bytes (codes "$") ++ number.text) (own_bytes (codes ".")) 0 ∙ read-both (own_bytes (codes "$")) number.text 0 ∙ number.reads;
}

pub dollars_three : (m : ℕ) {x y z w v : List ℕ} {p q r s t : Bool} → Adds (own_bytes (codes "$")) x y p q → AddsNumber (m / 1000) y z q r → Adds (own_bytes (codes ".")) z w r s → AddsDigits (m % 1000) 1000 w v s t → AddsMills m x v p t
dollars_three m dollar number point digits = let f = front (m / 1000) dollar number point in record {
  text = f.text ++ digits.text;
  adds = Adds-both f.adds digits.adds;
  reads = inl (read-both f.text digits.text 0 ∙ digits.reads (read_on 0 f.text) ∙ ap (λ (k : ℕ). k * 1000 + m % 1000) f.reads ∙ omega arith);
}

pub dollars_two : (m : ℕ) {x y z w v : List ℕ} {p q r s t : Bool} → m % 1000 % 10 ≡ 0 → Adds (own_bytes (codes "$")) x y p q → AddsNumber (m / 1000) y z q r → Adds (own_bytes (codes ".")) z w r s → AddsDigits (m % 1000 / 10) 100 w v s t → AddsMills m x v p t
dollars_two m whole dollar number point digits = let f = front (m / 1000) dollar number point in record {
  text = f.text ++ digits.text;
  adds = Adds-both f.adds digits.adds;
  reads = inr (ap (λ (k : ℕ). k * 10) (read-both f.text digits.text 0 ∙ digits.reads (read_on 0 f.text) ∙ ap (λ (k : ℕ). k * 100 + m % 1000 / 10) f.reads) ∙ omega arith);
}

pub with_minus : (m : ℕ) {x y z : List ℕ} {p q r : Bool} → Adds (own_bytes (codes "&minus;")) x y p q → AddsMills m y z q r → AddsMills m x z p r
with_minus m minus amount = record {
  text = own_bytes (codes "&minus;") ++ amount.text;
  adds = Adds-both minus amount.adds;
  reads = subst (λ (k : ℕ). (k ≡ m) ⊎ (k * 10 ≡ m)) (sym (read-both (own_bytes (codes "&minus;")) amount.text 0)) amount.reads;
}
