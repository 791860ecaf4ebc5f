-- Rates are read from their document.
use Rattle.std.proofs.Common.{refl, sym, suc, ◌≡◌, ◌≢◌, ℕ, ◌<◌, ◌≤◌, List, [], ◌∷◌, Option, Some, true, false, ◌&&◌, ◌==◌, All, AllPairs, length, map, nat_le, arith}
use Rattle.std.proofs.lemmas.Bool.{le-leb, eq-eqb, lt-ltb, false_from_ne_true, eqb-true}
use Rattle.std.proofs.lemmas.List.Elements.{All-head, All-tail}
use Rattle.toml.specs.Data.{Data}
use Rattle.toml.specs.View.{items_of}
use Rattle.host_rates.specs.Tables.{StepTable, ClassTable, RateTable, IsPrice, IsStep, IsClass, IsRates}
use Rattle.host_rates.specs.Reading.{each, whole, mills_of, step_of, class_of, rates_in, rises_above, has_number, differ}
use Rattle.host_rates.specs.Written.{number_data, array_data, step_data, class_data, document_data}

each_written : {A : Type 0} → (f : Data → Option A) (g : A → Data) (xs : List A) → All (λ a. f (g a) ≡ Some a) xs → each f (items_of (map g xs)) ≡ Some xs
each_written f g [] all = refl
each_written f g (x ∷ xs) all = rw (All-head (λ a. f (g a) ≡ Some a) x xs all, each_written f g xs (All-tail (λ a. f (g a) ≡ Some a) x xs all))

in_range : (low high n : ℕ) → (low ≤ n) × (n ≤ high) → (nat_le low n && nat_le n high) ≡ true
in_range low high n h = rw (le-leb low n h.0, le-leb n high h.1)

whole_written : (greatest n : ℕ) → (1 ≤ n) × (n ≤ greatest) → whole greatest (number_data n) ≡ Some n
whole_written greatest n h = rw (in_range 1 greatest n h)

mills_of_written : (zones : ℕ) (ms : List ℕ) → length ms ≡ zones → All IsPrice ms → mills_of zones (array_data number_data ms) ≡ Some ms
mills_of_written zones ms same prices =
    rw (each_written (whole 100000) number_data ms (λ k d inside. whole_written 100000 _ (prices k d inside)), eq-eqb (length ms) zones same)

step_of_written : (zones : ℕ) (s : StepTable) → IsStep zones s → step_of zones (step_data s) ≡ Some s
step_of_written zones s h = rw (whole_written 100000 s.grams h.weight, mills_of_written zones s.mills h.each_zone h.prices)

AllPairs-head : {A : Type 0} → (R : A → A → Type 0) (x : A) (xs : List A) → AllPairs R (x ∷ xs) → All (R x) xs
AllPairs-head R x xs h k d inside = h 0 (suc k) d (omega arith) (omega (arith, inside))

AllPairs-tail : {A : Type 0} → (R : A → A → Type 0) (x : A) (xs : List A) → AllPairs R (x ∷ xs) → AllPairs R xs
AllPairs-tail R x xs h i j d low inside = h (suc i) (suc j) d (omega (arith, low)) (omega (arith, inside))

rises_above_rising : (grams : ℕ) (steps : List StepTable) → All (λ s. grams < s.grams) steps → AllPairs (λ s t. s.grams < t.grams) steps → rises_above grams steps ≡ true
rises_above_rising grams [] low rising = refl
rises_above_rising grams (s ∷ steps) low rising =
    let lower = λ (a b : StepTable). a.grams < b.grams in
    let first : grams < s.grams = All-head (λ (t : StepTable). grams < t.grams) s steps low in
    let rest = rises_above_rising s.grams steps (AllPairs-head (λ (a b : StepTable). a.grams < b.grams) s steps rising) (AllPairs-tail (λ (a b : StepTable). a.grams < b.grams) s steps rising) in
    rw (lt-ltb grams s.grams first, rest)

has_number_others : (n : ℕ) (cs : List ClassTable) → All (λ c. n ≢ c.number) cs → has_number n cs ≡ false
has_number_others n [] h = refl
has_number_others n (c ∷ cs) h =
    let other : (c.number == n) ≡ false = false_from_ne_true (c.number == n) (λ same. All-head (λ (x : ClassTable). n ≢ x.number) c cs h (sym (eqb-true c.number n same))) in
    rw (other, has_number_others n cs (All-tail (λ (x : ClassTable). n ≢ x.number) c cs h))

differ_differing : (cs : List ClassTable) → AllPairs (λ c d. c.number ≢ d.number) cs → differ cs ≡ true
differ_differing [] h = refl
differ_differing (c ∷ cs) h =
    let first = has_number_others c.number cs (AllPairs-head (λ (a b : ClassTable). a.number ≢ b.number) c cs h) in
    let rest = differ_differing cs (AllPairs-tail (λ (a b : ClassTable). a.number ≢ b.number) c cs h) in
    rw (first, rest)

heavy : (zones : ℕ) (steps : List StepTable) → All (IsStep zones) steps → All (λ s. 0 < s.grams) steps
heavy zones steps h k d inside = omega (arith, (h k d inside).weight)

class_of_written : (zones : ℕ) (c : ClassTable) → IsClass zones c → class_of zones (class_data c) ≡ Some c
class_of_written zones c h =
    let steps = each_written (step_of zones) step_data c.steps (λ k d inside. step_of_written zones _ (h.steps k d inside)) in
    let rises = rises_above_rising 0 c.steps (heavy zones c.steps h.steps) h.rising in
    rw (whole_written 65535 c.number h.number, steps, in_range 1 64 (length c.steps) h.few, rises)

pub rates_in_written : (r : RateTable) → IsRates r → rates_in (document_data r) ≡ Some r
rates_in_written r h =
    let classes = each_written (class_of r.zones) class_data r.classes (λ k d inside. class_of_written r.zones _ (h.classes k d inside)) in
    rw (whole_written 9 r.zones h.zoned, classes, in_range 1 64 (length r.classes) h.few, differ_differing r.classes h.differing)
