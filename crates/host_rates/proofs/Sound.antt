-- What holds of the rates of every text.
use Rattle.std.proofs.Common.{subst, refl, sym, ◌≡◌, ℕ, ◌-◌, ◌<◌, ◌≤◌, Ok, IfOk, pos, negsuc, List, [], ◌∷◌, Option, Some, None, Bool, true, false, ◌&&◌, ◌==◌, not, nat_lt, ◌≢◌, All, AllPairs, IfSome, find, cond, length, option_map, codes, nat_le, arith}
use Rattle.std.specs.Option.{option_and_then}
use Rattle.std.proofs.lemmas.Bool.{and_parts, or_parts, not-true, eqb-true, eqb-false, leb-true, ltb-true}
use Rattle.std.proofs.lemmas.List.Elements.{All-head, All-tail, All-nil, All-cons}
use Rattle.std.proofs.lemmas.List.Kept.{AllPairs-cons}
use Rattle.std.proofs.lemmas.Result.{IfOk-at_ok}
use Rattle.std.proofs.lemmas.Option.{none-some, same_Some}
use Rattle.toml.specs.Data.{Data, string, integer, float, boolean, datetime, array, table, Items, no_items, item, Members}
use Rattle.host_rates.specs.Tables.{StepTable, ClassTable, RateTable, IsPrice, IsStep, IsClass, IsRates, step_for, step_price, class_price, price_in, class_numbered}
use Rattle.host_rates.specs.Reading.{each, listed, whole, where_holds, mills_of, step_of, steps_of, class_of, classes_of, rates_in, rates_of, document, two, two_in, both, is_few, rises_above, has_number, differ}
use Rattle.host_rates.specs.Tariffs.{price, price_by}

-- == what an option holds ==

pub IfSome-at : {A : Type 0} → (P : A → Type 0) (o : Option A) (x : A) → o ≡ Some x → IfSome o P → P x
IfSome-at P None x is h = absurd (none-some x is)
IfSome-at P (Some y) x is h = subst P (same_Some y x is) h

IfSome-and_then : {A B : Type 0} → (P : A → Type 0) (Q : B → Type 0) (g : A → Option B) (o : Option A) → IfSome o P → ((a : A) → P a → IfSome (g a) Q) → IfSome (option_and_then g o) Q
IfSome-and_then P Q g None h more = tt
IfSome-and_then P Q g (Some a) h more = more a h

IfSome-map : {A B : Type 0} → (P : A → Type 0) (Q : B → Type 0) (g : A → B) (o : Option A) → IfSome o P → ((a : A) → P a → Q (g a)) → IfSome (option_map g o) Q
IfSome-map P Q g None h more = tt
IfSome-map P Q g (Some a) h more = more a h

IfSome-where_holds : {A : Type 0} → (P : A → Type 0) (b : Bool) (x : A) → (b ≡ true → P x) → IfSome (where_holds b x) P
IfSome-where_holds P true x h = h refl
IfSome-where_holds P false x h = tt

any_of : {A : Type 0} → (o : Option A) → IfSome o (λ a. Unit {0})
any_of None = tt
any_of (Some a) = tt

IfSome-both : {A B : Type 0} → (P : A → Type 0) (Q : B → Type 0) (o : Option A) (p : Option B) → IfSome o P → IfSome p Q → IfSome (both o p) (λ q. P q.0 × Q q.1)
IfSome-both P Q None p g h = tt
IfSome-both P Q (Some a) None g h = tt
IfSome-both P Q (Some a) (Some b) g h = (g, h)

-- == arrays ==

-- what holds of each value that f takes holds of all that were read
All-each : {A : Type 0} → (f : Data → Option A) (P : A → Type 0) (ds : Items) → ((d : Data) → IfSome (f d) P) → IfSome (each f ds) (All P)
All-each f P no_items takes = All-nil P
All-each f P (item d ds) takes =
    IfSome-and_then P (All P) _ (f d) (takes d) (λ a here. IfSome-map (All P) (All P) _ (each f ds) (All-each f P ds takes) (λ xs rest. All-cons P a xs here rest))

All-listed : {A : Type 0} → (f : Data → Option A) (P : A → Type 0) (d : Data) → ((d : Data) → IfSome (f d) P) → IfSome (listed f d) (All P)
All-listed f P (string s) takes = tt
All-listed f P (integer z) takes = tt
All-listed f P (float x) takes = tt
All-listed f P (boolean b) takes = tt
All-listed f P (datetime t) takes = tt
All-listed f P (array ds) takes = All-each f P ds takes
All-listed f P (table ms) takes = tt

within : (greatest n : ℕ) → (nat_le 1 n && nat_le n greatest) ≡ true → (1 ≤ n) × (n ≤ greatest)
within greatest n h = let (low, high) = and_parts (nat_le 1 n) (nat_le n greatest) h in (leb-true 1 n low, leb-true n greatest high)

whole_within : (greatest : ℕ) (d : Data) → IfSome (whole greatest d) (λ n. (1 ≤ n) × (n ≤ greatest))
whole_within greatest (string s) = tt
whole_within greatest (integer (pos n)) = IfSome-where_holds _ (nat_le 1 n && nat_le n greatest) n (within greatest n)
whole_within greatest (integer (negsuc n)) = tt
whole_within greatest (float x) = tt
whole_within greatest (boolean b) = tt
whole_within greatest (datetime t) = tt
whole_within greatest (array ds) = tt
whole_within greatest (table ms) = tt

-- == order ==

above : (grams : ℕ) (steps : List StepTable) → rises_above grams steps ≡ true → All (λ s. grams < s.grams) steps
above grams [] h = All-nil (λ (s : StepTable). grams < s.grams)
above grams (s ∷ steps) h =
    let (first, rest) = and_parts (nat_lt grams s.grams) (rises_above s.grams steps) h in
    let low : grams < s.grams = ltb-true grams s.grams first in
    All-cons (λ (t : StepTable). grams < t.grams) s steps low (λ k d inside. omega (arith, low, above s.grams steps rest k d inside))

rising : (grams : ℕ) (steps : List StepTable) → rises_above grams steps ≡ true → AllPairs (λ s t. s.grams < t.grams) steps
rising grams [] h = λ i j d low inside. absurd (omega (arith, low, inside))
rising grams (s ∷ steps) h =
    let (first, rest) = and_parts (nat_lt grams s.grams) (rises_above s.grams steps) h in
    AllPairs-cons (λ (a b : StepTable). a.grams < b.grams) s steps (above s.grams steps rest) (rising s.grams steps rest)

others : (n : ℕ) (cs : List ClassTable) → has_number n cs ≡ false → All (λ c. n ≢ c.number) cs
others n [] h = All-nil (λ (c : ClassTable). n ≢ c.number)
others n (c ∷ cs) h =
    let (first, rest) = or_parts (c.number == n) (has_number n cs) h in
    All-cons (λ (x : ClassTable). n ≢ x.number) c cs (λ same. eqb-false c.number n first (sym same)) (others n cs rest)

differing : (cs : List ClassTable) → differ cs ≡ true → AllPairs (λ c d. c.number ≢ d.number) cs
differing [] h = λ i j d low inside. absurd (omega (arith, low, inside))
differing (c ∷ cs) h =
    let (first, rest) = and_parts (not (has_number c.number cs)) (differ cs) h in
    AllPairs-cons (λ (a b : ClassTable). a.number ≢ b.number) c cs (others c.number cs (not-true (has_number c.number cs) first)) (differing cs rest)

-- == the rate file ==

mills_of_sound : (zones : ℕ) (d : Data) → IfSome (mills_of zones d) (λ ms. (length ms ≡ zones) × All IsPrice ms)
mills_of_sound zones d =
    IfSome-and_then (All IsPrice) _ _ (listed (whole 100000) d) (All-listed (whole 100000) IsPrice d (whole_within 100000))
    (λ ms priced. IfSome-where_holds _ (length ms == zones) ms (λ same. (eqb-true (length ms) zones same, priced)))

step_of_sound : (zones : ℕ) (d : Data) → IfSome (step_of zones d) (IsStep zones)
step_of_sound zones d =
    IfSome-and_then (λ q. ((1 ≤ q.0) × (q.0 ≤ 100000)) × ((length q.1 ≡ zones) × All IsPrice q.1)) (IsStep zones) _ _
    (IfSome-and_then (λ p. Unit {0}) _ _ (two (codes "grams") (codes "mills") d) (any_of _)
    (λ p h. IfSome-both _ _ (whole 100000 p.0) _ (whole_within 100000 p.0) (mills_of_sound zones p.1)))
    (λ q h. record { weight = h.0; each_zone = h.1.0; prices = h.1.1 })

record AreSteps (zones : ℕ) (steps : List StepTable) : Type 0 where
  few : (1 ≤ length steps) × (length steps ≤ 64)
  sound : All (IsStep zones) steps
  rising : AllPairs (λ s t. s.grams < t.grams) steps

steps_of_sound : (zones : ℕ) (d : Data) → IfSome (steps_of zones d) (AreSteps zones)
steps_of_sound zones d =
    IfSome-and_then (All (IsStep zones)) (AreSteps zones) _ (listed (step_of zones) d) (All-listed (step_of zones) (IsStep zones) d (step_of_sound zones))
    (λ steps each_sound. IfSome-where_holds (AreSteps zones) (is_few steps && rises_above 0 steps) steps
    (λ h. let both_hold = and_parts (is_few steps) (rises_above 0 steps) h in
    record { few = within 64 (length steps) both_hold.0; sound = each_sound; rising = rising 0 steps both_hold.1 }))

class_of_sound : (zones : ℕ) (d : Data) → IfSome (class_of zones d) (IsClass zones)
class_of_sound zones d =
    IfSome-and_then (λ q. ((1 ≤ q.0) × (q.0 ≤ 65535)) × AreSteps zones q.1) (IsClass zones) _ _
    (IfSome-and_then (λ p. Unit {0}) _ _ (two (codes "number") (codes "steps") d) (any_of _)
    (λ p h. IfSome-both _ (AreSteps zones) (whole 65535 p.0) _ (whole_within 65535 p.0) (steps_of_sound zones p.1)))
    (λ q h. record { number = h.0; few = h.1.few; steps = h.1.sound; rising = h.1.rising })

pub record AreClasses (zones : ℕ) (cs : List ClassTable) : Type 0 where
  pub few : (1 ≤ length cs) × (length cs ≤ 64)
  pub sound : All (IsClass zones) cs
  pub differing : AllPairs (λ c d. c.number ≢ d.number) cs

classes_of_sound : (zones : ℕ) (d : Data) → IfSome (classes_of zones d) (AreClasses zones)
classes_of_sound zones d =
    IfSome-and_then (All (IsClass zones)) (AreClasses zones) _ (listed (class_of zones) d) (All-listed (class_of zones) (IsClass zones) d (class_of_sound zones))
    (λ cs each_sound. IfSome-where_holds (AreClasses zones) (is_few cs && differ cs) cs
    (λ h. let both_hold = and_parts (is_few cs) (differ cs) h in
    record { few = within 64 (length cs) both_hold.0; sound = each_sound; differing = differing cs both_hold.1 }))

-- zones and classes that were read make rates
pub rates_sound : (zones_data classes_data : Data) (zones : ℕ) (cs : List ClassTable) → whole 9 zones_data ≡ Some zones → classes_of zones classes_data ≡ Some cs → IsRates (record { zones = zones; classes = cs })
rates_sound zones_data classes_data zones cs zones_is classes_is =
    let sound = IfSome-at (AreClasses zones) (classes_of zones classes_data) cs classes_is (classes_of_sound zones classes_data) in
    record {
      zoned = IfSome-at (λ n. (1 ≤ n) × (n ≤ 9)) (whole 9 zones_data) zones zones_is (whole_within 9 zones_data);
      few = sound.few;
      classes = sound.sound;
      differing = sound.differing;
    }

pub rates_in_sound : (ms : Members) → IfSome (rates_in ms) IsRates
rates_in_sound ms =
    IfSome-and_then (λ p. Unit {0}) IsRates _ (two_in (codes "zones") (codes "class") ms) (any_of _)
    (λ p h. IfSome-and_then (λ z. (1 ≤ z) × (z ≤ 9)) IsRates _ (whole 9 p.0) (whole_within 9 p.0)
    (λ zones zoned. IfSome-map (AreClasses zones) IsRates _ (classes_of zones p.1) (classes_of_sound zones p.1)
    (λ cs sound. record { zoned = zoned; few = sound.few; classes = sound.sound; differing = sound.differing })))

-- == what is found ==

IfSome-find_first : {X : Type 0} → (P : X → Type 0) (x : X) (b : Bool) (more : Option X) → P x → IfSome more P → IfSome (cond b (Some x) more) P
IfSome-find_first P x true more here rest = here
IfSome-find_first P x false more here rest = rest

-- what holds of each holds of the one that is found
pub IfSome-find : {X : Type 0} → (test : X → Bool) (P : X → Type 0) (xs : List X) → All P xs → IfSome (find test xs) P
IfSome-find test P [] all = tt
IfSome-find test P (x ∷ xs) all = IfSome-find_first P x (test x) (find test xs) (All-head P x xs all) (IfSome-find test P xs (All-tail P x xs all))

-- the rates of a text are of the form
pub rates_of_sound : (text : List ℕ) → IfSome (rates_of text) IsRates
rates_of_sound text = IfSome-and_then (λ ms. Unit {0}) IsRates rates_in (document text) (any_of _) (λ ms h. rates_in_sound ms)

-- == prices ==

step_price_bounds : (zone zones : ℕ) (steps : List StepTable) (o : Option StepTable) → 1 ≤ zone → zone ≤ zones → IfSome o (IsStep zones) → IfOk (step_price zone steps o) IsPrice
step_price_bounds zone zones steps None low high sound = tt
step_price_bounds zone zones steps (Some s) low high sound =
    let inside : zone - 1 < length s.mills = omega (arith, sound.each_zone) in sound.prices (zone - 1) 0 inside

class_price_bounds : (grams zone zones : ℕ) (o : Option ClassTable) (b : Bool) → b ≡ (nat_le 1 zone && nat_le zone zones) → IfSome o (IsClass zones) → IfOk (class_price grams zone zones o) IsPrice
class_price_bounds grams zone zones None b is sound = tt
class_price_bounds grams zone zones (Some c) false is sound = rw (← is) tt
class_price_bounds grams zone zones (Some c) true is sound =
    let there = within zones zone (sym is) in
    rw (← is) (step_price_bounds zone zones c.steps (step_for grams c.steps) there.0 there.1 (IfSome-find _ (IsStep zones) c.steps sound.steps))

pub price_in_bounds : (class grams zone : ℕ) (r : RateTable) → IsRates r → IfOk (price_in class grams zone r) IsPrice
price_in_bounds class grams zone r sound = class_price_bounds grams zone r.zones (class_numbered class r) _ refl (IfSome-find _ (IsClass r.zones) r.classes sound.classes)

price_by_bounds : (class grams zone : ℕ) (o : Option RateTable) → IfSome o IsRates → IfOk (price_by class grams zone o) IsPrice
price_by_bounds class grams zone None sound = tt
price_by_bounds class grams zone (Some r) sound = price_in_bounds class grams zone r sound

-- each price is from 1 to 100,000 mills
pub price_bounds : (text : List ℕ) (class grams zone postage : ℕ) → price text class grams zone ≡ Ok postage → (1 ≤ postage) × (postage ≤ 100000)
price_bounds text class grams zone postage is = IfOk-at_ok IsPrice is (price_by_bounds class grams zone (rates_of text) (rates_of_sound text))
