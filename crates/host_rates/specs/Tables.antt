-- The rates as a table: classes of mail, each with a price in every zone for each step of weight. Weights are in grams, prices in mills.
use Rattle.std.specs.Prelude.{◌≡◌, ◌≢◌, ℕ, ◌-◌, ◌<◌, ◌≤◌, List, length, map, find, All, AllPairs, Option, Some, None, Result, Ok, Err, ◌&&◌, ◌==◌, nat_le, slice_index, if◌then◌else◌}
use Rattle.bench_base.specs.declared.refusals.RateRefusal.{RateRefusal}
use Rattle.bench_base.specs.declared.refusals.RateRefusal.TheVariants as no

-- up to this weight, the price in each zone, from zone 1
pub record StepTable : Type 0 where
  pub grams : ℕ
  pub mills : List ℕ

-- a class of mail: its number, and its steps from light to heavy
pub record ClassTable : Type 0 where
  pub number : ℕ
  pub steps : List StepTable

-- all rates: how many zones there are, and the classes
pub record RateTable : Type 0 where
  pub zones : ℕ
  pub classes : List ClassTable

-- == prices ==

-- the class of this number
abbrev pub class_numbered : ℕ → RateTable → Option ClassTable
class_numbered n r = find (λ c. c.number == n) r.classes

-- the first step that goes up to the weight
abbrev pub step_for : ℕ → List StepTable → Option StepTable
step_for grams steps = find (λ s. nat_le grams s.grams) steps

-- the grams of the last step
abbrev pub max_grams : List StepTable → ℕ
max_grams steps = slice_index (map (λ s. s.grams) steps) (length steps - 1)

-- the price in the zone by the step that was found; without a step the piece is too heavy
abbrev pub step_price : ℕ → List StepTable → Option StepTable → Result ℕ RateRefusal
step_price zone steps None = Err (no.TooHeavy (max_grams steps))
step_price zone steps (Some s) = Ok (slice_index s.mills (zone - 1))

-- the price by the class that was found, unless the rates don't have the zone
abbrev pub class_price : ℕ → ℕ → ℕ → Option ClassTable → Result ℕ RateRefusal
class_price grams zone zones None = Err no.NoClass
class_price grams zone zones (Some c) =
    if nat_le 1 zone && nat_le zone zones then step_price zone c.steps (step_for grams c.steps) else Err (no.NoZone zones)

-- the price of a piece of this class and weight in this zone
abbrev pub price_in : ℕ → ℕ → ℕ → RateTable → Result ℕ RateRefusal
price_in class grams zone r = class_price grams zone r.zones (class_numbered class r)

-- == the form ==

abbrev pub IsPrice : ℕ → Type 0
IsPrice m = (1 ≤ m) × (m ≤ 100000)

-- a weight, and a price in each zone
pub record IsStep (zones : ℕ) (s : StepTable) : Type 0 where
  pub weight : (1 ≤ s.grams) × (s.grams ≤ 100000)
  pub each_zone : length s.mills ≡ zones
  pub prices : All IsPrice s.mills

-- a number, and steps, each for more grams than those before it
pub record IsClass (zones : ℕ) (c : ClassTable) : Type 0 where
  pub number : (1 ≤ c.number) × (c.number ≤ 65535)
  pub few : (1 ≤ length c.steps) × (length c.steps ≤ 64)
  pub steps : All (IsStep zones) c.steps
  pub rising : AllPairs (λ s t. s.grams < t.grams) c.steps

-- zones, and classes with different numbers
pub record IsRates (r : RateTable) : Type 0 where
  pub zoned : (1 ≤ r.zones) × (r.zones ≤ 9)
  pub few : (1 ≤ length r.classes) × (length r.classes ≤ 64)
  pub classes : All (IsClass r.zones) r.classes
  pub differing : AllPairs (λ c d. c.number ≢ d.number) r.classes
