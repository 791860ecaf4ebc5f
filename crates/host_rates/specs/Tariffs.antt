-- The tariff of TOML texts: what a text of rates reads as, and the price that it gives.
use Rattle.std.specs.Prelude.{ℕ, List, length, Option, Some, None, Result, Ok, Err, ⊤}
use Rattle.bench_base.specs.declared.{refusals.RateRefusal.RateRefusal, refusals.RateRefusal.TheVariants.NoClass}
use Rattle.host_rates.specs.Tables.{RateTable, price_in}
use Rattle.host_rates.specs.Reading.{rates_of}
use Rattle.host_rates.specs.Answers.{AreRatesOf, rates_or}

-- how many classes and zones rates have that were read, or why they were not
abbrev pub sizes_of : {F : Type 0} → Result RateTable F → Result (ℕ × ℕ) F
sizes_of (Err fault) = Err fault
sizes_of (Ok r) = Ok (length r.classes, r.zones)

-- how many classes and zones the text has; otherwise no_toml if it is no document, and no_form if that is no rate file
abbrev pub reading : {F : Type 0} → F → F → List ℕ → Result (ℕ × ℕ) F
reading no_toml no_form text = sizes_of (rates_or no_toml no_form text)

-- the price of a piece by the rates that are there
abbrev pub price_by : ℕ → ℕ → ℕ → Option RateTable → Result ℕ RateRefusal
price_by class grams zone None = Err NoClass
price_by class grams zone (Some r) = price_in class grams zone r

-- the price by the rates of the text, in mills; a text without rates has no class
abbrev pub price : List ℕ → ℕ → ℕ → ℕ → Result ℕ RateRefusal
price text class grams zone = price_by class grams zone (rates_of text)

-- what is kept of a text are its rates
abbrev pub Keeps : Option (List ℕ) → Option RateTable → Type 0
Keeps None None = ⊤
Keeps (Some text) (Some r) = AreRatesOf text r
Keeps None (Some r) = ⊥
Keeps (Some text) None = ⊥
