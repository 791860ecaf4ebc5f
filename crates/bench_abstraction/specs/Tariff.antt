-- The rates of a run: what the host keeps of the text that was read last, and the price of a piece by it. Prices are in mills.
use Rattle.std.specs.Prelude.{◌≡◌, ℕ, List, Option, Result, option_map}
use Rattle.bench_base.specs.declared.refusals.RateRefusal.{RateRefusal}
use Rattle.bench_base.specs.Ledger.{Ledger, rates_in}
use Rattle.host_rates.specs.Tables.{RateTable, price_in}
use Rattle.host_rates.specs.Tariffs as texts
use Rattle.ledger_moves.specs.Tariffs.{Tariff, NoToml, NoForm}
use Rattle.ledger_moves.specs.Moves.{price_by}

-- the tariff reads and prices texts as TOML documents of the rate file's form
pub record IsOfTexts (τ : Tariff) : Type 0 where
  pub reading : (text : List ℕ) → τ.reading text ≡ texts.reading NoToml NoForm text
  pub price : (text : List ℕ) (class grams zone : ℕ) → τ.price text class grams zone ≡ texts.price text class grams zone

-- what a piece of this class and weight in this zone costs: nothing is said where there are no rates
abbrev pub Quote : Type 0
Quote = ℕ → ℕ → ℕ → Option (Result ℕ RateRefusal)

-- by the rates that are kept
abbrev pub quote : Option RateTable → Quote
quote kept class grams zone = option_map (price_in class grams zone) kept

-- by the ledger
abbrev pub quote_in : Tariff → Ledger → Quote
quote_in τ H class grams zone = price_by τ class grams zone (rates_in H)
