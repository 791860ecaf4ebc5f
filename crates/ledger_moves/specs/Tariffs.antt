-- What a text of rates reads as, and the price that it gives. The laws hold for every such reading.
use Rattle.std.specs.Prelude.{◌≡◌, ℕ, ◌≤◌, List, Result, Ok}
use Rattle.bench_base.specs.declared.refusals.RateRefusal.{RateRefusal}

-- why a text of at most 65,536 bytes is no rates
pub data TextFault : Type 0 where
  NoToml : TextFault
  NoForm : TextFault

-- a way to read rates: what a text has, and its prices
pub record Tariff : Type 0 where
  -- how many classes and zones the text has
  pub reading : List ℕ → Result (ℕ × ℕ) TextFault
  -- the postage by class, weight in grams and zone, in mills
  pub price : List ℕ → ℕ → ℕ → ℕ → Result ℕ RateRefusal
  pub bounds : (text : List ℕ) (class grams zone postage : ℕ) → price text class grams zone ≡ Ok postage → (1 ≤ postage) × (postage ≤ 100000)
