-- The tariff of texts.
use Rattle.std.proofs.Common.{ap, ◌≡◌, ℕ, List, length, Option, Some, None, Ok}
use Rattle.std.specs.Option.{option_and_then}
use Rattle.std.proofs.lemmas.Option.{none-some}
use Rattle.toml.specs.Data.{Members}
use Rattle.host_rates.specs.Tables.{RateTable, price_in}
use Rattle.host_rates.specs.Reading.{document, rates_in}
use Rattle.host_rates.specs.Answers.{AreRatesOf, answer_of}
use Rattle.host_rates.specs.Tariffs.{price, reading, sizes_of}

-- a document's rates, whatever values represent its faults
answer_of_some : {F : Type 0} → (no_toml no_form : F) (o : Option Members) (r : RateTable) → option_and_then rates_in o ≡ Some r → answer_of no_toml no_form o ≡ Ok r
answer_of_some no_toml no_form None r is = absurd (none-some r is)
answer_of_some no_toml no_form (Some ms) r is = rw is

pub reading_some : {F : Type 0} → (no_toml no_form : F) (text : List ℕ) (r : RateTable) → AreRatesOf text r → reading no_toml no_form text ≡ Ok (length r.classes, r.zones)
reading_some no_toml no_form text r is = ap sizes_of (answer_of_some no_toml no_form (document text) r is)

pub price_rates : (text : List ℕ) (r : RateTable) (class grams zone : ℕ) → AreRatesOf text r → price text class grams zone ≡ price_in class grams zone r
price_rates text r class grams zone is = rw is
