-- What holds of all texts, documents and rates.
use Rattle.std.specs.Prelude.{◌≡◌, ℕ, List, length, Option, Some, Ok, option_map}
use Rattle.toml.specs.Data.{Members}
use Rattle.host_rates.specs.declared.reading.RatesFail.TheVariants as fail
use Rattle.host_rates.specs.Tables.{RateTable, IsPrice, IsRates, price_in}
use Rattle.host_rates.specs.Reading.{rates_in}
use Rattle.host_rates.specs.Written.{document_data}
use Rattle.host_rates.specs.Answers.{AreRatesOf}
use Rattle.host_rates.specs.Tariffs.{Keeps, price, reading}

-- rates of the form are read from their document, and nothing else is read
pub record ReadsTheForm : Type 0 where
  pub each_form : (r : RateTable) → IsRates r → rates_in (document_data r) ≡ Some r
  pub the_form : (ms : Members) (r : RateTable) → rates_in ms ≡ Some r → IsRates r

-- the tariff of a text is that of its rates
pub record PricesByText : Type 0 where
  pub sizes : (text : List ℕ) (r : RateTable) → AreRatesOf text r → reading fail.Toml fail.Form text ≡ Ok (length r.classes, r.zones)
  pub prices : (text : List ℕ) (r : RateTable) (class grams zone : ℕ) → AreRatesOf text r → price text class grams zone ≡ price_in class grams zone r
  pub bounds : (text : List ℕ) (class grams zone postage : ℕ) → price text class grams zone ≡ Ok postage → IsPrice postage

-- what is kept of a text has the prices of the text
abbrev pub KeptPrices : Type 0
KeptPrices = (text : Option (List ℕ)) (kept : Option RateTable) (class grams zone : ℕ) → Keeps text kept
    → option_map (price_in class grams zone) kept ≡ option_map (λ t. price t class grams zone) text
