use Rattle.host_rates.specs.declared.reading.RatesFail.TheVariants as fail
use Rattle.host_rates.proofs.Tariffs.{price_rates, reading_some}
use Rattle.host_rates.proofs.Sound.{price_bounds}
use Rattle.host_rates.proofs.laws.prices_by_text.Goals as goal

pub returns-clause-tariff : goal.returns-clause-tariff
returns-clause-tariff c = record { sizes = reading_some fail.Toml fail.Form; prices = price_rates; bounds = price_bounds }
