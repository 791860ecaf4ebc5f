use Rattle.host_rates.specs.Tables.{IsRates}
use Rattle.host_rates.specs.Reading.{rates_in}
use Rattle.host_rates.proofs.Sound.{IfSome-at, rates_in_sound}
use Rattle.host_rates.proofs.Written.{rates_in_written}
use Rattle.host_rates.proofs.laws.reads_the_form.Goals as goal

pub returns : goal.returns
returns c = record { each_form = rates_in_written; the_form = λ ms r is. IfSome-at IsRates (rates_in ms) r is (rates_in_sound ms) }
