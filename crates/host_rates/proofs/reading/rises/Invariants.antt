use Rattle.std.proofs.Common.{◌≡◌, drop}
use Rattle.host_rates.specs.Reading.{rises_above}
use Rattle.host_rates.proofs.reading.rises.Given as goal

abbrev pub invariant-loop-step : goal.invariant-loop-step
invariant-loop-step l = rises_above 0 l.steps ≡ rises_above l.last (drop l.step-index l.steps)
