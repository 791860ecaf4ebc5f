use Rattle.std.proofs.Common.{◌≡◌, drop}
use Rattle.host_rates.specs.Reading.{differ}
use Rattle.host_rates.proofs.reading.differ.Given as goal

abbrev pub invariant-loop-place : goal.invariant-loop-place
invariant-loop-place l = differ l.classes ≡ differ (drop l.place l.classes)
