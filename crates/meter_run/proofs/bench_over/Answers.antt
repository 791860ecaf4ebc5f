use Rattle.std.proofs.Common.{refl}
use Rattle.meter_run.proofs.bench_over.Goals as goal

pub new-requires-clause-fresh : goal.new-requires-clause-fresh
new-requires-clause-fresh c m nv at = record { powered = refl; unfused = refl }
