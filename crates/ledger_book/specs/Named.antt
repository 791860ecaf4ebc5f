-- What a job names: its device and its piece.
use Rattle.std.specs.Prelude.{ℕ, Option, Some, None}
use Rattle.bench_base.specs.Jobs.{Job}

abbrev pub named : Option Job → Option (ℕ × ℕ)
named None = None
named (Some job) = Some (job.device, job.piece)
