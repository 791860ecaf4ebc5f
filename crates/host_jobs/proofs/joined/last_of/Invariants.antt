use Rattle.std.proofs.Common.{◌≡◌, take}
use Rattle.host_jobs.specs.Rows.{last_in}
use Rattle.host_jobs.proofs.joined.last_of.Given as goal

abbrev pub invariant-loop-cell : goal.invariant-loop-cell
invariant-loop-cell l = l.last ≡ last_in (take l.cell l.rows)
