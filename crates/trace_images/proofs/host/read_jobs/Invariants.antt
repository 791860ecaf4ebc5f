use Rattle.trace_images.specs.Host.{JobsShown}
use Rattle.trace_images.proofs.host.read_jobs.Given as goal

abbrev pub invariant-loop-place : goal.invariant-loop-place
invariant-loop-place l = JobsShown l.place l.cells.items l.image
