use Rattle.std.proofs.Common.{ℕ, ◌+◌, List, Option, sym, subst, arith}
use Rattle.host_jobs.specs.declared.rows.JobRow.{JobRow}
use Rattle.host_jobs.specs.Seen.{Seen}
use Rattle.host_node.specs.Payloads.{IsPayloadOf}
use Rattle.node_images.specs.Cells.{ShowsCell}
use Rattle.trace_images.specs.Host.{JobShown, JobsShown}
use Rattle.trace_images.proofs.Reading.{no_image}
use Rattle.trace_images.proofs.HostCells.{more_jobs}
use Rattle.trace_images.proofs.host.read_jobs.Goals as goal

pub returns-in_default-clause-none : goal.returns-in_default-clause-none
returns-in_default-clause-none c =
    let place = c.loop-place.place in
    no_image 115 1024 IsPayloadOf c.args.image.now place (omega (arith, c.loop-place-test.true))
    (subst (λ (cell : List ℕ). (seen : Option (ℕ × JobRow)) → ShowsCell 115 (IsPayloadOf place) seen cell → ⊥) c.cell_bytes.ensures.value c.in_default.ensures.none)

pub loop-place-preserved : goal.loop-place-preserved
loop-place-preserved c =
    let place = c.loop-place.place in
    subst (λ (cells : Seen). JobsShown (place + 1) cells c.args.image.now) (sym c.in_ok-push.ensures.items)
    (more_jobs place c.loop-place.cells.items c.in-Ok.seen c.args.image.now c.loop-place.invariant
    (subst (λ (cell : List ℕ). JobShown place c.in-Ok.seen cell) c.cell_bytes.ensures.value c.in-Ok.ensures.shows))
