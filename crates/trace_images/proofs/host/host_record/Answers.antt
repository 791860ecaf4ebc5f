use Rattle.std.proofs.Common.{◌≡◌, sym, subst}
use Rattle.host_jobs.specs.Seen.{Seen, IsKnown}
use Rattle.host_node.specs.Payloads.{IsPayloadOf}
use Rattle.row_node.specs.Shows.{ShowsRows}
use Rattle.trace_host.specs.Cells.{cells_of}
use Rattle.trace_host.specs.declared.record.HostRecord.{HostRecord}
use Rattle.trace_images.proofs.HostCells.{shows_jobs, no_record}
use Rattle.trace_images.proofs.Outcomes.{found_by, missing_by}
use Rattle.trace_images.proofs.host.host_record.Goals as goal

pub returns-clause-some : goal.returns-clause-some
returns-clause-some c =
    let cells = c.in-Some.cells.items in
    let image = c.args.image.now in
    let shown = rw c.in-Some.is at c.in_ok-cells.ensures.some in
    found_by c.of.result (λ (r : HostRecord). (cells_of r ≡ cells) × IsKnown cells) (λ r. IsKnown (cells_of r) × ShowsRows 115 1024 IsPayloadOf (cells_of r) image)
    (λ r made. subst (λ (s : Seen). IsKnown s × ShowsRows 115 1024 IsPayloadOf s image) (sym made.0) (made.1, shows_jobs cells image shown))
    c.of.ensures.some

pub returns-clause-none : goal.returns-clause-none
returns-clause-none c =
    let cells = c.in-Some.cells.items in
    let image = c.args.image.now in
    let shown = rw c.in-Some.is at c.in_ok-cells.ensures.some in
    missing_by c.of.result (IsKnown cells → ⊥) ((s : Seen) → IsKnown s → ShowsRows 115 1024 IsPayloadOf s image → ⊥)
    (λ breaks. no_record cells image shown breaks) c.of.ensures.none
