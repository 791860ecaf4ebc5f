use Rattle.std.proofs.Common.{◌≡◌, sym, subst}
use Rattle.verifier.specs.Payload.{IsPayloadOf}
use Rattle.verifier.specs.Seen.{Seen, IsKnown}
use Rattle.row_node.specs.Shows.{ShowsRows}
use Rattle.trace_verifier.specs.Cells.{cells_of}
use Rattle.trace_verifier.specs.Helds.{seen_by}
use Rattle.trace_verifier.specs.declared.record.ScanRecord.{ScanRecord}
use Rattle.trace_images.proofs.VerifierCells.{are_rows, shows_rows, no_record}
use Rattle.bench_base.proofs.Facts.{none_by}
use Rattle.trace_images.proofs.Outcomes.{some_by}
use Rattle.trace_images.proofs.verifier_rows.verifier_record.Goals as goal

pub of-requires : goal.of-requires
of-requires c =
    let shown = rw c.in-Some.is at c.in_ok-cells.ensures.some in
    record { rows = are_rows (seen_by c.in-Some.cells.items) c.args.image.now shown }

pub returns-clause-some : goal.returns-clause-some
returns-clause-some c =
    let s = seen_by c.in-Some.cells.items in
    let image = c.args.image.now in
    let shown = rw c.in-Some.is at c.in_ok-cells.ensures.some in
    some_by c.of.result (λ (r : ScanRecord). (cells_of r ≡ s) × IsKnown s) (λ r. IsKnown (cells_of r) × ShowsRows 2056 1032 IsPayloadOf (cells_of r) image)
    (λ r made. subst (λ (t : Seen). IsKnown t × ShowsRows 2056 1032 IsPayloadOf t image) (sym made.0) (made.1, shows_rows s image shown))
    c.of.ensures.some

pub returns-clause-none : goal.returns-clause-none
returns-clause-none c =
    let s = seen_by c.in-Some.cells.items in
    let image = c.args.image.now in
    let shown = rw c.in-Some.is at c.in_ok-cells.ensures.some in
    none_by c.of.result (IsKnown s → ⊥) ((t : Seen) → IsKnown t → ShowsRows 2056 1032 IsPayloadOf t image → ⊥)
    (λ breaks. no_record s image shown breaks) c.of.ensures.none
