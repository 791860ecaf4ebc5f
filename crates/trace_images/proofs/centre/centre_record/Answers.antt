use Rattle.std.proofs.Common.{◌≡◌, sym, subst}
use Rattle.bench_base.proofs.Facts.{none_by}
use Rattle.centre_ledger.specs.Seen.{Seen, IsKnown}
use Rattle.centre_protocol.specs.Payloads.{IsPayloadOf}
use Rattle.centre_protocol.specs.Sound.{IsSound}
use Rattle.row_node.specs.Shows.{ShowsRows}
use Rattle.trace_centre.specs.Cells.{cells_of}
use Rattle.trace_centre.specs.declared.record.CentreRecord.{CentreRecord}
use Rattle.trace_images.proofs.CentreShown.{rows_shown, is_sound, none_shown}
use Rattle.trace_images.proofs.Outcomes.{some_by}
use Rattle.trace_images.proofs.centre.centre_record.Goals as goal

pub returns-clause-some : goal.returns-clause-some
returns-clause-some c =
    let cells = c.in-Some.cells in
    let image = c.args.image.now in
    let shown = c.in-Some.ensures.some in
    some_by c.of.result (λ (r : CentreRecord). (cells_of r ≡ cells) × IsKnown cells) (λ r. IsSound (cells_of r) × ShowsRows 192 72 IsPayloadOf (cells_of r) image)
    (λ r made. subst (λ (s : Seen). IsSound s × ShowsRows 192 72 IsPayloadOf s image) (sym made.0) (is_sound cells image shown made.1, rows_shown cells image shown))
    c.of.ensures.some

pub returns-clause-none : goal.returns-clause-none
returns-clause-none c =
    let cells = c.in-Some.cells in
    let image = c.args.image.now in
    none_by c.of.result (IsKnown cells → ⊥) ((s : Seen) → IsSound s → ShowsRows 192 72 IsPayloadOf s image → ⊥)
    (λ breaks. none_shown cells image c.in-Some.ensures.some breaks) c.of.ensures.none
