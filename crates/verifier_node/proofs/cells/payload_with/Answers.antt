use Rattle.std.proofs.Common.{ap, sym, subst, ◌∙◌, set}
use Rattle.nv_store.specs.RoomView.{kept_in}
use Rattle.verifier.specs.declared.acts.Change.{Change}
use Rattle.verifier.specs.ActLaws.{IsFit}
use Rattle.verifier.specs.Payload.{block_bytes, scans_before, RowReadsAs}
use Rattle.verifier.specs.Seen.{row_with}
use Rattle.verifier_node.specs.Payloads.{seen_held}
use Rattle.verifier_node.proofs.Reading.{accept_reads}
use Rattle.verifier_node.proofs.cells.payload_with.Goals as goal

pub returns-in-Accept : goal.returns-in-Accept
returns-in-Accept c =
    let held = kept_in c.args.room.now in
    let a = c.in-Accept in
    subst (λ (x : Change). RowReadsAs (row_with (seen_held held) x) c.accept_payload.result) (sym a.is)
    (accept_reads held c.requires.filled a.cell a.device a.block a.place a.scan c.accept_payload.result (subst (λ (x : Change). IsFit (seen_held held) x) a.is c.requires.fits)
    (c.accept_payload.ensures ∙ ap (λ o. block_bytes a.device a.block (set (scans_before o) a.place a.scan)) c.get_room.ensures.payload))
