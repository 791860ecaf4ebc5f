use Rattle.std.proofs.Common.{sym, ap, ◌∙◌, is_some}
use Rattle.bench_base.specs.declared.sizes.TheConstants.{BLOCK_BYTES}
use Rattle.nv_store.specs.RoomView.{kept_in}
use Rattle.nv_store.specs.declared.room.Room.{Room}
use Rattle.verifier.specs.Seen.{key_at}
use Rattle.verifier_node.specs.Payloads.{seen_held}
use Rattle.verifier.proofs.Cells.{keyed}
use Rattle.row_node.specs.Knows.{keeps}
use Rattle.row_node.specs.NodeView.{held_in, seen_in}
use Rattle.verifier_node.proofs.Takes.{rows_sound}
use Rattle.verifier_node.proofs.lookups.scan_marked.Goals as goal

pub scan_act-requires-in-Some-find : goal.scan_act-requires-in-Some-find
scan_act-requires-in-Some-find g c =
    λ x is. let k = c.args.node.now in
    keyed (seen_in k) (rows_sound k.rows (held_in k) (keeps k)) c.args.mark.now.device (ap is_some (ap (λ (room : Room BLOCK_BYTES). key_at (seen_held (kept_in room)) c.args.mark.now.device) (sym c.cells.ensures) ∙ sym c.key_of.ensures ∙ c.in-Some.is))

pub scan_act-requires-in-None : goal.scan_act-requires-in-None
scan_act-requires-in-None g c =
    λ x is. let k = c.args.node.now in
    keyed (seen_in k) (rows_sound k.rows (held_in k) (keeps k)) c.args.mark.now.device (ap is_some (ap (λ (room : Room BLOCK_BYTES). key_at (seen_held (kept_in room)) c.args.mark.now.device) (sym c.cells.ensures) ∙ sym c.key_of.ensures ∙ c.in-Some.is))
