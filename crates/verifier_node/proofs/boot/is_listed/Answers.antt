use Rattle.std.proofs.Common.{ap, ◌∙◌, is_some}
use Rattle.nv_store.specs.RoomView.{kept_in}
use Rattle.verifier.specs.Seen.{key_at}
use Rattle.verifier_node.specs.Payloads.{seen_held}
use Rattle.verifier_node.proofs.Booted.{listed_more}
use Rattle.verifier_node.proofs.boot.is_listed.Goals as goal

pub returns : goal.returns
returns c =
    let held = kept_in c.args.room.now in
    listed_more held c.requires.filled c.args.cell c.requires.listed c.args.payload.now c.requires.inside c.requires.payload c.is_trusted.result
    (c.is_trusted.ensures ∙ ap (λ d. is_some (key_at (seen_held held) d)) c.block_in-block.ensures.device)
