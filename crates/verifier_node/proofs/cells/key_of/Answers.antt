use Rattle.std.proofs.Common.{sym, ap, ◌∙◌, Some, option_map, arith}
use Rattle.nv_store.specs.RoomView.{kept_in}
use Rattle.verifier.specs.Payload.{key_of}
use Rattle.verifier.specs.Seen.{key_at}
use Rattle.verifier_node.specs.Payloads.{seen_held}
use Rattle.verifier_node.proofs.Reading.{key_held, key_high}
use Rattle.verifier_node.proofs.cells.key_of.Goals as goal

pub returns-then-device-eq0 : goal.returns-then-device-eq0
returns-then-device-eq0 c = sym (ap (key_at (seen_held (kept_in c.args.room.now))) c.if-device-eq0.true)

pub returns-then-device-gt-FIRST_BLOCK : goal.returns-then-device-gt-FIRST_BLOCK
returns-then-device-gt-FIRST_BLOCK c = sym (key_high (kept_in c.args.room.now) c.requires.filled c.args.device c.if-device-gt-FIRST_BLOCK.true)

pub returns-in-Some : goal.returns-in-Some
returns-in-Some c =
    ap (λ k. Some k) c.key_in.ensures
    ∙ sym (key_held (kept_in c.args.room.now) c.requires.filled c.args.device (omega arith) (omega arith) ∙ ap (option_map key_of) (sym c.in-Some.ensures.payload))

pub returns-in-None : goal.returns-in-None
returns-in-None c =
    sym (key_held (kept_in c.args.room.now) c.requires.filled c.args.device (omega arith) (omega arith) ∙ ap (option_map key_of) (sym c.in-None.ensures.payload))
