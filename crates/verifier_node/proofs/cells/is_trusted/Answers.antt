use Rattle.std.proofs.Common.{◌≡◌, ◌-◌, refl, sym, ap, ◌∙◌, Option, Some, None, is_some, option_map, arith}
use Rattle.nv_store.specs.RoomView.{kept_in}
use Rattle.nv_store.specs.Store.{payload_of}
use Rattle.verifier.specs.Payload.{key_of}
use Rattle.verifier.specs.Seen.{key_at}
use Rattle.verifier_node.specs.Payloads.{seen_held}
use Rattle.verifier_node.proofs.Reading.{key_held, key_high}
use Rattle.verifier_node.proofs.cells.is_trusted.Goals as goal

mapped : {A B : Type 0} (f : A → B) (o : Option A) → is_some (option_map f o) ≡ is_some o
mapped f None = refl
mapped f (Some x) = refl

pub returns-then-device-eq0 : goal.returns-then-device-eq0
returns-then-device-eq0 c = sym (ap (λ d. is_some (key_at (seen_held (kept_in c.args.room.now)) d)) c.if-device-eq0.true)

pub returns-then-device-gt-FIRST_BLOCK : goal.returns-then-device-gt-FIRST_BLOCK
returns-then-device-gt-FIRST_BLOCK c = sym (ap is_some (key_high (kept_in c.args.room.now) c.requires.filled c.args.device c.if-device-gt-FIRST_BLOCK.true))

pub returns : goal.returns
returns c =
    let held = kept_in c.args.room.now in
    c.is_some.ensures ∙ sym (mapped (λ x. x.now) c.get_room.result) ∙ ap is_some c.get_room.ensures.payload ∙ sym (mapped key_of (payload_of (held (c.args.device - 1))))
    ∙ sym (ap is_some (key_held held c.requires.filled c.args.device (omega arith) (omega arith)))
