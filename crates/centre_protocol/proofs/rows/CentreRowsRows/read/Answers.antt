use Rattle.std.proofs.Common.{refl}
use Rattle.nv_store.specs.RoomView.{kept_in}
use Rattle.centre_protocol.proofs.Booted.{are_placed, found, unsound}
use Rattle.centre_protocol.proofs.rows.CentreRowsRows.read.Goals as goal

pub returns-in-Some : goal.returns-in-Some
returns-in-Some c =
    let held = kept_in c.args.cells.now in
    let d = c.in-Ok in
    let w = c.in-Ok-customers_in in
    found held d.devices w.customers d.ensures.read w.ensures.read d.ensures.long w.ensures.long _ c.in-Some.ensures.value
    (record { placed = are_placed held d.devices w.customers d.ensures.read w.ensures.read d.ensures.long w.ensures.long; joined = c.in-Some.ensures.joined.0 refl })

pub returns-in-None : goal.returns-in-None
returns-in-None c =
    let d = c.in-Ok in
    let w = c.in-Ok-customers_in in
    unsound (kept_in c.args.cells.now) d.devices w.customers d.ensures.read w.ensures.read d.ensures.long w.ensures.long
    (λ sound. let some = c.in-None.ensures.joined.1 sound.joined in cc)
