use Rattle.std.proofs.Common.{◌+◌, arith}
use Rattle.nv_store.specs.Slot.{slots_at}
use Rattle.nv_bytes.proofs.Clear.{clear_fewer}
use Rattle.nv_bytes.proofs.cell.is_clear.Goals as goal

pub returns-then-not-stays_clear-clause-no : goal.returns-then-not-stays_clear-clause-no
returns-then-not-stays_clear-clause-no c is clear =
    c.stays_clear.ensures.no c.if-not-stays_clear.true
    (clear_fewer (c.loop-place.place + 1) c.args.slots (slots_at c.args.size 0 c.args.cell.now) (omega (arith, c.loop-place-test.true)) clear)
