use Rattle.std.proofs.Common.{inr, sym, subst}
use Rattle.nv_ring.specs.declared.wear.Wear.{Wear}
use Rattle.psd_device.specs.Sound.{IsCurrent}
use Rattle.psd_device.specs.Knows.{booted_at}
use Rattle.psd_device.specs.Finds.{foreign_at}
use Rattle.psd_device.proofs.node.DeviceNode.boot_record.Goals as goal

pub returns-in_default-clause-damaged : goal.returns-in_default-clause-damaged
returns-in_default-clause-damaged g c tells is =
    let only = c.in-Ok.ensures.shows tells in
    inr (only.only, inr (foreign_at _ _ _ _ c.in_default.ensures.filled only.shows c.in_default.ensures.foreign))

pub returns-clause-place : goal.returns-clause-place
returns-clause-place g c tells =
    let content = g.N.Nv.content c.mount_lent.new.nv in
    let head = c.in-Ok.head in
    subst (λ (w : Wear). IsCurrent w.start content) (sym c.new-self.ensures.new)
    (booted_at head c.mount_lent.new.kept content (c.in-Ok.ensures.shows tells).shows (c.in-Ok.ensures.holds tells).known.top)
