use Rattle.std.proofs.Common.{◌+◌, ◌/◌, ◌≤◌, sum, sym, subst}
use Rattle.nv_ring.proofs.Turning.{fills_of_le}
use Rattle.nv_ring.proofs.ring.Ring.fills.Goals as goal

pub returns-clause-share : goal.returns-clause-share
returns-clause-share g c =
    let wears = c.args.self.now.wears in
    let n = sum c.args.self.now.wear.fills in
    subst (λ f. f ≤ n / 16 + 1) (sym (wears.fills c.args.slot c.requires)) (fills_of_le c.args.self.now.wear.start n c.args.slot wears.start c.requires)
