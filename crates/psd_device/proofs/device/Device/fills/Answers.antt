use Rattle.std.proofs.Common.{◌+◌, ◌/◌, ◌≤◌, Option, sum, sym, subst, ap, ◌∙◌}
use Rattle.std.specs.Prelude.{not, is_some}
use Rattle.bench_base.specs.declared.ledger.Commit.{Commit}
use Rattle.psd_device.specs.Knows as knows
use Rattle.nv_ring.proofs.Turning.{fills_of_le}
use Rattle.psd_device.proofs.device.Device.fills.Goals as goal

pub returns-clause-share : goal.returns-clause-share
returns-clause-share g c =
    let k = c.args.self.now.running.node in
    let n = sum k.wear.fills in
    subst (λ f. f ≤ n / 16 + 1) (sym (k.wears.fills c.args.slot c.requires)) (fills_of_le k.wear.start n c.args.slot k.wears.start c.requires)

pub returns-clause-current : goal.returns-clause-current
returns-clause-current g c tells works =
    let d = c.args.self.now in
    let on = d.runs ∙ ap (λ (o : Option Commit). not (is_some o)) works in
    ((knows.knows d.running.node tells on).shows, knows.current d.running.node tells on)
