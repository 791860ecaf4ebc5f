use Rattle.node_storage.proofs.Armed.{armed_does}
use Rattle.node_storage.proofs.storage.arm.Goals as goal

pub returns : goal.returns
returns g c =
    let e = c.arm.ensures in
    let a = c.args in
    armed_does g.K.Node g.K.Storage.Nv g.K.Arms.fuse a.calls a.keep a.byte a.node.now c.arm.new.self e.armed e.times e.size e.meters e.name e.seen e.leaves
