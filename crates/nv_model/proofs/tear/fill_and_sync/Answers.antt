use Rattle.nv_model.proofs.Runs.{part_twice, part_stays}
use Rattle.nv_model.proofs.tear.fill_and_sync.Goals as goal

pub returns-then-fill-clause-part : goal.returns-then-fill-clause-part
returns-then-fill-clause-part g c tells =
    let nested = λ (s : g.row.N.Denot). g.met.N.Nv.nested s tells in
    part_twice (nested c.fill.new.nv) (nested c.sync.new.self) (c.fill.ensures.part tells) (part_stays c.args.at c.args.count (c.sync.ensures.did.images tells) (c.sync.ensures.did.time tells))
