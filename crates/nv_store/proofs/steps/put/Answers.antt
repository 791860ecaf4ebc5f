use Rattle.std.proofs.Common.{length, ◌∙◌}
use Rattle.std.proofs.lemmas.Result.{on_ok_weaker}
use Rattle.nv_model.proofs.Runs.{elapses_twice}
use Rattle.nv_store.proofs.Put.{torn_synced}
use Rattle.nv_store.proofs.steps.put.Goals as goal

pub returns-clause-puts : goal.returns-clause-puts
returns-clause-puts g c tells =
    let times = g.N.Nv.times in
    let old = times c.args.nv.now in
    let mid = times c.write.new.self in
    let new = times c.sync.new.self in
    let first = c.write.ensures.did.time tells in
    let second = c.sync.ensures.did.time tells in
    record {
      torn = torn_synced c.args.at (length c.args.bytes.now) (g.N.Nv.content c.args.nv.now) old mid new (g.met.N.Nv.nested c.write.new.self tells) (c.requires.alone tells) (c.write.ensures.did.images tells) first second (c.sync.ensures.did.images tells);
      done = on_ok_weaker c.sync.result (λ same. same ∙ c.in_ok-write.ensures.did.written tells) (c.sync.ensures.did.same tells);
      time = elapses_twice old mid new (g.met.N.Nv.nested c.sync.new.self tells) first second;
    }
