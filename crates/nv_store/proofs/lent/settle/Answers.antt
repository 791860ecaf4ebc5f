use Rattle.nv_model.proofs.Runs.{rests_alone}
use Rattle.nv_store.proofs.Find.{on_ok_always}
use Rattle.nv_store.proofs.lent.settle.Goals as goal

pub returns-clause-alone : goal.returns-clause-alone
returns-clause-alone g c tells =
    on_ok_always c.find_cell.result (rests_alone (g.met.N.Nv.nested c.find_cell.new.nv tells) (c.find_cell.ensures.rests tells) (c.in_ok-sync.ensures.did.durable tells))
