use Rattle.std.proofs.Common.{refl}
use Rattle.bench.proofs.Begun.{begun_stands}
use Rattle.bench.proofs.benches.BenchOver.begin.Goals as goal

pub returns-clause-begun : goal.returns-clause-begun
returns-clause-begun g c = record {
  devices = c.stop_all.ensures.stopped;
  centre = record { off = c.stop-centre_was_on.ensures.off; storage = c.stop-centre_was_on.ensures.storage; stands = c.stop-centre_was_on.ensures.stands };
  host = record { off = c.stop-host_was_on.ensures.off; storage = c.stop-host_was_on.ensures.storage; stands = c.stop-host_was_on.ensures.stands };
  verifier = record { off = c.stop-verifier_was_on.ensures.off; storage = c.stop-verifier_was_on.ensures.storage; stands = c.stop-verifier_was_on.ensures.stands };
}

pub returns-clause-stands : goal.returns-clause-stands
returns-clause-stands g c L stands = begun_stands _ _ _ L refl c.clear.ensures.items refl (returns-clause-begun g c) stands
