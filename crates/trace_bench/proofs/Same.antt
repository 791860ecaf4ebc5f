-- An auditor that has the same is as ready, and sees the same.
use Rattle.std.proofs.Common.{sym, subst}
use Rattle.bench_base.specs.Ledger.{Ledger}
use Rattle.trace_bench.specs.Forging.{IsSame}
use Rattle.trace_bench.specs.Seeing.{Audit, Sees}
use Rattle.trace_bench.proofs.Keeping.{knows_same}
use Rattle.trace_bench.proofs.Sent.{other_known}

module _ (old new : Audit) (same : IsSame old new) where
  pub same_sees : (H : Ledger) → Sees old H → Sees new H
  same_sees H sees = subst (λ (a : Audit). Sees a H) (sym same.others) (record { run = other_known old new.known H sees.run; known = knows_same old.known new.known H same.keeps sees.known })
