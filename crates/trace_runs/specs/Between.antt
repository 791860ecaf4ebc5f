-- What an auditor sees between two runs.
use Rattle.std.specs.Prelude.{◌∷◌}
use Rattle.bench_base.specs.declared.ledger.Entry.TheVariants.{Begin}
use Rattle.bench_base.specs.Ledger.{Ledger}
use Rattle.trace_bench.specs.Seeing.{Audit, Sees}

-- once a run begins, an auditor that sees the first ledger sees the second one too
abbrev pub LooksLike : Ledger → Ledger → Type 0
LooksLike L H = (a : Audit) → Sees a (Begin ∷ L) → Sees a (Begin ∷ H)

-- WHAT AN AUDITOR HAS BETWEEN RUNS is what some ledger shows that looks like this one. What a run forgets as it begins may differ: the day, the
-- messages and the rates.
pub record SeesBetween (a : Audit) (H : Ledger) : Type 0 where
  pub ledger : Ledger
  pub sees : Sees a ledger
  pub alike : LooksLike ledger H
