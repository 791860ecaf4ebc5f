use Rattle.bench_base.specs.Ledger.{counted}
use Rattle.ledger_laws.proofs.Centres.{withdrawn_enrolled}
use Rattle.ledger_laws.proofs.Histories.{histories, allows_same, carried_by}
use Rattle.std.proofs.Common.{◌∷◌}
use Rattle.ledger_laws.proofs.laws.withdrawals.Goals as goal

pub returns : goal.returns
returns c τ ρ ρs H E h d = withdrawn_enrolled ρ d (counted H) (histories τ (ρ ∷ ρs) E H h ρ (carried_by ρs ρ E.0, allows_same ρ)).good
