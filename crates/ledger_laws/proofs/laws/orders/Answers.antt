use Rattle.std.proofs.Common.{◌∷◌}
use Rattle.bench_base.specs.Ledger.{counted}
use Rattle.ledger_laws.proofs.Histories.{histories, allows_same, carried_by}
use Rattle.ledger_laws.proofs.NextCommits.{ordered, open_is, next_is}
use Rattle.ledger_laws.proofs.laws.orders.Goals as goal

pub returns-clause-ordered : goal.returns-clause-ordered
returns-clause-ordered c τ ρ ρs H E h = ordered ρ (counted H) (histories τ (ρ ∷ ρs) E H h ρ (carried_by ρs ρ E.0, allows_same ρ)).good

pub returns-clause-next : goal.returns-clause-next
returns-clause-next c τ ρ ρs H E h = next_is τ ρ ρs H E h

pub returns-clause-torn : goal.returns-clause-torn
returns-clause-torn c τ ρ ρs H E h = open_is ρ H (histories τ (ρ ∷ ρs) E H h ρ (carried_by ρs ρ E.0, allows_same ρ))
