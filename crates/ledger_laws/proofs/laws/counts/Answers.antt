use Rattle.std.proofs.Common.{List, ◌∷◌}
use Rattle.std.specs.Prelude.{All}
use Rattle.bench_base.specs.Rules.{Rules}
use Rattle.bench_base.specs.Ranges.{InRange}
use Rattle.bench_base.specs.Ledger.{Ledger, counted}
use Rattle.ledger_terms.specs.Editions.{Editions}
use Rattle.ledger_moves.specs.Tariffs.{Tariff}
use Rattle.ledger_moves.specs.Histories.{History}
use Rattle.ledger_laws.proofs.Counts.{cells_add_up}
use Rattle.ledger_laws.proofs.Histories.{histories, allows_same, carried_by}
use Rattle.ledger_laws.proofs.NextCommits.{in_range}
use Rattle.ledger_laws.proofs.laws.counts.Goals as goal

ranges : (τ : Tariff) (ρ : Rules) (ρs : List Rules) (H : Ledger) → Editions (ρ ∷ ρs) → History τ (ρ ∷ ρs) H → All InRange (counted H)
ranges τ ρ ρs H E h = in_range ρ (counted H) (histories τ (ρ ∷ ρs) E H h ρ (carried_by ρs ρ E.0, allows_same ρ)).good

pub returns : goal.returns
returns c = record { ranges = ranges; cells = λ τ ρ ρs H E h. cells_add_up (counted H) (ranges τ ρ ρs H E h) }
