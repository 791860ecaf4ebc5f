-- Rows, step by step; and a row from a history makes a history.
use Rattle.std.proofs.Common.{◌≡◌, List, [], ◌∷◌, refl, sym, subst}
use Rattle.bench_base.specs.Rules.{Rules}
use Rattle.bench_base.specs.Ledger.{Ledger}
use Rattle.ledger_moves.specs.Tariffs.{Tariff}
use Rattle.ledger_moves.specs.Moves.{Moves, entries}
use Rattle.ledger_moves.specs.Histories.{Unforged, History, moves}
use Rattle.tests_laws.specs.Runs.{Step, IsRow}

pub row_done : (τ : Tariff) (ρ : Rules) (H : Ledger) → IsRow τ ρ [] H H
unfolding IsRow
row_done τ ρ H = refl

pub row_step : (τ : Tariff) (ρ : Rules) (s : Step) (ss : List Step) (H I end : Ledger) → Unforged s.event H → Moves τ ρ H s.event s.text s.reply
    → entries τ ρ H s.event s.text s.reply ≡ I → IsRow τ ρ ss I end → IsRow τ ρ (s ∷ ss) H end
unfolding IsRow
row_step τ ρ s ss H I end u m e r = (u, m, subst (λ J. IsRow τ ρ ss J end) (sym e) r)

pub row_history : (τ : Tariff) (ρ : Rules) (ρs : List Rules) (ss : List Step) (H end : Ledger)
    → IsRow τ ρ ss H end → History τ (ρ ∷ ρs) H → History τ (ρ ∷ ρs) end
unfolding IsRow
row_history τ ρ ρs [] H end r h = subst (History τ (ρ ∷ ρs)) r h
row_history τ ρ ρs (s ∷ ss) H end r h =
    row_history τ ρ ρs ss (entries τ ρ H s.event s.text s.reply) end r.2 (moves s.event s.text s.reply h r.0 r.1)
