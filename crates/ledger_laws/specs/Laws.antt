-- What is said of every history.
use Rattle.std.specs.Prelude.{◌≡◌, ◌⊎◌, ℕ, ℤ, ◌+◌, List, ◌∷◌, Some}
use Rattle.bench_base.specs.declared.{words.Node.Node, ledger.Commit.Commit, ledger.Entry.TheVariants.Up, events.Event.Event, events.Reply.Reply}
use Rattle.bench_base.specs.Rules.{Rules}
use Rattle.bench_base.specs.Ledger.{Ledger, day_in, count_of, torn_of, counted}
use Rattle.ledger_terms.specs.Lawful.{Always, Lawful}
use Rattle.ledger_terms.specs.Links.{Link}
use Rattle.ledger_terms.specs.Sane.{IsSane}
use Rattle.ledger_terms.specs.Further.{HasOwner, NoImbalance, IsFitting, SentAreRead, RepliesAreRuled, Begins, IsCovered, Paid}
use Rattle.ledger_terms.specs.Editions.{Editions}
use Rattle.ledger_moves.specs.Tariffs.{Tariff}
use Rattle.ledger_moves.specs.Moves.{Moves}
use Rattle.ledger_moves.specs.Histories.{Unforged, History}

-- P holds of every history, whatever the tariff and the versions of the rules
abbrev pub ForHistories : (Tariff → Rules → List Rules → Ledger → Type 0) → Type 0
ForHistories P = (τ : Tariff) (ρ : Rules) (ρs : List Rules) (H : Ledger) → Editions (ρ ∷ ρs) → History τ (ρ ∷ ρs) H → P τ ρ ρs H

-- P holds of the counted commits of the ledger, and of each of its prefixes
abbrev pub OfCounted : (List Commit → Type 0) → Ledger → Type 0
OfCounted P H = Always (λ B. P (counted B)) H

-- on a day, an Up of a node with an open commit may show either count
abbrev pub MayShowEither : Tariff → List Rules → Ledger → Type 0
MayShowEither τ ρs H = (t : ℤ) → day_in H ≡ Some t → (n : Node) (c : Commit) → torn_of n H ≡ Some c
    → (k : ℕ) → (k ≡ count_of n (counted H)) ⊎ (k ≡ count_of n (counted H) + 1) → History τ ρs (Up n k ∷ H)

-- What holds of a history by the rules ρ and the versions ρs before them.
pub record Holds (τ : Tariff) (ρ : Rules) (ρs : List Rules) (H : Ledger) : Type 0 where
  pub lawful : Lawful ρ H
  pub owners : OfCounted HasOwner H
  pub linked : OfCounted (λ C. (d : ℕ) → Link C d) H
  pub balanced : OfCounted NoImbalance H
  pub sane : (x : Event) (text : List ℕ) (reply : Reply) → Unforged x H → Moves τ ρ H x text reply → IsSane reply
  pub begins : OfCounted (λ C. (d : ℕ) → Begins C d) H
  pub covered : OfCounted (λ C. (d : ℕ) → IsCovered C d) H
  pub paid : OfCounted (λ C. (d : ℕ) → Paid C d) H
  pub fitting : OfCounted IsFitting H
  pub sent : SentAreRead H
  pub replied : RepliesAreRuled H
  pub either : MayShowEither τ (ρ ∷ ρs) H
