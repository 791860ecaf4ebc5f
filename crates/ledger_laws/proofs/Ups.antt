-- An Up of a node with an open commit may show either count, and each makes a history again.
use Rattle.std.specs.Prelude.{IsSome}
use Rattle.std.proofs.Common.{◌≡◌, ℕ, ℤ, ◌+◌, false, List, [], ◌∷◌, Some, refl, sym, ap, subst, ◌∙◌, ◌⊎◌, inl, inr, ⊎_elim}
use Rattle.bench_base.specs.declared.{words.Node.Node, ledger.Commit.Commit, ledger.Commit.TheVariants.Made, ledger.Commit.TheVariants.Asked, ledger.Commit.TheVariants.Applied, ledger.Commit.TheVariants.Debited, ledger.Commit.TheVariants.Registered, ledger.Commit.TheVariants.Opened, ledger.Commit.TheVariants.Deposited, ledger.Commit.TheVariants.Flagged, ledger.Commit.TheVariants.Ruled, ledger.Commit.TheVariants.Settled, ledger.Commit.TheVariants.Ordered, ledger.Commit.TheVariants.Held, ledger.Commit.TheVariants.Began, ledger.Commit.TheVariants.Closed, ledger.Commit.TheVariants.Trusted, ledger.Commit.TheVariants.Accepted}
use Rattle.bench_base.specs.declared.ledger.Entry.TheVariants as e
use Rattle.bench_base.specs.declared.events.Event.TheVariants as ev
use Rattle.bench_base.specs.declared.events.Reply.TheVariants as r
use Rattle.bench_base.specs.Rules.{Rules}
use Rattle.bench_base.specs.Nodes.{node_of}
use Rattle.bench_base.specs.Ranges.{IsNode, InRange}
use Rattle.bench_base.specs.Ledger.{Ledger, day_in, is_on, count_of, torn_of, counted}
use Rattle.ledger_moves.specs.Tariffs.{Tariff}
use Rattle.ledger_terms.specs.Editions.{Editions}
use Rattle.ledger_moves.specs.Moves.{plan, OtherUp}
use Rattle.ledger_moves.specs.Histories.{History, moves}
use Rattle.ledger_laws.proofs.Histories.{histories, allows_same, carried_by}

-- the node of a commit in range is one of the nodes
node_in : (c : Commit) → InRange c → IsNode (node_of c)
node_in (Made d k) r = r.0
node_in (Asked d n x) r = r.0
node_in (Applied d n v) r = r.0
node_in (Debited d p a k t v) r = r.0
node_in (Registered d o k) r = tt
node_in (Opened c) r = tt
node_in (Deposited c n a) r = tt
node_in (Flagged c s) r = tt
node_in (Ruled d n v x) r = tt
node_in (Settled d n) r = tt
node_in (Ordered j d p a k) r = tt
node_in (Held j x) r = tt
node_in (Began j) r = tt
node_in (Closed j) r = tt
node_in (Trusted d k) r = tt
node_in (Accepted d p s) r = tt

up_reply : (τ : Tariff) (ρ : Rules) (H : Ledger) (n : Node) (t : ℤ) → day_in H ≡ Some t → is_on n H ≡ false → (plan τ ρ H (ev.On n) []).reply ≡ r.Up n (count_of n (counted H))
unfolding plan
up_reply τ ρ H n t day off = rw (day, off) refl

pub either_up : (τ : Tariff) (ρ : Rules) (ρs : List Rules) (H : Ledger) → Editions (ρ ∷ ρs) → History τ (ρ ∷ ρs) H → (t : ℤ) → day_in H ≡ Some t → (n : Node) (c : Commit) → torn_of n H ≡ Some c → (k : ℕ)
    → (k ≡ count_of n (counted H)) ⊎ (k ≡ count_of n (counted H) + 1) → History τ (ρ ∷ ρs) (e.Up n k ∷ H)
either_up τ ρ ρs H E h t day n c there k which =
    let i = histories τ (ρ ∷ ρs) E H h ρ (carried_by ρs ρ E.0, allows_same ρ) in
    let o = i.opens n c there in
    let is = up_reply τ ρ H n t day o.off in
    moves (ev.On n) [] (r.Up n k) h tt (
      subst IsNode o.node (node_in c o.range),
      ⊎_elim
          (λ (same : k ≡ count_of n (counted H)). inl (ap (r.Up n) same ∙ sym is))
          (λ (more : k ≡ count_of n (counted H) + 1). inr (inl (subst (λ x. OtherUp x (r.Up n k) H) (sym is) (record { node = n; count = count_of n (counted H); answer_is = refl; more = ap (r.Up n) more; torn = subst IsSome (sym there) refl }))))
          which,
    )
