-- The next commit of an event, and an open one, leave the commits in order.
use Rattle.std.proofs.Common.{◌≡◌, ℕ, List, [], ◌∷◌, Some, arith}
use Rattle.std.specs.Prelude.{All}
use Rattle.std.proofs.lemmas.List.Elements.{All-cons}
use Rattle.bench_base.specs.declared.{words.Node.Node, ledger.Commit.Commit, events.Event.Event}
use Rattle.bench_base.specs.Rules.{Rules}
use Rattle.bench_base.specs.Ranges.{InRange}
use Rattle.bench_base.specs.Ledger.{Ledger, torn_of, counted}
use Rattle.bench_base.specs.Events.{IsWholeEvent}
use Rattle.ledger_moves.specs.Tariffs.{Tariff}
use Rattle.ledger_terms.specs.Editions.{Editions}
use Rattle.ledger_moves.specs.Moves.{plan}
use Rattle.ledger_moves.specs.Histories.{Unforged, History}
use Rattle.ledger_laws.specs.Nexts.{AreOrdered, IsNext, IsOpen}
use Rattle.ledger_laws.proofs.Good.{Good}
use Rattle.ledger_laws.proofs.Grown.{Inv}
use Rattle.ledger_laws.proofs.Histories.{histories, plan_ok, allows_same, carried_by}
use Rattle.ledger_laws.proofs.Orders.{device_order, device_record, centre_order, host_order, host_turn, verifier_order}
use Rattle.ledger_laws.proofs.Cells.{roomy}

pub ordered : (ρ : Rules) (C : List Commit) → Good ρ C → AreOrdered C
ordered ρ C g = record { devices = device_order ρ C g; records = device_record ρ C g; centre = centre_order ρ C g; host = host_order ρ C g; turns = host_turn ρ C g; verifier = verifier_order ρ C g; roomy = roomy ρ C g }

pub open_is : (ρ : Rules) (H : Ledger) → Inv ρ H → (n : Node) (c : Commit) → torn_of n H ≡ Some c → IsOpen n c H
open_is ρ H i n c h = let o = i.opens n c h in record { node = o.node; off = o.off; range = o.range; ordered = ordered ρ (c ∷ counted H) (o.fits, i.good, o.range) }

pub next_is : (τ : Tariff) (ρ : Rules) (ρs : List Rules) (H : Ledger) → Editions (ρ ∷ ρs) → History τ (ρ ∷ ρs) H → (x : Event) (text : List ℕ) → IsWholeEvent x → Unforged x H → (c : Commit) → (plan τ ρ H x text).commit ≡ Some c → IsNext c H
next_is τ ρ ρs H E h x text w u c at =
    let carried = carried_by ρs ρ E.0 in
    let i = histories τ (ρ ∷ ρs) E H h ρ (carried, allows_same ρ) in
    let f = (plan_ok τ ρ carried H i x text w u).fit c at in
    record { on = f.on; range = f.range; ordered = ordered ρ (c ∷ counted H) (f.fits, i.good, f.range) }

-- the numbers of each counted commit are in range
pub in_range : (ρ : Rules) (C : List Commit) → Good ρ C → All InRange C
in_range ρ [] g = λ k x lt. absurd (omega arith)
in_range ρ (c ∷ C) g = All-cons InRange c C g.2 (in_range ρ C g.1)
