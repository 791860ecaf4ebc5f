-- What is seen of a node by the ledger, and what an event of it does by that alone, whatever the kind of the node.
use Rattle.std.specs.Prelude.{ℤ, List, [], ◌∷◌, Option, None, option_map}
use Rattle.bench_base.specs.declared.{words.Node.Node, ledger.Commit.Commit}
use Rattle.bench_base.specs.declared.ledger.Entry.TheVariants as entry
use Rattle.bench_base.specs.declared.events.Reply.TheVariants as r
use Rattle.bench_base.specs.Plans.{Plan, refuse, told}
use Rattle.bench_base.specs.Ledger.{Ledger, torn_of, is_on, counted}
use Rattle.node_acts.specs.Views.{Counting, View}
use Rattle.node_acts.specs.Plans.{when_on, on_plan}
use Rattle.node_acts.specs.declared.{asked.Asked.Asked, asked.Asked.TheVariants.On, asked.Asked.TheVariants.Off, asked.Asked.TheVariants.Cut, asked.Asked.TheVariants.Call}

-- what the bench sees of node m; its record after some commits is as `seen` says
abbrev pub view_in : {S : Type 0} → Node → (List Commit → S) → Ledger → View S
view_in m seen H = record {
  state = seen (counted H);
  next = option_map (λ c. seen (c ∷ counted H)) (torn_of m H);
  on = is_on m H;
}

-- A kind of nodes with names N, records S and calls C: what is seen of each after some commits, and the plan and the commit
-- of each call on a day.
pub record Kind (N S C : Type 0) : Type 0 where
  pub seen : N → List Commit → S
  pub plan : N → ℤ → View S → C → Plan
  pub commit : N → ℤ → View S → C → Option (Commit × S)

-- P holds of the call that is asked, if it is a call
abbrev pub OfCall : {C : Type 0} → (C → Type 0) → Asked C → Type 0
OfCall P On = Unit {0}
OfCall P Off = Unit {0}
OfCall P (Cut calls keep byte) = Unit {0}
OfCall P (Call c) = P c

-- the plan of what node m is asked, where a call has its own
abbrev pub node_plan : {S X C : Type 0} → Counting S X → Node → (C → Plan) → View S → Asked C → Plan
node_plan n m call v On = on_plan n m v
node_plan n m call v Off = when_on m v (told (r.Down m) (entry.Down m ∷ []))
node_plan n m call v (Cut calls keep byte) = refuse (r.CutSet m)
node_plan n m call v (Call c) = call c

-- the commit of that plan, with the record after it
abbrev pub node_commit : {S C : Type 0} → (C → Option (Commit × S)) → Asked C → Option (Commit × S)
node_commit call On = None
node_commit call Off = None
node_commit call (Cut calls keep byte) = None
node_commit call (Call c) = call c
