-- A node as the report describes it, as the ledger's view of a node.
use Rattle.std.specs.Prelude.{◌≡◌, true, false, None, IfSome, option_map}
use Rattle.node_acts.specs.declared.act.Act.{Act}
use Rattle.node_acts.specs.Views.{Counting, View}
use Rattle.node_acts.specs.Acts.{OfCommit}
use Rattle.trace_nodes.specs.declared.traced.Traced.{Traced}

-- what the traced node shows: its open change makes the record that it may come on with
abbrev pub view_of : {R X S : Type 0} → Counting S X → (R → S) → Traced R X → View S
view_of n seen s = record { state = seen s.record; next = option_map (λ x. n.after (seen s.record) x) s.open; on = s.on }

-- a record can take this change, and its cell has room for it
pub record CanTake {S X : Type 0} (n : Counting S X) (IsFit : S → X → Type 0) (s : S) (x : X) : Type 0 where
  pub fits : IsFit s x
  pub room : n.is_worn s x ≡ false

-- a node that is on has no open change, and the record can take one that is open
pub record IsSettled {R X S : Type 0} (n : Counting S X) (IsFit : S → X → Type 0) (seen : R → S) (s : Traced R X) : Type 0 where
  pub closed : s.on ≡ true → s.open ≡ None
  pub takes : IfSome s.open (CanTake n IsFit (seen s.record))

-- the record can take what the act commits, if it commits
abbrev pub FitsAct : {S X F A : Type 0} → (S → X → Type 0) → S → Act X F A → Type 0
FitsAct IsFit s = OfCommit (λ c x. IsFit s x)
