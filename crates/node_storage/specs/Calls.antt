-- A call of a node.
use Rattle.std.specs.Prelude.{◌≡◌, ◌↔◌, ◌&&◌, true, false, not, IfSome}
use Rattle.nv_model.specs.declared.nv.Nv as nv
use Rattle.nv_store.specs.Turns.{Turn, Spent}
use Rattle.node_acts.specs.declared.{act.Act.Act, act.Act.TheVariants.Refuse, act.Act.TheVariants.Tell, act.Act.TheVariants.Commits, act.Outcome.Outcome}
use Rattle.node_acts.specs.declared.act.Outcome.TheVariants as o
use Rattle.node_acts.specs.Acts.{commit_of, MayCome, CommitsSome, CameOf, after_call, cost, has_failed, is_refusal}
use Rattle.node_acts.specs.Views.{View}
use Rattle.node_storage.specs.declared.node.Node.{Ghosts}
use Rattle.node_storage.specs.Does.{Writes}
use Rattle.node_storage.specs.Ends.{end_of_call, end_of, is_done}
use Rattle.node_storage.specs.Shown.{Allowed, IsAfter, IsNext, IsFitting}
use Rattle.node_storage.specs.Stands.{times_of, meters_of, Stands}

module _ {K S N C R : Type 0} (n : Ghosts K S N C R) (g : nv.Ghosts S) where
  -- What a call with this act of the record came to and left. For each view that the node represented: the call came to
  -- what it may come to, and the node represents what follows. At every moment each image shows what the view allows, or
  -- that and the one commit. The record with the commit is the node's next one.
  pub record CallDoes {F A : Type 0} (act : n.Seen → Act C F A) (s t : K) (result : Outcome F A) : Type 0 where
    pub off : (result ≡ o.Off) ↔ (n.is_on s ≡ false)
    pub leaves : n.is_on t ≡ (n.is_on s && not (has_failed result))
    pub comes : (d : N) (v : View n.Seen) → Stands n g d v s → g.tells → MayCome n.counting v (act v.state) result
    pub stands : (d : N) (v : View n.Seen) → Stands n g d v s → g.tells → IsFitting n d v.state (act v.state)
        → Stands n g d (after_call result (commit_of n.counting v (act v.state)) v) t
    pub turn : (d : N) (v : View n.Seen) → Stands n g d v s → g.tells
        → Turn (Allowed n v) (IsAfter n (commit_of n.counting v (act v.state))) (times_of n g s) (times_of n g t)
        (end_of_call result (commit_of n.counting v (act v.state)))
    pub keeps : (d : N) (v : View n.Seen) → Stands n g d v s → g.tells → IsFitting n d v.state (act v.state)
        → IfSome (commit_of n.counting v (act v.state)) (λ x. IsNext n d v.state x.1)
    pub came : CameOf (act (n.seen s)) result
    pub refused : is_refusal result ≡ true → t ≡ s
    pub tells_only : (CommitsSome (λ c. Unit {0}) (act (n.seen s)) → ⊥) → t ≡ s
    pub spent : Spent (cost (act (n.seen s))) (meters_of n g s) (meters_of n g t) (end_of result)

  -- what a call of this act wrote: if it commits, the next slot of the cell, whole once it is done
  abbrev pub Wrote : {F A : Type 0} → Act C F A → K → K → Outcome F A → Type 0
  Wrote (Refuse x) s t result = t ≡ s
  Wrote (Tell a) s t result = t ≡ s
  Wrote (Commits c x a) s t result = Writes g (n.fill (n.seen s) x) (n.storage s) (n.storage t) (not (is_refusal result)) (is_done result)
