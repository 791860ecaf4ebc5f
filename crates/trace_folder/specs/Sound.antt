-- When a storage can show what an auditor has of a node.
use Rattle.std.specs.Prelude.{◌≡◌, ◌+◌, IfSome}
use Rattle.node_acts.specs.Views.{Counting, View}

-- the record is sound, and so is that with the commit in doubt, which has one commit more
pub record AreSoundRecords {S X : Type 0} (n : Counting S X) (IsSound : S → Type 0) (v : View S) : Type 0 where
  pub state : IsSound v.state
  pub next : IfSome v.next IsSound
  pub more : IfSome v.next (λ s. n.count s ≡ n.count v.state + 1)
