-- Switching a node on.
use Rattle.std.specs.Prelude.{◌≡◌, ◌⊎◌, ◌+◌, true, false, Bool, IsSome}
use Rattle.node_acts.specs.declared.act.Started.{Started}
use Rattle.node_acts.specs.declared.act.Started.TheVariants as start
use Rattle.node_acts.specs.Views.{Counting, View, up}

-- whether the node is on then
abbrev pub leaves_on : Started → Bool
leaves_on start.Already = true
leaves_on (start.Up k) = true
leaves_on start.Power = false
leaves_on start.Fault = false
leaves_on start.Damaged = false

-- it read the storage
abbrev pub HasRead : Started → Type 0
HasRead start.Already = ⊥
HasRead (start.Up k) = Unit {0}
HasRead start.Power = ⊥
HasRead start.Fault = ⊥
HasRead start.Damaged = Unit {0}

module _ {S X : Type 0} (n : Counting S X) where
  -- what it may come to: the count is that of its commits that count, or of these and the open one
  abbrev pub MayStart : View S → Started → Type 0
  MayStart v start.Already = v.on ≡ true
  MayStart v (start.Up k) = (v.on ≡ false) × ((k ≡ n.count v.state) ⊎ (IsSome v.next × (k ≡ n.count v.state + 1)))
  MayStart v start.Power = v.on ≡ false
  MayStart v start.Fault = v.on ≡ false
  MayStart v start.Damaged = ⊥

  abbrev pub after_start : Started → View S → View S
  after_start start.Already v = v
  after_start (start.Up k) v = up n k v
  after_start start.Power v = v
  after_start start.Fault v = v
  after_start start.Damaged v = v
