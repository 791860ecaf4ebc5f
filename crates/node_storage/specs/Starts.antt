-- Switching a node on and off, and arming its fuse.
use Rattle.std.specs.Prelude.{◌≡◌, ◌↔◌, ℕ, true, false, Bool, Some}
use Rattle.nv_model.specs.declared.nv.Nv as nv
use Rattle.nv_model.specs.declared.fuse.Fuse as fuse
use Rattle.nv_store.specs.Mounts.{Mounts}
use Rattle.nv_store.specs.Turns.{Spent}
use Rattle.node_acts.specs.declared.act.Started.{Started}
use Rattle.node_acts.specs.declared.act.Started.TheVariants as start
use Rattle.node_acts.specs.Starts.{MayStart, after_start, leaves_on, HasRead}
use Rattle.node_acts.specs.Views.{View, stopped}
use Rattle.node_storage.specs.declared.node.Node.{Ghosts}
use Rattle.node_storage.specs.Does.{SpendsOne}
use Rattle.node_storage.specs.Ends.{end_of_start}
use Rattle.node_storage.specs.Stands.{times_of, meters_of, HasDamage, IsArmed, Stands}

module _ {K S N C R : Type 0} (n : Ghosts K S N C R) (g : nv.Ghosts S) where
  -- a start that came to read made one sync: where the node is on, or damage was found in storage of its size
  abbrev pub StartsOnce : K → K → Started → Type 0
  StartsOnce s t start.Already = Unit {0}
  StartsOnce s t (start.Up k) = SpendsOne g (n.storage s) (n.storage t)
  StartsOnce s t start.Power = Unit {0}
  StartsOnce s t start.Fault = Unit {0}
  StartsOnce s t start.Damaged = g.size (n.storage s) ≡ n.bytes → SpendsOne g (n.storage s) (n.storage t)

  -- Node d was to be switched on. Nothing is written, and `Damaged` is returned if and only if what was read is not a valid
  -- storage of it.
  pub record StartDoes (d : N) (s t : K) (result : Started) : Type 0 where
    pub already : (result ≡ start.Already) ↔ (n.is_on s ≡ true)
    pub leaves : n.is_on t ≡ leaves_on result
    pub comes : (v : View n.Seen) → Stands n g d v s → g.tells → MayStart n.counting v result
    pub stands : (v : View n.Seen) → Stands n g d v s → g.tells → Stands n g d (after_start n.counting result v) t
    pub mounts : g.tells → Mounts (times_of n g s) (times_of n g t)
    pub damaged : g.tells → HasRead result → (result ≡ start.Damaged) ↔ HasDamage n d t
    pub refused : result ≡ start.Already → t ≡ s
    pub spent : Spent 1 (meters_of n g s) (meters_of n g t) (end_of_start result)
    pub once : StartsOnce s t result

  -- The node was to be switched off: whether it was on. Its storage stays as it was.
  pub record StopDoes (s t : K) (result : Bool) : Type 0 where
    pub was_on : result ≡ n.is_on s
    pub off : n.is_on t ≡ false
    pub storage : n.storage t ≡ n.storage s
    pub stands : (d : N) (v : View n.Seen) → Stands n g d v s → Stands n g d (stopped v) t
    pub refused : result ≡ false → t ≡ s

  -- The fuse of its storage was armed. Whether it is on, and all that it has, stays.
  pub record ArmDoes (f : fuse.Ghosts S) (calls keep byte : ℕ) (s t : K) : Type 0 where
    pub leaves : n.is_on t ≡ n.is_on s
    pub stands : (d : N) (v : View n.Seen) → Stands n g d v s → Stands n g d v t
    pub mounts : g.tells → Mounts (times_of n g s) (times_of n g t)
    pub armed : IsArmed n f t calls keep byte
    pub meters : meters_of n g t ≡ record (meters_of n g s) { fuse = Some calls }
