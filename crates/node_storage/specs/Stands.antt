-- When a node and its storage represent what the bench sees of it.
use Rattle.std.specs.Prelude.{◌≡◌, ℕ, List, true, Some, None}
use Rattle.nv_model.specs.declared.nv.Nv as nv
use Rattle.nv_model.specs.declared.fuse.Fuse as fuse
use Rattle.nv_model.specs.Fuses.{FuseState}
use Rattle.nv_model.specs.Meters.{Meters}
use Rattle.nv_model.specs.Moments.{Times, Image}
use Rattle.node_acts.specs.Views.{View}
use Rattle.node_storage.specs.declared.node.Node.{Ghosts}
use Rattle.node_storage.specs.Shown.{Allowed, Sound}

-- so many calls pass before the fuse burns; a tear keeps so many bytes of its range and fills the rest with the byte
pub record HasFuse (s : FuseState) (calls kept filled : ℕ) : Type 0 where
  pub fuse : s.fuse ≡ Some calls
  pub keep : s.keep ≡ kept
  pub byte : s.byte ≡ filled

module _ {K S N C R : Type 0} (n : Ghosts K S N C R) where
  -- its storage is not a valid storage of node d
  abbrev pub HasDamage : N → K → Type 0
  HasDamage d k = n.IsDamaged d (n.storage k)

  -- the fuse of its storage is armed so
  abbrev pub IsArmed : fuse.Ghosts S → K → ℕ → ℕ → ℕ → Type 0
  IsArmed f k calls keep byte = HasFuse (f.fuse_of (n.storage k)) calls keep byte

  -- a storage of node d: each image shows its commits that count, or these and the open one
  pub record StoreStands {T : Type 0} (h : nv.Ghosts T) (d : N) (v : View n.Seen) (store : T) : Type 0 where
    pub size : h.size store ≡ n.bytes
    pub sound : h.tells → Sound n d v
    pub shows : h.tells → (image : List ℕ) → Image (h.times store) image → Allowed n v image

  module _ (g : nv.Ghosts S) where
    -- the moment of its storage, and the images since each moment
    abbrev pub times_of : K → Times
    times_of k = g.times (n.storage k)

    -- the counts of its storage, whether its power is lost, and its fuse
    abbrev pub meters_of : K → Meters
    meters_of k = g.meters (n.storage k)

    -- a node that is on: it runs with its commits that count, which are all that its storage shows
    pub record Runs (d : N) (v : View n.Seen) (k : K) : Type 0 where
      pub closed : v.next ≡ None
      pub name : n.name k ≡ d
      pub seen : g.tells → n.seen k ≡ v.state

    pub record Stands (d : N) (v : View n.Seen) (k : K) : Type 0 where
      pub on : n.is_on k ≡ v.on
      pub store : StoreStands g d v (n.storage k)
      pub runs : v.on ≡ true → Runs d v k
