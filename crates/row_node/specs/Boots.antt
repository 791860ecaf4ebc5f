-- What a boot of a node of rows finds in its cells.
use Rattle.std.specs.Prelude.{◌≡◌, ◌⊎◌, ℕ, ◌<◌, ◌≤◌, List, Option, None}
use Rattle.bench_base.specs.declared.sizes.TheConstants.{MOST_COMMITS}
use Rattle.nv_model.specs.declared.nv.Nv.{Ghosts}
use Rattle.nv_model.specs.Moments.{Image}
use Rattle.nv_store.specs.Slot.{Held}
use Rattle.nv_store.specs.Store.{count_of}
use Rattle.node_acts.specs.RowList.{RowList}
use Rattle.row_node.specs.Kept.{AreFilled, HoldsForeign, seen_by}
use Rattle.row_node.specs.Tables.{Table, IsShown, Keeps}

module _ {S X : Type 0} (t : Table S X) where
  -- the cells hold the rows that are kept, which are sound together
  pub record Found (m : S) (held : ℕ → Option Held) : Type 0 where
    pub keeps : Keeps t m held
    pub agree : t.Agree (seen_by t.cells held (t.kept m held))
    pub few : (k : ℕ) → k < t.cells → count_of (held k) ≤ MOST_COMMITS

  -- the cells hold rows that are not sound together
  pub record HoldUnsound (held : ℕ → Option Held) : Type 0 where
    pub rows : ℕ → Option t.Row
    pub are : AreFilled t.cells t.reads rows held
    pub breaks : t.Agree (seen_by t.cells held rows) → ⊥

  -- the cells hold no sound rows
  abbrev pub HoldNone : (ℕ → Option Held) → Type 0
  HoldNone held = HoldsForeign t.cells t.reads held ⊎ HoldUnsound held

  -- what is kept where each cell is blank
  abbrev pub IsNone : S → Type 0
  IsNone m = (held : ℕ → Option Held) → ((k : ℕ) → held k ≡ None) → Keeps t m held

module _ {S X : Type 0} (t : Table S X) (size : ℕ) where
  -- an image that shows sound rows
  pub record ShowsSound (image : List ℕ) : Type 0 where
    pub rows : RowList t.Row
    pub sound : t.IsSound rows
    pub shows : IsShown t size rows image

  -- each image does
  abbrev pub AllShowSound : {N : Type 0} → Ghosts N → N → Type 0
  AllShowSound g nv = (image : List ℕ) → Image (g.times nv) image → ShowsSound image
