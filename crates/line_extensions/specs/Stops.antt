-- What a run leaves of an extension's own storage: whether a commit failed and why, and what each image of the storage shows then.
use Rattle.std.specs.Prelude.{◌≡◌, ◌⊎◌, ◌↔◌, ℕ, Bool, true, false, List, [], ◌∷◌, Option, Some, None, IsSome}
use Rattle.bench_base.specs.Causes.{Rose}
use Rattle.nv_model.specs.Meters.{Meters, WasCut}
use Rattle.nv_model.specs.Moments.{Image}
use Rattle.nv_model.specs.declared.nv.Nv.{Ghosts}
use Rattle.nv_store.specs.Slot.{Held}
use Rattle.node_acts.specs.RowList.{RowList, put}
use Rattle.row_node.specs.Shows.{ShowsRows}
use Rattle.row_store.specs.Commits.{RowView}
use Rattle.row_store.specs.Seen.{ReadsAs, seen_in}
use Rattle.line_runs.specs.declared.{status.SideStatus.SideStatus, status.SideStatus.TheVariants.Stopped}
use Rattle.line_extensions.specs.SideTrace.{SideStep, Plain, Own, Broken}

-- a commit of the extension's failed at one of the lines
abbrev pub HasBroken : {L : Type 0} → List (SideStep L) → Type 0
HasBroken [] = ⊥
HasBroken (Plain d ∷ rest) = HasBroken rest
HasBroken (Own line own steps texts ∷ rest) = HasBroken rest
HasBroken (Broken line own steps ∷ rest) = Unit {0}

-- a commit of a row to a cell
pub record RowCommit (R : Type 0) : Type 0 where
  pub cell : ℕ
  pub kept : R

-- the rows with the commit, if there is one
abbrev pub with_commit : {R : Type 0} → Option (RowCommit R) → RowList R → RowList R
with_commit None rows = rows
with_commit (Some c) rows = put rows c.cell c.kept

-- an extension as contracts see it: whether a commit of it failed, its storage, and what is kept of each cell
pub record DeskView (N : Type 0) : Type 0 where
  pub failed : Bool
  pub storage : N
  pub cells : ℕ
  pub held : ℕ → Option Held

module _ {N R : Type 0} (g : Ghosts N) (decoded : ℕ → List ℕ → Option R) where
  abbrev pub rows_seen : DeskView N → RowList R
  rows_seen v = seen_in decoded v.cells v.held

  abbrev pub meters_seen : DeskView N → Meters
  meters_seen v = g.meters v.storage

  abbrev pub row_view : DeskView N → RowView
  row_view v = record { cells = v.cells; held = v.held; content = g.content v.storage; times = g.times v.storage; meters = g.meters v.storage }

  -- storage and rows are as they were
  pub record IsUntouched (old new : DeskView N) : Type 0 where
    pub storage : new.storage ≡ old.storage
    pub rows : rows_seen new ≡ rows_seen old

  -- At every moment from the one to the other each image shows the rows, or these with the one commit in hand: where none failed, the one that was made.
  pub record ShownMeanwhile (size cells : ℕ) (old new : DeskView N) : Type 0 where
    pub images : g.tells → old.failed ≡ false → (i : List ℕ) → (g.times new.storage).since (g.times old.storage).moment i
        → ShowsRows size cells (ReadsAs decoded) (rows_seen old) i
        ⊎ ((c : RowCommit R) × (new.failed ≡ false → rows_seen new ≡ with_commit (Some c) (rows_seen old))
        × ShowsRows size cells (ReadsAs decoded) (with_commit (Some c) (rows_seen old)) i)

  -- Whether a commit failed, and which; why; and what each image of the storage shows, which has cells of this size.
  pub record LeavesStorage {L : Type 0} (size cells : ℕ) (old new : DeskView N) (outcome : SideStatus) (trace : List (SideStep L))
      (commit : Option (RowCommit R)) : Type 0 where
    -- the run was stopped if and only if one failed
    pub stops : (outcome ≡ Stopped) ↔ HasBroken trace
    pub which : (outcome ≡ Stopped) ↔ IsSome commit
    pub failed : (new.failed ≡ true) ↔ ((old.failed ≡ true) ⊎ (outcome ≡ Stopped))
    -- where one had failed before, this one answered Failed, and nothing was written
    pub before : old.failed ≡ true → IsUntouched old new
    -- otherwise it answered Power, where power was cut, or Fault, where the count of faults rose
    pub why : old.failed ≡ false → outcome ≡ Stopped → WasCut (meters_seen old) (meters_seen new) ⊎ Rose (meters_seen old).faults (meters_seen new).faults
    -- each image shows the rows, or those with the commit that failed
    pub shows : g.tells → old.failed ≡ false → (c : List ℕ) → Image (g.times new.storage) c
        → ShowsRows size cells (ReadsAs decoded) (rows_seen new) c ⊎ ShowsRows size cells (ReadsAs decoded) (with_commit commit (rows_seen new)) c
