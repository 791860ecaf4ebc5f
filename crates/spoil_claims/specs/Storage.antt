-- What a run leaves of the storage of the claims.
use Rattle.std.specs.Prelude.{◌≡◌, ◌⊎◌, ◌↔◌, ℕ, ◌-◌, true, false, List, Option, Some, None, IsSome}
use Rattle.bench_base.specs.Causes.{Rose}
use Rattle.nv_model.specs.Meters.{Meters, WasCut}
use Rattle.nv_model.specs.Moments.{Image}
use Rattle.nv_model.specs.declared.nv.Nv.{Ghosts}
use Rattle.line_runs.specs.declared.{status.SideStatus.SideStatus, status.SideStatus.TheVariants.Stopped}
use Rattle.line_extensions.specs.SideTrace.{SideStep}
use Rattle.line_extensions.specs.Stops as stops
use Rattle.line_extensions.specs.Stops.{HasBroken}
use Rattle.node_acts.specs.RowList.{put}
use Rattle.row_store.specs.Seen.{ReadsAs}
use Rattle.row_node.specs.Shows.{ShowsRows}
use Rattle.spoil_claims.specs.Claims.{Claims}
use Rattle.spoil_claims.specs.Payload.{decoded}
use Rattle.spoil_claims.specs.View.{storage_of, has_failed, rows_of, view_of}
use Rattle.spoil_claims.specs.declared.{claim.ClaimLine.ClaimLine, claim.ClaimRow.ClaimRow, claim.TheConstants.CLAIM_CELLS, desk.Desk.Desk}

-- the claims with the commit that was torn, if one was
abbrev pub with_torn : Option ClaimRow → Claims → Claims
with_torn None rows = rows
with_torn (Some x) rows = put rows (x.claim - 1) x

module _ {N : Type 0} {g : Ghosts N} where
  abbrev pub meters_of : Desk N g → Meters
  meters_of desk = g.meters (storage_of desk)

  -- storage and claims are as they were
  abbrev pub IsUntouched : Desk N g → Desk N g → Type 0
  IsUntouched old new = stops.IsUntouched g decoded (view_of old) (view_of new)

  -- at every moment from the one to the other each image shows the claims, or these with the one commit in hand
  abbrev pub ShownMeanwhile : Desk N g → Desk N g → Type 0
  ShownMeanwhile old new = stops.ShownMeanwhile g decoded 73 CLAIM_CELLS (view_of old) (view_of new)

  -- Whether a commit failed, and which was torn; and what each image of the storage shows.
  pub record LeavesStorage (old new : Desk N g) (outcome : SideStatus) (trace : List (SideStep ClaimLine)) (torn : Option ClaimRow) : Type 0 where
    -- the run was stopped if and only if a commit failed
    pub stops : (outcome ≡ Stopped) ↔ HasBroken trace
    pub failed : (has_failed new ≡ true) ↔ ((has_failed old ≡ true) ⊎ (outcome ≡ Stopped))
    -- where one had failed before, this one answered Failed, and nothing was written
    pub before : has_failed old ≡ true → (torn ≡ None) × IsUntouched old new
    -- otherwise it answered Power, where power was cut, or Fault, where the count of faults rose; and it is the one that was torn
    pub why : has_failed old ≡ false → outcome ≡ Stopped → IsSome torn
        × (WasCut (meters_of old) (meters_of new) ⊎ Rose (meters_of old).faults (meters_of new).faults)
    pub whole : (outcome ≡ Stopped → ⊥) → torn ≡ None
    -- each image shows the claims, or those with the torn commit
    pub shows : g.tells → has_failed old ≡ false → (c : List ℕ) → Image (g.times (storage_of new)) c
        → ShowsRows 73 CLAIM_CELLS (ReadsAs decoded) (rows_of new) c ⊎ ShowsRows 73 CLAIM_CELLS (ReadsAs decoded) (with_torn torn (rows_of new)) c
