-- What the storage of the host shows: 1,024 cells of two slots, each with a payload that reads as a job of its cell.
use Rattle.std.specs.Prelude.{◌≡◌, ℕ, List, Option}
use Rattle.nv_model.specs.declared.nv.Nv.{Ghosts}
use Rattle.nv_store.specs.Slot.{Held}
use Rattle.row_node.specs.Shows.{IsDamagedTable}
use Rattle.row_node.specs.Kept.{AreFilled}
use Rattle.host_jobs.specs.declared.{rows.JobRow.JobRow, sizes.TheConstants.JOB_BYTES, sizes.TheConstants.HOST_CELLS}
use Rattle.host_jobs.specs.Payload.{JobReadsAs}
use Rattle.host_jobs.specs.Seen.{cell_of, rows_in}
use Rattle.host_jobs.specs.Soundness.{AreSound}

-- the payload of cell k reads as this job
abbrev pub IsPayloadOf : ℕ → JobRow → List ℕ → Type 0
IsPayloadOf k x payload = (cell_of x ≡ k) × ∥ JobReadsAs payload x ∥₁

-- the cells hold these jobs
abbrev pub HoldRows : (ℕ → Option JobRow) → (ℕ → Option Held) → Type 0
HoldRows rows held = AreFilled HOST_CELLS IsPayloadOf rows held

-- why a boot answers Damaged: the size is another, or what the storage is sure to hold is mixed, no jobs, or jobs that do not agree
abbrev pub IsDamaged : {N : Type 0} → Ghosts N → N → Type 0
IsDamaged g nv = IsDamagedTable JOB_BYTES HOST_CELLS IsPayloadOf (λ s. AreSound (rows_in s)) g nv
