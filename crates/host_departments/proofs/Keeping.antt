-- What the cells of a memory keep.
use Rattle.std.proofs.Common.{◌≡◌, inl, inr, ℕ, ◌<◌, ◌≤◌, length, Option, Some, None, refl, sym, ap, ◌∙◌, arith}
use Rattle.std.proofs.lemmas.Bool.{cases_lt}
use Rattle.std.proofs.lemmas.List.{get_or_past}
use Rattle.nv_store.specs.RoomView.{cells_of, kept_in}
use Rattle.nv_store.specs.declared.room.Room.{Room}
use Rattle.node_acts.specs.RowList.{row_of}
use Rattle.row_node.specs.Kept.{seen_long}
use Rattle.row_store.specs.Seen.{ReadsAs, row_held}
use Rattle.row_store.proofs.Kept.{row_read}
use Rattle.host_departments.specs.Kept.{AllFilled, rows_in}
use Rattle.host_departments.specs.Payload.{decoded, IsFit}
use Rattle.host_departments.specs.Rows.{row_in, job_in, Keeps}
use Rattle.host_departments.specs.declared.{row.DepartmentRow.DepartmentRow, row.DepartmentRow.TheVariants.Quota, row.DepartmentRow.TheVariants.Job}
use Rattle.host_departments.proofs.Payloads.{decoded_fits}

module _ (room : Room 12) where
  pub rows_long : length (rows_in room) ≡ cells_of room
  rows_long = seen_long (cells_of room) (ReadsAs decoded) (λ j. row_held decoded j (kept_in room j)) (kept_in room)

  -- past the last cell nothing is kept
  pub row_past : (k : ℕ) → cells_of room ≤ k → row_in (rows_in room) k ≡ None
  row_past k past = ap (λ o. row_of o) (get_or_past (rows_in room) k None (omega (arith, past, rows_long)))

  pub row_inside : (k : ℕ) (x : DepartmentRow) → row_in (rows_in room) k ≡ Some x → k < cells_of room
  row_inside k x is = elim (cases_lt k (cells_of room)) [
    | inl lt ↦ lt
    | inr past ↦ let wrong : None ≡ Some x = sym (row_past k past) ∙ is in cc
  ]

  module _ (filled : AllFilled room) where
    -- what a cell keeps fits it
    pub row_fits : (k : ℕ) (x : DepartmentRow) → row_in (rows_in room) k ≡ Some x → IsFit k x
    row_fits k x is =
        let payload = row_read decoded (cells_of room) (kept_in room) filled k (row_inside k x is) x is in
        decoded_fits k payload.0 x payload.1

    by_row : (k j : ℕ) (o : Option DepartmentRow) → row_in (rows_in room) k ≡ o → job_in o ≡ Some j → (16 ≤ k) × (k < cells_of room)
    by_row k j None is job = cc
    by_row k j (Some (Quota q)) is job = cc
    by_row k j (Some (Job i p)) is job = ((row_fits k (Job i p) is).0, row_inside k (Job i p) is)

    -- a job's cell is after the quotas
    pub job_place : (k j : ℕ) → Keeps (rows_in room) k j → (16 ≤ k) × (k < cells_of room)
    job_place k j keeps = by_row k j (row_in (rows_in room) k) refl keeps
