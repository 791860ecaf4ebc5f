-- What is seen of the cells of the host are the jobs that it keeps.
use Rattle.std.proofs.Common.{◌≡◌, ℕ, Option, sym, ◌∙◌, ap, subst}
use Rattle.std.specs.Prelude.{IfSome}
use Rattle.nv_store.specs.Slot.{Held}
use Rattle.row_node.specs.Tables.{Filled, Keeps, seen_of}
use Rattle.host_jobs.specs.declared.{rows.JobRow.JobRow, kept.Kept.Kept}
use Rattle.host_jobs.specs.Rows.{Jobs}
use Rattle.host_jobs.specs.Seen.{cell_of, rows_in}
use Rattle.host_jobs.specs.Soundness.{IsDerived, IsSoundJob, IsJobAt, IsNext}
use Rattle.host_node.specs.Cells.{rows_kept, row_here}
use Rattle.host_node.specs.Table.{host_table}
use Rattle.host_node.specs.declared.rows.HostRows.{HostRows}

module _ (m : HostRows) (held : ℕ → Option Held) where
  rows_are : Filled host_table m held → rows_in (seen_of host_table m held) ≡ m.jobs
  rows_are filled = rows_kept m.jobs held m.long filled

  -- so what is lent of them
  pub jobs_lent : (lent : HostRows) → lent ≡ m → Filled host_table m held → lent.jobs ≡ rows_in (seen_of host_table m held)
  jobs_lent lent same filled = ap (λ (k : HostRows). k.jobs) same ∙ sym (rows_are filled)

  pub kept_lent : (lent : HostRows) → lent ≡ m → Keeps host_table m held → IsDerived (rows_in (seen_of host_table m held)) lent.kept
  kept_lent lent same keeps =
      subst (λ (k : Kept). IsDerived (rows_in (seen_of host_table m held)) k) (ap (λ (k : HostRows). k.kept) (sym same))
      (subst (λ (rows : Jobs). IsDerived rows m.kept) (sym (rows_are keeps.filled)) keeps.follows)

  -- the next job is sound
  pub sound_next : (x : JobRow) → Filled host_table m held → IsNext (rows_in (seen_of host_table m held)) x → IsSoundJob x
  sound_next x filled fits =
      let next = subst (λ (b : Jobs). IsNext b x) (rows_are filled) fits in
      (subst (λ (o : Option JobRow). IfSome o (IsJobAt (cell_of x))) (row_here m.jobs x m.long) (next.sound.placed.each (cell_of x))).sound
