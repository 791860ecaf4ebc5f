-- Jobs that are backed by a history hold by it.
use Rattle.std.proofs.Common.{◌≡◌, ℕ, ◌+◌, Option, Some, None, refl, sym, ap, ◌∙◌}
use Rattle.std.proofs.lemmas.Option.{same_Some}
use Rattle.bench_base.specs.Ledger.{Ledger, counted}
use Rattle.bench_base.specs.Rules.{editions}
use Rattle.ledger_terms.specs.Editions.{Editions}
use Rattle.ledger_moves.specs.Histories.{History}
use Rattle.ledger_moves.specs.Tariffs.{Tariff}
use Rattle.send_laws.proofs.Sending.{order_of}
use Rattle.host_departments.specs.Holds.{AreBacked, ordered_at, DepartmentsHold}
use Rattle.host_departments.specs.Rows.{Rows, row_in, first_cell, or_zero, postage_in, postage_at}
use Rattle.host_departments.specs.declared.{row.DepartmentRow.DepartmentRow, row.DepartmentRow.TheVariants.Quota, row.DepartmentRow.TheVariants.Job}
use Rattle.host_departments.proofs.Sums.{sum_same}

module _ (today : Editions editions) (τ : Tariff) (H : Ledger) (history : History τ editions H) (rows : Rows) (b : AreBacked rows H) where
  -- one cell
  cell_ordered : (k : ℕ) (o : Option DepartmentRow) → row_in rows k ≡ o → postage_in o ≡ ordered_at (counted H) o
  cell_ordered k None is = refl
  cell_ordered k (Some (Quota q)) is = refl
  cell_ordered k (Some (Job j p)) is = sym (ap (λ (o : Option ℕ). or_zero o) (b k j p is))

  pub departments_hold : DepartmentsHold rows H
  departments_hold = record {
    spent = λ d is. sum_same 64 (postage_at rows d) (λ i. ordered_at (counted H) (row_in rows (first_cell d + i))) (λ i lt. cell_ordered (first_cell d + i) (row_in rows (first_cell d + i)) refl);
    only = λ k j p is d piece a class within. same_Some a p (sym (order_of τ _ _ H today history j d piece a class within) ∙ b k j p is);
    backed = b;
  }
