-- What was read out of the cells of the host.
use Rattle.std.proofs.Common.{◌≡◌, inr, ℕ, length, Option, sym, subst}
use Rattle.nv_store.specs.Slot.{Held}
use Rattle.row_node.specs.Boots.{Found, HoldNone}
use Rattle.host_jobs.specs.declared.sizes.TheConstants.{HOST_CELLS}
use Rattle.host_jobs.specs.Rows.{Jobs, row_in}
use Rattle.host_jobs.specs.Soundness.{AreSound, IsDerived}
use Rattle.host_node.specs.Boots.{JobsRead}
use Rattle.host_node.specs.Cells.{rows_kept}
use Rattle.host_node.specs.Payloads.{HoldRows}
use Rattle.host_node.specs.Table.{host_table}
use Rattle.host_node.specs.declared.rows.HostRows.{HostRows}

module _ (held : ℕ → Option Held) (rows : Jobs) (long : length rows ≡ HOST_CELLS) (read : JobsRead held HOST_CELLS rows) where
  hold_rows : HoldRows (row_in rows) held
  hold_rows k lt = (read k lt).filled

  -- so a boot finds these jobs, where they are sound
  pub found : (m : HostRows) → m.jobs ≡ rows → IsDerived m.jobs m.kept → Found host_table m held
  found m is kept = record {
    keeps = record { filled = filled; follows = kept };
    agree = subst AreSound (sym (rows_kept m.jobs held m.long filled)) kept.sound;
    few = λ k lt. (read k lt).few;
  }
    where
      filled : HoldRows (row_in m.jobs) held
      filled = subst (λ (l : Jobs). HoldRows (row_in l) held) (sym is) hold_rows

  pub unsound : (AreSound rows → ⊥) → HoldNone host_table held
  unsound breaks = inr (record { rows = row_in rows; are = hold_rows; breaks = λ sound. breaks (subst AreSound (rows_kept rows held long hold_rows) sound) })
