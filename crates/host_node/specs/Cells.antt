-- The jobs of the host by their cells: what lies where, and how a job that is put changes that.
use Rattle.std.proofs.Common.{◌≡◌, ◌≢◌, ℕ, ◌+◌, ◌<◌, length, Option, Some, None, sym, ◌∙◌, subst, arith}
use Rattle.std.proofs.lemmas.List.{ext_get_or, get_or-map, get_or-set_same, get_or-set_other, length-map, map-set}
use Rattle.node_acts.specs.RowList.{row_at, row_of, commits_at, put}
use Rattle.nv_store.specs.Slot.{Held}
use Rattle.row_node.specs.Kept.{IsFilled, seen_by, seen_long, seen_row}
use Rattle.host_jobs.specs.declared.{rows.JobRow.JobRow, sizes.TheConstants.HOST_CELLS}
use Rattle.host_jobs.proofs.Cells.{cell_lt}
use Rattle.host_jobs.proofs.Keeping.{none_at}
use Rattle.host_jobs.specs.Rows.{Jobs, no_jobs, row_in, put_row}
use Rattle.host_jobs.specs.Seen.{Seen, cell_of, rows_in}
use Rattle.host_node.specs.Payloads.{IsPayloadOf, HoldRows}

pub cell_inside : (x : JobRow) → cell_of x < HOST_CELLS
cell_inside x = cell_lt x.job

-- what is seen of cells that hold these jobs are the jobs
pub rows_kept : (rows : Jobs) (held : ℕ → Option Held) → length rows ≡ HOST_CELLS → HoldRows (row_in rows) held
    → rows_in (seen_by HOST_CELLS held (row_in rows)) ≡ rows
rows_kept rows held long filled = ext_get_or None (rows_in s) rows (many ∙ sym long) (λ k lt.
    let inside : k < HOST_CELLS = omega (arith, lt, many) in
    get_or-map row_of s k None None (omega (arith, inside, seen_many)) ∙ seen_row HOST_CELLS IsPayloadOf (row_in rows) held filled k inside)
  where
    s : Seen
    s = seen_by HOST_CELLS held (row_in rows)

    seen_many : length s ≡ HOST_CELLS
    seen_many = seen_long HOST_CELLS IsPayloadOf (row_in rows) held

    many : length (rows_in s) ≡ HOST_CELLS
    many = length-map s row_of ∙ seen_many

-- == a job that is put ==

-- the rows with the job put
pub rows_put : (s : Seen) (x : JobRow) → rows_in (put s (cell_of x) x) ≡ put_row (rows_in s) x
rows_put s x = map-set row_of s (cell_of x) (Some (commits_at (row_at s (cell_of x)) + 1, x))

-- it lies in its cell, and all others lie where they were
pub row_here : (rows : Jobs) (x : JobRow) → length rows ≡ HOST_CELLS → row_in (put_row rows x) (cell_of x) ≡ Some x
row_here rows x long = get_or-set_same rows (cell_of x) (Some x) None (omega (arith, cell_inside x, long))

pub row_other : (rows : Jobs) (x : JobRow) (k : ℕ) → k ≢ cell_of x → row_in (put_row rows x) k ≡ row_in rows k
row_other rows x k differs = get_or-set_other rows (cell_of x) k (Some x) None differs

-- == no jobs ==

-- blank cells hold none
pub none_hold : (held : ℕ → Option Held) → ((k : ℕ) → held k ≡ None) → HoldRows (row_in no_jobs) held
none_hold held none k lt =
    subst (λ (o : Option JobRow). IsFilled (IsPayloadOf k) o (held k)) (sym (none_at k))
    (subst (λ (h : Option Held). IsFilled (IsPayloadOf k) None h) (sym (none k)) tt)
