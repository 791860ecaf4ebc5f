-- Blank storage shows no quota and no job, and where none is kept jobs are backed by any ledger.
use Rattle.std.proofs.Common.{◌≡◌, ℕ, List, length, replicate, None, sym, ap, ◌∙◌, subst}
use Rattle.bench_base.specs.Ledger.{Ledger}
use Rattle.bench_base.proofs.Facts.{some_none}
use Rattle.node_acts.specs.RowList.{row_of}
use Rattle.nv_model.specs.Moments.{Image, Nested, Only}
use Rattle.nv_model.specs.declared.nv.Nv as nv
use Rattle.nv_store.specs.Mounts.{Mounts}
use Rattle.row_node.specs.Shows.{ShowsRows}
use Rattle.row_node.proofs.Blank.{zeros_show}
use Rattle.row_store.proofs.Blank.{none_seen, still_only}
use Rattle.row_store.specs.Seen.{ReadsAs}
use Rattle.host_departments.specs.Holds.{AreBacked}
use Rattle.host_departments.specs.Payload.{decoded}
use Rattle.host_departments.specs.Rows.{Rows, row_in}

-- zeros show none
pub no_row : (cells bytes : ℕ) (rows : Rows) → length rows ≡ cells → ShowsRows 12 cells (ReadsAs decoded) rows (replicate bytes 0) → (k : ℕ) → row_in rows k ≡ None
no_row cells bytes rows long shows k = ap (λ o. row_of o) (none_seen 12 cells (ReadsAs decoded) rows (replicate bytes 0) long (zeros_show 12 2 cells bytes) shows k)

-- so departments that were booted from zeros keep none
pub none_kept : {N : Type 0} (g : nv.Ghosts N) (before now : N) (cells bytes : ℕ) (rows : Rows) → length rows ≡ cells → Mounts (g.times before) (g.times now) → Nested (g.times now)
    → Image (g.times now) (g.content now) → Only (g.times before) (replicate bytes 0) → ((i : List ℕ) → Image (g.times now) i → ShowsRows 12 cells (ReadsAs decoded) rows i)
    → (k : ℕ) → row_in rows k ≡ None
none_kept g before now cells bytes rows long mounts nested image only shows k =
    let same : g.content now ≡ replicate bytes 0 = still_only (g.times before) (g.times now) (replicate bytes 0) (g.content now) mounts nested only image in
    no_row cells bytes rows long (subst (λ (i : List ℕ). ShowsRows 12 cells (ReadsAs decoded) rows i) same (shows (g.content now) image)) k

pub none_backed : (rows : Rows) (H : Ledger) → ((k : ℕ) → row_in rows k ≡ None) → AreBacked rows H
none_backed rows H none k j p is = absurd (some_none (sym is ∙ none k))
