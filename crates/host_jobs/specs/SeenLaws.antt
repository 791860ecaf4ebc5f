-- What the commits show of the host's cells. The lists of commits have the newest first.
use Rattle.std.specs.Prelude.{◌≡◌, ℕ, false, List, ◌∷◌}
use Rattle.bench_base.specs.declared.{words.Node.TheVariants.Host, ledger.Commit.Commit}
use Rattle.bench_base.specs.Nodes.{node_of, same_node}
use Rattle.bench_base.specs.Cells.{OfJob, place_of}
use Rattle.bench_base.specs.Cells as cells
use Rattle.bench_base.specs.Jobs.{cell_of}
use Rattle.node_acts.specs.RowList.{commits_at, put}
use Rattle.host_jobs.specs.declared.rows.JobRow.{JobRow}
use Rattle.host_jobs.specs.ActLaws.{AreRowsOf}
use Rattle.host_jobs.specs.Records.{rows_after, cell_after, seen_after}
use Rattle.host_jobs.specs.Rows.{Jobs, put_row}
use Rattle.host_jobs.specs.Seen.{rows_in}
use Rattle.host_jobs.specs.Turns.{InTurn}

pub record SeenLaws : Type 0 where
  -- the rows that are seen are those of the commits
  pub rows : (C : List Commit) → rows_in (seen_after C) ≡ rows_after C
  -- a cell without a row has no commits
  pub counted : (C : List Commit) (k : ℕ) → InTurn C → commits_at (cell_after k C) ≡ cells.commits_at (OfJob k) C
  -- one commit more puts its row, and counts in its cell
  pub puts : (rows : Jobs) (C : List Commit) (c : Commit) (x : JobRow) → AreRowsOf rows C → AreRowsOf (put_row rows x) (c ∷ C)
      → place_of c ≡ OfJob (cell_of x.job)
      → seen_after (c ∷ C) ≡ put (seen_after C) (cell_of x.job) x
  -- the other nodes' commits leave the host's turn, and what is seen of its cells
  pub others : (c : Commit) (C : List Commit) → same_node (node_of c) Host ≡ false → InTurn C → InTurn (c ∷ C)
  pub stays : (c : Commit) (C : List Commit) → same_node (node_of c) Host ≡ false → seen_after (c ∷ C) ≡ seen_after C
