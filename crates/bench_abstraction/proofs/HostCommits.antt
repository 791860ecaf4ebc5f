-- What one commit of the host does to what is seen of it, and that what is counted of it adds up to its commits.
use Rattle.std.proofs.Common.{◌≡◌, ℕ, List, Option, None, sym, ◌∙◌, ap, arith}
use Rattle.std.specs.Prelude.{nat_le}
use Rattle.std.proofs.lemmas.List.FromFn.{length-map-range_with_len, get_or-map-range_with_len}
use Rattle.bench_base.specs.declared.{sizes.TheConstants.MOST_COMMITS, words.Node.TheVariants.Host, ledger.Commit.Commit}
use Rattle.bench_base.specs.Cells.{Place, OfJob, place_of}
use Rattle.bench_base.specs.Cells as cells
use Rattle.bench_base.specs.Ledger.{count_of}
use Rattle.node_acts.specs.RowList.{row_at, commits_at, commits_in, listed}
use Rattle.node_acts.specs.RowList as rows
use Rattle.node_acts.specs.RowLaws.{listed_at, listed_is}
use Rattle.ledger_laws.specs.Places.{host_places, CellsAddUp}
use Rattle.ledger_laws.specs.Places as places
use Rattle.host_jobs.specs.declared.{rows.JobRow.JobRow, sizes.TheConstants.HOST_CELLS}
use Rattle.host_jobs.specs.Records.{cell_after, seen_after}
use Rattle.host_jobs.specs.Seen.{cell_of, IsKnown}
use Rattle.host_jobs.specs.SeenLaws.{SeenLaws}
use Rattle.host_jobs.specs.Turns.{InTurn}
use Rattle.host_jobs.proofs.Cells.{cell_lt}
use Rattle.bench_abstraction.proofs.CentreCounts.{same_sum}
use Rattle.bench_abstraction.proofs.Counts.{top_is}

places_are : listed HOST_CELLS OfJob ≡ host_places
unfolding host_places
places_are = listed_is HOST_CELLS OfJob (OfJob 0) host_places (length-map-range_with_len OfJob 0 HOST_CELLS) (λ k lt. get_or-map-range_with_len OfJob 0 HOST_CELLS k k (OfJob 0) lt (omega arith))

module _ (laws : SeenLaws) (C : List Commit) (turn : InTurn C) where
  pub counts : CellsAddUp C → commits_in (seen_after C) ≡ count_of Host C
  counts adds =
      same_sum commits_at (λ (p : Place). cells.commits_at p C) HOST_CELLS (λ k. cell_after k C) OfJob (λ k lt. laws.counted C k turn)
      ∙ ap (λ (l : List Place). places.commits_in l C) places_are ∙ adds.host

  -- its cell is worn where the ledger says so
  pub worn : (c : Commit) (x : JobRow) → place_of c ≡ OfJob (cell_of x) → IsKnown (seen_after C) → cells.is_worn c C ≡ rows.is_worn (seen_after C) (cell_of x)
  unfolding cells.is_worn
  worn c x at known =
      let here : commits_at (row_at (seen_after C) (cell_of x)) ≡ cells.commits_at (place_of c) C =
      ap (λ (o : Option (ℕ × JobRow)). commits_at o) (listed_at HOST_CELLS (λ k. cell_after k C) None (cell_of x) (cell_lt x.job))
      ∙ laws.counted C (cell_of x) turn ∙ ap (λ (p : Place). cells.commits_at p C) (sym at) in
      ap (λ (n : ℕ). nat_le MOST_COMMITS n) (sym here) ∙ top_is (commits_at (row_at (seen_after C) (cell_of x))) MOST_COMMITS (known.few (cell_of x))
