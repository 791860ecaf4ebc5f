-- How many commits the cells have at most.
use Rattle.std.proofs.Common.{inl, inr, ℕ, ◌<◌, ◌≤◌, List, length, get_or, Option, None, sym, subst, arith}
use Rattle.std.proofs.lemmas.Bool.{cases_lt}
use Rattle.std.proofs.lemmas.List.{get_or_past, length-map}
use Rattle.bench_base.specs.declared.sizes.TheConstants.{MOST_COMMITS}
use Rattle.node_acts.specs.RowList.{row_at, commits_at}
use Rattle.verifier.specs.Rows.{Row}
use Rattle.trace_verifier.specs.declared.held.Held.{Held}
use Rattle.trace_verifier.specs.Helds.{seen_cell, seen_by}
use Rattle.trace_verifier.proofs.Kept.{here_is}

-- a cell past the last has none
pub few_all : (cells : List (Option (ℕ × Held))) → ((k : ℕ) → k < length cells → commits_at (seen_cell (get_or cells k None)) ≤ MOST_COMMITS)
    → (k : ℕ) → commits_at (row_at (seen_by cells) k) ≤ MOST_COMMITS
few_all cells few k = elim (cases_lt k (length cells)) [
  | inl lt ↦ subst (λ (o : Option (ℕ × Row)). commits_at o ≤ MOST_COMMITS) (sym (here_is cells k None lt)) (few k lt)
  | inr past ↦ subst (λ (o : Option (ℕ × Row)). commits_at o ≤ MOST_COMMITS) (sym (get_or_past (seen_by cells) k None (omega (arith, past, length-map cells seen_cell)))) (omega arith)
]
