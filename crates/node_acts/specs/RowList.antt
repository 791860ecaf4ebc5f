-- The record of a node of many cells: of each cell nothing if it is blank, otherwise how many commits it has and its row.
-- The rows R are those of the node's own subject.
use Rattle.std.specs.Prelude.{ℕ, zero, suc, ◌+◌, List, [], ◌∷◌, Option, Some, None, Bool, get_or, set, sum_by, ◌==◌}
use Rattle.bench_base.specs.declared.sizes.TheConstants.{MOST_COMMITS}
use Rattle.node_acts.specs.Views.{Counting}

abbrev pub RowList : Type 0 → Type 0
RowList R = List (Option (ℕ × R))

-- what is seen of cell k
abbrev pub row_at : {R : Type 0} → RowList R → ℕ → Option (ℕ × R)
row_at s k = get_or s k None

-- the number of commits of a cell, 0 where it is blank
abbrev pub commits_at : {R : Type 0} → Option (ℕ × R) → ℕ
commits_at None = 0
commits_at (Some x) = x.0

-- the row of a cell
abbrev pub row_of : {R : Type 0} → Option (ℕ × R) → Option R
row_of None = None
row_of (Some x) = Some x.1

-- the number of all commits
abbrev pub commits_in : {R : Type 0} → RowList R → ℕ
commits_in s = sum_by commits_at s

-- a cell has as many commits as can be counted
abbrev pub is_worn : {R : Type 0} → RowList R → ℕ → Bool
is_worn s cell = commits_at (row_at s cell) == MOST_COMMITS

-- a row was committed to a cell
abbrev pub put : {R : Type 0} → RowList R → ℕ → R → RowList R
put s cell r = set s cell (Some (commits_at (row_at s cell) + 1, r))

-- what is counted, by the cell and the row of a change
abbrev pub counting_by : {X R : Type 0} → (X → ℕ) → (X → R) → Counting (RowList R) X
counting_by cell_of row_in = record {
  count = λ s. commits_in s;
  is_worn = λ s x. is_worn s (cell_of x);
  after = λ s x. put s (cell_of x) (row_in x);
}

-- The list of the first n items, from item 0 on. It is not unfolded by itself, since n is a numeral where it is used.
unfoldable pub listed : {A : Type 0} → ℕ → (ℕ → A) → List A
listed zero item = []
listed (suc n) item = item zero ∷ listed n (λ k. item (suc k))
