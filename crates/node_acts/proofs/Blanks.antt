-- Rows of cells that are all blank.
use Rattle.std.proofs.Common.{◌≡◌, ℕ, zero, suc, ◌≤◌, Option, None, refl, ap, arith}
use Rattle.std.proofs.lemmas.List.Sums.{sum_by-le}
use Rattle.std.proofs.lemmas.List.Elements.{All-from_get_or}
use Rattle.bench_base.specs.declared.sizes.TheConstants.{MOST_COMMITS}
use Rattle.node_acts.specs.RowList.{RowList, row_at, commits_at, commits_in, listed}

module _ {R : Type 0} where
  pub none_at : (n : ℕ) (item : ℕ → Option (ℕ × R)) → ((k : ℕ) → item k ≡ None) → (k : ℕ) → row_at (listed n item) k ≡ None
  unfolding listed
  none_at zero item none k = refl
  none_at (suc n) item none zero = none zero
  none_at (suc n) item none (suc k) = none_at n (λ j. item (suc j)) (λ j. none (suc j)) k

  module _ (s : RowList R) (none : (k : ℕ) → row_at s k ≡ None) where
    no_commits : (k : ℕ) → commits_at (row_at s k) ≡ 0
    no_commits k = ap (λ (o : Option (ℕ × R)). commits_at o) (none k)

    pub counts_none : commits_in s ≡ 0
    counts_none = omega (arith, sum_by-le commits_at 0 s (All-from_get_or (λ x. commits_at x ≤ 0) s None (λ k inside. omega (arith, no_commits k))))

    pub few_none : (k : ℕ) → commits_at (row_at s k) ≤ MOST_COMMITS
    few_none k = omega (arith, no_commits k)
