-- What one commit does to the record of a node of many cells, and what a list of so many items holds.
use Rattle.std.proofs.Common.{◌≡◌, ◌≢◌, ◌↔◌, ℕ, zero, suc, ◌+◌, ◌<◌, List, ◌∷◌, Option, Some, None, length, get_or, true, ◌==◌, refl, sym, ◌∙◌, ap, arith, inl, inr}
use Rattle.std.proofs.lemmas.Bool.{cases_eq}
use Rattle.std.proofs.lemmas.Bool.Decides.{nat_tests}
use Rattle.std.proofs.lemmas.List.{ext_get_or, get_or-set_same, get_or-set_other, length-set}
use Rattle.std.proofs.lemmas.List.Sums.{sum_by-set}
use Rattle.bench_base.specs.declared.sizes.TheConstants.{MOST_COMMITS}
use Rattle.node_acts.specs.RowList.{RowList, row_at, commits_at, commits_in, is_worn, put, listed}

-- == a list of so many items ==

pub listed_long : {A : Type 0} (n : ℕ) (item : ℕ → A) → length (listed n item) ≡ n
unfolding listed
listed_long zero item = refl
listed_long (suc n) item = ap suc (listed_long n (λ k. item (suc k)))

pub listed_at : {A : Type 0} (n : ℕ) (item : ℕ → A) (d : A) (k : ℕ) → k < n → get_or (listed n item) k d ≡ item k
unfolding listed
listed_at zero item d k lt = absurd (omega arith)
listed_at (suc n) item d zero lt = refl
listed_at (suc n) item d (suc k) lt = listed_at n (λ j. item (suc j)) d k (omega arith)

-- a list is the one of its items
pub listed_is : {A : Type 0} (n : ℕ) (item : ℕ → A) (d : A) (l : List A) → length l ≡ n → ((k : ℕ) → k < n → get_or l k d ≡ item k) → listed n item ≡ l
listed_is n item d l long each =
    ext_get_or d (listed n item) l (listed_long n item ∙ sym long)
    (λ k lt. let inside : k < n = omega (arith, lt, listed_long n item) in listed_at n item d k inside ∙ sym (each k inside))

pub listed_same : {A : Type 0} (n : ℕ) (a b : ℕ → A) → ((k : ℕ) → k < n → a k ≡ b k) → listed n a ≡ listed n b
unfolding listed
listed_same zero a b same = refl
listed_same {A} (suc n) a b same =
    let tail : listed n (λ k. a (suc k)) ≡ listed n (λ k. b (suc k)) = listed_same n (λ k. a (suc k)) (λ k. b (suc k)) (λ k lt. same (suc k) (omega arith)) in
    ap (λ (x : A). x ∷ listed n (λ k. a (suc k))) (same 0 (omega arith)) ∙ ap (λ (l : List A). b 0 ∷ l) tail

-- == one commit ==

module _ {R : Type 0} (s : RowList R) (cell : ℕ) (r : R) where
  pub put_long : length (put s cell r) ≡ length s
  put_long = length-set s cell (Some (commits_at (row_at s cell) + 1, r))

  pub put_here : cell < length s → row_at (put s cell r) cell ≡ Some (commits_at (row_at s cell) + 1, r)
  put_here lt = get_or-set_same s cell (Some (commits_at (row_at s cell) + 1, r)) None lt

  pub put_other : (k : ℕ) → k ≢ cell → row_at (put s cell r) k ≡ row_at s k
  put_other k differs = get_or-set_other s cell k (Some (commits_at (row_at s cell) + 1, r)) None differs

  pub put_counts : cell < length s → commits_in (put s cell r) ≡ commits_in s + 1
  put_counts lt = omega (arith, sum_by-set commits_at s cell (Some (commits_at (row_at s cell) + 1, r)) None lt)

-- a commit to a list of so many cells
pub put_listed : {R : Type 0} (n : ℕ) (old new : ℕ → Option (ℕ × R)) (cell : ℕ) (r : R) → cell < n → new cell ≡ Some (commits_at (old cell) + 1, r)
    → ((k : ℕ) → k ≢ cell → new k ≡ old k) → listed n new ≡ put (listed n old) cell r
put_listed {R} n old new cell r lt here others =
    let s : RowList R = listed n old in
    listed_is n new None (put s cell r) (put_long s cell r ∙ listed_long n old) (λ k inside. elim (cases_eq k cell) [
      | inl is ↦
          ap (row_at (put s cell r)) is ∙ put_here s cell r (omega (arith, lt, listed_long n old))
          ∙ ap (λ (o : Option (ℕ × R)). Some (commits_at o + 1, r)) (listed_at n old None cell lt) ∙ sym here ∙ ap new (sym is)
      | inr differs ↦ put_other s cell r k differs ∙ listed_at n old None k inside ∙ sym (others k differs)
    ])

worn_count : (n : ℕ) → (n == MOST_COMMITS) ≡ true → n ≡ MOST_COMMITS
worn_count n is = grind (arith, nat_tests)

count_worn : (n : ℕ) → n ≡ MOST_COMMITS → (n == MOST_COMMITS) ≡ true
count_worn n is = grind (arith, nat_tests)

-- a cell is worn where it has so many commits
pub worn_is : {R : Type 0} (s : RowList R) (cell : ℕ) → (is_worn s cell ≡ true) ↔ (commits_at (row_at s cell) ≡ MOST_COMMITS)
worn_is s cell = (worn_count (commits_at (row_at s cell)), count_worn (commits_at (row_at s cell)))
