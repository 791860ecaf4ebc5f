-- What is counted of the centre adds up to its commits.
use Rattle.std.proofs.Common.{◌≡◌, ℕ, zero, suc, ◌<◌, List, refl, ◌∙◌, ap, arith}
use Rattle.std.specs.Prelude.{sum_by}
use Rattle.std.proofs.lemmas.List.Sums.{sum_by-cons}
use Rattle.bench_base.specs.declared.{sizes.TheConstants.CENTRE_CELLS, words.Node.TheVariants.Centre, ledger.Commit.Commit}
use Rattle.bench_base.specs.Cells.{Place}
use Rattle.bench_base.specs.Cells as cells
use Rattle.bench_base.specs.Ledger.{count_of}
use Rattle.node_acts.specs.RowList.{commits_at, commits_in, listed}
use Rattle.ledger_laws.specs.Places.{centre_places, CellsAddUp}
use Rattle.ledger_laws.specs.Places as places
use Rattle.centre_ledger.specs.Order.{InOrder}
use Rattle.bench_abstraction.specs.Centre.{place_in, cell_after, seen_in}
use Rattle.bench_abstraction.proofs.CentreCommits.{counted_at}

pub same_sum : {A B : Type 0} (f : A → ℕ) (g : B → ℕ) (n : ℕ) (a : ℕ → A) (b : ℕ → B) → ((k : ℕ) → k < n → f (a k) ≡ g (b k)) → sum_by f (listed n a) ≡ sum_by g (listed n b)
unfolding listed
same_sum f g zero a b same = refl
same_sum f g (suc n) a b same =
    let rest = same_sum f g n (λ k. a (suc k)) (λ k. b (suc k)) (λ k lt. same (suc k) (omega arith)) in
    let here = same 0 (omega arith) in
    omega (arith, sum_by-cons f (a 0) (listed n (λ k. a (suc k))), sum_by-cons g (b 0) (listed n (λ k. b (suc k))), here, rest)

places_are : listed CENTRE_CELLS place_in ≡ centre_places
unfolding listed centre_places
places_are = refl

pub counts : (C : List Commit) → InOrder C → CellsAddUp C → commits_in (seen_in C) ≡ count_of Centre C
counts C order adds =
    same_sum commits_at (λ (p : Place). cells.commits_at p C) CENTRE_CELLS (λ k. cell_after k C) place_in (λ k lt. counted_at k C order)
    ∙ ap (λ (l : List Place). places.commits_in l C) places_are ∙ adds.centre
