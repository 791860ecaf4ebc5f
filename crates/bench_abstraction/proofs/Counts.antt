-- A device's cell has as many commits as the device, so it is worn where the device has 4,294,967,295.
use Rattle.std.proofs.Common.{◌≡◌, ℕ, ◌≤◌, true, false, List, [], ◌∷◌, refl, sym, ◌∙◌, ⊎_elim, arith}
use Rattle.std.specs.Prelude.{◌==◌, nat_le}
use Rattle.std.proofs.lemmas.Bool.{cases_Bool, eqb-true, eqb-false, le-leb, lt-leb}
use Rattle.bench_base.specs.declared.{words.Node.TheVariants.Device, ledger.Commit.Commit, ledger.Commit.TheVariants.Made}
use Rattle.bench_base.specs.Nodes.{same_node, node_of}
use Rattle.bench_base.specs.Cells.{OfDevice, same_place, place_of, commits_at, is_worn}
use Rattle.bench_base.specs.Ledger.{count_of}

one_cell : (d : ℕ) (c : Commit) → same_place (place_of c) (OfDevice d) ≡ same_node (node_of c) (Device d)
one_cell d (Made e key) = refl
one_cell d _ = refl

count_at : (d : ℕ) (C : List Commit) → commits_at (OfDevice d) C ≡ count_of (Device d) C
count_at d [] = refl
count_at d (c ∷ C) = rw (one_cell d c, count_at d C) refl

pub top_is : (n top : ℕ) → n ≤ top → nat_le top n ≡ (n == top)
top_is n top le = ⊎_elim
    (λ (t : (n == top) ≡ true). let same : n ≡ top = eqb-true n top t in le-leb top n (omega arith) ∙ sym t)
    (λ (t : (n == top) ≡ false). let apart = eqb-false n top t in lt-leb top n (omega arith) ∙ sym t)
    (cases_Bool (n == top))

pub worn_is : (d : ℕ) (c : Commit) (C : List Commit) → place_of c ≡ OfDevice d → count_of (Device d) C ≤ 4294967295 → is_worn c C ≡ (count_of (Device d) C == 4294967295)
unfolding is_worn
worn_is d c C at le = rw (at, count_at d C) (top_is (count_of (Device d) C) 4294967295 le)
