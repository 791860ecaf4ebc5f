-- The images of a commit, as a store of one cell shows them.
use Rattle.std.proofs.Common.{◌≡◌, inl, inr, ⊎_elim, ℕ, ◌+◌, ◌*◌, ◌<◌, List, Bool, Some, sym, ◌∙◌, ap, subst, arith}
use Rattle.std.proofs.lemmas.Bool.{cases_eq}
use Rattle.std.proofs.lemmas.Bool.Decides.{nat_tests}
use Rattle.nv_store.specs.Slot.{slots_at, IsClear}
use Rattle.nv_store.specs.Cells.{Known, Commits, shown}
use Rattle.nv_store.specs.Store.{one_held, Shows, Between, cell_shown, count_of, after_commit}
use Rattle.nv_store.specs.Knows.{known_shown, one_shows}

pub count_of_one_held : (count : ℕ) (payload : List ℕ) → count_of (one_held count payload) ≡ count
count_of_one_held count payload = elim (cases_eq count 0) [
  | inl blank ↦ grind (arith, nat_tests)
  | inr filled ↦ grind (arith, nat_tests)
]

module _ (size n cell : ℕ) (first : cell < 1) (count place : ℕ) (gates : List Bool) (payload new old : List ℕ) (known : Known n (slots_at size 0 old) count place gates payload) where
  front : (k : ℕ) → k < 1 → k * (n * (5 + size)) ≡ 0
  front k lt = let is : k ≡ 0 = omega arith in ap (λ (j : ℕ). j * (n * (5 + size))) is ∙ grind arith

  after : after_commit (one_held count payload) new ≡ Some (count + 1, new)
  after = ap (λ (c : ℕ). Some (c + 1, new)) (count_of_one_held count payload)

  pub between_same : (c : List ℕ) → c ≡ old → Between size n 1 cell (λ k. one_held count payload) new c
  between_same c is =
      let shows : Shows size n 1 (λ k. one_held count payload) c = subst (λ (i : List ℕ). Shows size n 1 (λ k. one_held count payload) i) (sym is) (one_shows size n count place gates payload old known) in
      record { here = inl (shows.each cell first); others = λ k lt differs. shows.each k lt; clear = shows.clear }

  pub between_commits : (c : List ℕ) → Commits size n 0 (shown size n 0 old) (count + 1, new) old c → Between size n 1 cell (λ k. one_held count payload) new c
  between_commits c commits = record {
    here = ⊎_elim (λ same. inl (at ∙ same ∙ known_shown n (slots_at size 0 old) count place gates payload known)) (λ next. inr (at ∙ next ∙ sym after)) commits.shows;
    others = λ k lt differs. absurd (omega arith);
    clear = λ k lt. subst (λ (p : ℕ). IsClear n (slots_at size p c)) (sym (front k lt)) commits.clear;
  }
    where
      at : cell_shown size n c cell ≡ shown size n 0 c
      at = ap (λ (p : ℕ). shown size n p c) (front cell first)
