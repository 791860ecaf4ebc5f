-- The cells of the verifier and the index beside them, where a change is put.
use Rattle.std.proofs.Common.{◌≡◌, inl, inr, ℕ, ◌+◌, ◌*◌, ◌<◌, ◌≤◌, ◌^◌, List, length, get_or, set, Option, Some, None, Bool, true, false, refl, sym, ◌∙◌, ap, subst, arith, true≢false}
use Rattle.std.specs.Prelude.{is_some, not, IsSome}
use Rattle.std.proofs.lemmas.Bool.{cases_eq}
use Rattle.std.proofs.lemmas.List.{get_or-map, map-set}
use Rattle.std.proofs.lemmas.List.Sums.{sum_by-le}
use Rattle.std.proofs.lemmas.List.Elements.{All-from_get_or}
use Rattle.bench_base.specs.declared.sizes.TheConstants.{MOST_COMMITS}
use Rattle.node_acts.specs.RowList.{row_at, row_of, commits_at, commits_in, is_worn}
use Rattle.node_acts.specs.RowLaws.{put_here, put_other, put_counts}
use Rattle.verifier.specs.declared.{acts.Change.Change, index.Entry.Entry}
use Rattle.verifier.specs.declared.acts.Change.TheVariants as change
use Rattle.verifier.specs.ActLaws.{IsFit}
use Rattle.verifier.specs.Rows.{Row}
use Rattle.verifier.specs.Seen.{Seen, cell_of, row_in, row_with, counting}
use Rattle.verifier_node.specs.Indexes.{CanIndex, Indexes}
use Rattle.verifier_node.proofs.Indexing.{can_index, index_after}
use Rattle.trace_verifier.specs.declared.held.Held.{Held}
use Rattle.trace_verifier.specs.Helds.{row_held, seen_cell, seen_by}
use Rattle.trace_verifier.specs.Records.{AreIndexed, row_by}
use Rattle.bench_base.proofs.Facts.{room_left}

pub few_put : (s : Seen) (x : Change) → cell_of x < length s → ((k : ℕ) → commits_at (row_at s k) ≤ MOST_COMMITS) → is_worn s (cell_of x) ≡ false → (k : ℕ) → commits_at (row_at (counting.after s x) k) ≤ MOST_COMMITS
few_put s x inside few fresh k =
    elim (cases_eq k (cell_of x)) [
      | inl is ↦ subst (λ (o : Option (ℕ × Row)). commits_at o ≤ MOST_COMMITS) (sym (ap (row_at (counting.after s x)) is ∙ put_here s (cell_of x) (row_with s x) inside)) (room_left (commits_at (row_at s (cell_of x))) (few (cell_of x)) fresh)
      | inr differs ↦ subst (λ (o : Option (ℕ × Row)). commits_at o ≤ MOST_COMMITS) (sym (put_other s (cell_of x) (row_with s x) k differs)) (few k)
    ]

sum_few : (s : Seen) → ((k : ℕ) → commits_at (row_at s k) ≤ MOST_COMMITS) → commits_in s ≤ length s * MOST_COMMITS
sum_few s few = sum_by-le commits_at MOST_COMMITS s (All-from_get_or (λ x. commits_at x ≤ MOST_COMMITS) s None (λ k inside. few k))

-- all commits are few
pub total_few : (s : Seen) (es : List Entry) (total : ℕ) → AreIndexed s es total → total < 2 ^ 48
total_few s es total kept = omega (arith, sum_few s kept.few, kept.total_is, kept.sound.long)

-- what is seen of a cell
pub here_is : (cells : List (Option (ℕ × Held))) (cell : ℕ) (d : Option (ℕ × Held)) → cell < length cells → row_at (seen_by cells) cell ≡ seen_cell (get_or cells cell d)
here_is cells cell d inside = get_or-map seen_cell cells cell d None inside

blank_seen : (o : Option (ℕ × Held)) → is_some o ≡ false → seen_cell o ≡ None
blank_seen None is = refl
blank_seen (Some x) is = absurd (true≢false is)

some_seen : (o : Option (ℕ × Held)) → is_some o ≡ true → IsSome (seen_cell o)
some_seen None is = absurd (true≢false (sym is))
some_seen (Some x) is = refl

row_is : (s : Seen) (x : Change) → row_by (row_in s (cell_of x)) x ≡ row_with s x
row_is s (change.Trust d key) = refl
row_is s (change.Accept cell d b place n) = refl

-- what is found blank is blank
pub fresh_is : (fresh : Bool) (o p : Option (ℕ × Held)) → is_some o ≡ not fresh → o ≡ p → not fresh ≡ is_some p
fresh_is fresh o p by same = sym by ∙ ap (λ (q : Option (ℕ × Held)). is_some q) same

-- what is written for a change is the change put
module _ (cells : List (Option (ℕ × Held))) (cell : ℕ) (x : Change) (is : cell ≡ cell_of x) (inside : cell < length cells) where
  at : (d : Option (ℕ × Held)) → row_at (seen_by cells) (cell_of x) ≡ seen_cell (get_or cells cell d)
  at d = ap (row_at (seen_by cells)) (sym is) ∙ here_is cells cell d inside

  pub put_is : (d e : Option (ℕ × Held)) (n : ℕ) (h : Held) → n ≡ commits_at (seen_cell (get_or cells cell d)) → row_held h ≡ row_by (row_of (seen_cell (get_or cells cell e))) x
      → seen_by (set cells cell (Some (n + 1, h))) ≡ counting.after (seen_by cells) x
  put_is d e n h count row =
      let s : Seen = seen_by cells in
      map-set seen_cell cells cell (Some (n + 1, h))
      ∙ ap (λ (m : ℕ). set s cell (Some (m + 1, row_held h))) (count ∙ ap (λ (o : Option (ℕ × Row)). commits_at o) (sym (at d)))
      ∙ ap (λ (r : Row). set s cell (Some (commits_at (row_at s (cell_of x)) + 1, r))) (row ∙ ap (λ (o : Option (ℕ × Row)). row_by (row_of o) x) (sym (at e)) ∙ row_is s x)
      ∙ ap (λ (c : ℕ). set s c (Some (commits_at (row_at s (cell_of x)) + 1, row_with s x))) is

  pub blank_at : (d : Option (ℕ × Held)) (fresh : Bool) → not fresh ≡ is_some (get_or cells cell d) → fresh ≡ true → row_at (seen_by cells) (cell_of x) ≡ None
  blank_at d fresh by so = at d ∙ blank_seen (get_or cells cell d) (sym by ∙ ap not so)

  pub some_at : (d : Option (ℕ × Held)) (fresh : Bool) → not fresh ≡ is_some (get_or cells cell d) → fresh ≡ false → IsSome (row_at (seen_by cells) (cell_of x))
  some_at d fresh by so = ap is_some (at d) ∙ some_seen (get_or cells cell d) (sym by ∙ ap not so)

pub may_index : (s : Seen) (es : List Entry) (total : ℕ) → AreIndexed s es total → (x : Change) → IsFit s x → (fresh : Bool) → (fresh ≡ true → row_at s (cell_of x) ≡ None) → CanIndex fresh es x
may_index s es total kept x fits fresh blank = can_index s es kept.sound x fits kept.indexed fresh blank

pub indexed_put : (s : Seen) (old new : List Entry) (total : ℕ) → AreIndexed s old total → (x : Change) → IsFit s x → is_worn s (cell_of x) ≡ false → (fresh : Bool) → (fresh ≡ true → row_at s (cell_of x) ≡ None)
    → (fresh ≡ false → IsSome (row_at s (cell_of x))) → Indexes fresh old new x → AreIndexed (counting.after s x) new (total + 1)
indexed_put s old new total kept x fits worn fresh blank some made =
    let inside : cell_of x < length s = omega (arith, fits.inside, kept.sound.long) in
    record {
      sound = fits.sound;
      indexed = index_after s old new kept.sound x fits kept.indexed fresh blank some made;
      total_is = ap (λ (n : ℕ). n + 1) kept.total_is ∙ sym (put_counts s (cell_of x) (row_with s x) inside);
      few = few_put s x inside kept.few worn;
    }
