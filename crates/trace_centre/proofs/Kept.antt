-- The cells of the centre and the books beside them, where a row is put.
use Rattle.std.proofs.Common.{◌≡◌, inl, inr, ℕ, zero, suc, ◌+◌, ◌*◌, ◌<◌, ◌≤◌, ◌^◌, [], ◌∷◌, length, get_or, set, replicate, Option, Some, None, false, refl, sym, ◌∙◌, ap, subst, arith}
use Rattle.std.proofs.lemmas.Bool.{cases_eq}
use Rattle.std.proofs.lemmas.List.Sums.{sum_by-le}
use Rattle.std.proofs.lemmas.List.Elements.{All-from_get_or}
use Rattle.std.specs.Prelude.{IfSome}
use Rattle.bench_base.specs.declared.sizes.TheConstants.{MOST_COMMITS}
use Rattle.node_acts.specs.RowList.{RowList, row_at, row_of, commits_at, commits_in, is_worn, put, listed}
use Rattle.node_acts.specs.RowLaws.{put_long, put_here, put_other, put_counts}
use Rattle.node_acts.proofs.Blanks.{few_none}
use Rattle.centre_ledger.specs.declared.rows.Row.{Row}
use Rattle.centre_ledger.specs.Books.{Books, put_row, no_rows, AreSound}
use Rattle.bench_abstraction.specs.Centre.{seen_in}
use Rattle.centre_ledger.specs.Seen.{cell_of, books_in, IsKnown}
use Rattle.centre_protocol.specs.Cells.{HasCell, cell_inside, is_in, cells_put}
use Rattle.centre_protocol.specs.Payloads.{IsIn}
use Rattle.trace_centre.specs.Records.{AreKept, IsFit}
use Rattle.bench_base.proofs.Facts.{room_left}

few_put : (s : RowList Row) (x : Row) → cell_of x < length s → ((k : ℕ) → commits_at (row_at s k) ≤ MOST_COMMITS) → is_worn s (cell_of x) ≡ false → (k : ℕ) → commits_at (row_at (put s (cell_of x) x) k) ≤ MOST_COMMITS
few_put s x inside few fresh k = elim (cases_eq k (cell_of x)) [
  | inl is ↦ subst (λ (o : Option (ℕ × Row)). commits_at o ≤ MOST_COMMITS) (sym (ap (row_at (put s (cell_of x) x)) is ∙ put_here s (cell_of x) x inside)) (room_left (commits_at (row_at s (cell_of x))) (few (cell_of x)) fresh)
  | inr differs ↦ subst (λ (o : Option (ℕ × Row)). commits_at o ≤ MOST_COMMITS) (sym (put_other s (cell_of x) x k differs)) (few k)
]

module _ (s : RowList Row) (b : Books) (total : ℕ) (kept : AreKept s b total) where
  -- the count of a cell that is not worn has room for one more
  pub has_room : (cell : ℕ) → is_worn s cell ≡ false → commits_at (row_at s cell) + 1 ≤ MOST_COMMITS
  has_room cell fresh = room_left (commits_at (row_at s cell)) (kept.few cell) fresh

  pub kept_put : (x : Row) → IsFit s x → is_worn s (cell_of x) ≡ false → AreKept (put s (cell_of x) x) (put_row b x) (total + 1)
  kept_put x fits fresh = record {
    long = put_long s (cell_of x) x ∙ kept.long;
    books_are = ap (λ (c : Books). put_row c x) kept.books_are ∙ sym (cells_put s x kept.long fits.has);
    total_is = ap (λ (n : ℕ). n + 1) kept.total_is ∙ sym (put_counts s (cell_of x) x inside);
    few = few_put s x inside kept.few fresh;
    placed = λ k. elim (cases_eq k (cell_of x)) [
      | inl is ↦
          subst (λ (o : Option (ℕ × Row)). IfSome (row_of o) (IsIn k)) (sym (ap (row_at (put s (cell_of x) x)) is ∙ put_here s (cell_of x) x inside))
          (subst (λ (j : ℕ). IsIn j x) (sym is) (is_in x fits.has))
      | inr differs ↦ subst (λ (o : Option (ℕ × Row)). IfSome (row_of o) (IsIn k)) (sym (put_other s (cell_of x) x k differs)) (kept.placed k)
    ];
  }
    where
      inside : cell_of x < length s
      inside = omega (arith, cell_inside x fits.has, kept.long)

sum_few : (s : RowList Row) → ((k : ℕ) → commits_at (row_at s k) ≤ MOST_COMMITS) → commits_in s ≤ length s * MOST_COMMITS
sum_few s few = sum_by-le commits_at MOST_COMMITS s (All-from_get_or (λ x. commits_at x ≤ MOST_COMMITS) s None (λ k inside. few k))

-- all commits are few
pub total_few : (s : RowList Row) (b : Books) (total : ℕ) → AreKept s b total → total < 2 ^ 48
total_few s b total kept = omega (arith, sum_few s kept.few, kept.total_is, kept.long)

pub blank_books : books_in (replicate 72 None) ≡ no_rows
unfolding listed
blank_books = refl

-- before the first commit
pub blank_seen : replicate 72 None ≡ seen_in []
unfolding listed
blank_seen = refl

none_at : (n k : ℕ) → row_at {R = Row} (replicate n None) k ≡ None
none_at n k = by (replicate n None) k (each n)
  where
    none_in : RowList Row → Type 0
    none_in s = (k : ℕ) → row_at s k ≡ None

    each : (n : ℕ) → none_in (replicate n None)
    each zero k = refl
    each (suc n) zero = refl
    each (suc n) (suc k) = each n k

    by : (s : RowList Row) (k : ℕ) → none_in s → row_at s k ≡ None
    by s k none = none k

pub blank_kept : (b : Books) → b ≡ no_rows → AreKept (replicate 72 None) b 0
blank_kept b is = record {
  long = refl;
  books_are = is ∙ sym blank_books;
  total_is = refl;
  few = few_none (replicate 72 None) (none_at 72);
  placed = λ k. subst (λ (o : Option (ℕ × Row)). IfSome (row_of o) (IsIn k)) (sym (none_at 72 k)) tt;
}

any_default : (s : RowList Row) (k : ℕ) (a b : Option (ℕ × Row)) → k < length s → get_or s k a ≡ get_or s k b
any_default [] k a b inside = absurd (omega arith)
any_default (x ∷ s) zero a b inside = refl
any_default (x ∷ s) (suc k) a b inside = any_default s k a b (omega (arith, inside))

-- what is written for a row is the row put
pub put_is : (s : RowList Row) (cell : ℕ) (d : Option (ℕ × Row)) (n : ℕ) (x : Row) → cell ≡ cell_of x → cell < length s → n ≡ commits_at (get_or s cell d) → set s cell (Some (n + 1, x)) ≡ put s (cell_of x) x
put_is s cell d n x is inside count =
    ap (λ (m : ℕ). set s cell (Some (m + 1, x))) (count ∙ ap (λ (o : Option (ℕ × Row)). commits_at o) (any_default s cell d None inside)) ∙ ap (λ (c : ℕ). put s c x) is

-- the record with a row put is one that storage can show
pub put_known : (s : RowList Row) (x : Row) → IsKnown s → HasCell x → is_worn s (cell_of x) ≡ false → AreSound (put_row (books_in s) x) → IsKnown (put s (cell_of x) x)
put_known s x known has fresh sound =
    let inside : cell_of x < length s = omega (arith, cell_inside x has, known.long) in
    record {
      long = put_long s (cell_of x) x ∙ known.long;
      few = few_put s x inside known.few fresh;
      sound = subst AreSound (sym (cells_put s x known.long has)) sound;
    }
