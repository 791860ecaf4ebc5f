-- A node that keeps the rows of its cells beside the memory of its table, which keeps their counts and payloads.
use Rattle.std.proofs.Common.{◌≡◌, ◌≢◌, ◌⊎◌, inl, inr, ℕ, zero, suc, ◌+◌, ◌<◌, Bool, List, [], ◌∷◌, length, Option, Some, None, refl, sym, ◌∙◌, ap, subst, arith}
use Rattle.std.proofs.lemmas.Bool.{cases_eq}
use Rattle.std.proofs.lemmas.List.Sums.{sum_by-cons}
use Rattle.nv_store.specs.Slot.{Held}
use Rattle.nv_store.specs.Fills.{Fills, Told, cell_fill}
use Rattle.nv_store.specs.Store.{cell_shown, count_of, count_sum, after_commit, Shows, Between}
use Rattle.node_acts.specs.RowList.{RowList, row_at, row_of, commits_at, commits_in, put, listed}
use Rattle.node_acts.specs.RowLaws.{listed_long, listed_at, put_listed, put_here, put_other}
use Rattle.row_node.specs.Shows.{IsHeldAs, ShowsRows, HasForeignCell, row_fill}

-- a cell holds a payload that reads as the row, or nothing where there is no row
abbrev pub IsFilled : {R : Type 0} → (R → List ℕ → Type 0) → Option R → Option Held → Type 0
IsFilled reads None None = Unit {0}
IsFilled reads None (Some h) = ⊥
IsFilled reads (Some x) None = ⊥
IsFilled reads (Some x) (Some h) = reads x h.1

-- so each of the first cells
abbrev pub AreFilled : {R : Type 0} → ℕ → (ℕ → R → List ℕ → Type 0) → (ℕ → Option R) → (ℕ → Option Held) → Type 0
AreFilled cells reads rows held = (k : ℕ) → k < cells → IsFilled (reads k) (rows k) (held k)

-- the row with the count of its cell
abbrev pub with_count : {R : Type 0} → Option Held → Option R → Option (ℕ × R)
with_count None o = None
with_count (Some h) None = None
with_count (Some h) (Some x) = Some (h.0, x)

-- what is seen of so many cells
abbrev pub seen_by : {R : Type 0} → ℕ → (ℕ → Option Held) → (ℕ → Option R) → RowList R
seen_by cells held rows = listed cells (λ k. with_count (held k) (rows k))

-- a cell holds a payload that reads as no row
pub record HoldsForeign {R : Type 0} (cells : ℕ) (reads : ℕ → R → List ℕ → Type 0) (held : ℕ → Option Held) : Type 0 where
  pub cell : ℕ
  pub inside : cell < cells
  pub kept : Held
  pub is : held cell ≡ Some kept
  pub reads_none : (x : R) → reads cell x kept.1 → ⊥

-- == laws: one or none ==

-- the image that shows what the memory keeps holds one too
pub foreign_shown : {R : Type 0} (size cells : ℕ) (reads : ℕ → R → List ℕ → Type 0) (held : ℕ → Option Held) (image : List ℕ)
    → Shows size 2 cells held image → HoldsForeign cells reads held → HasForeignCell size cells reads image
foreign_shown size cells reads held image shows foreign = record {
  cell = foreign.cell;
  held = foreign.kept;
  inside = foreign.inside;
  shown = shows.each foreign.cell foreign.inside ∙ foreign.is;
  reads_none = foreign.reads_none;
}

-- whether it is filled so has one answer where a payload reads as a row in one way
pub filled_prop : {R : Type 0} (reads : R → List ℕ → Type 0) → ((x : R) (p : List ℕ) → IsProp (reads x p)) → (o : Option R) (h : Option Held)
    → IsProp (IsFilled reads o h)
filled_prop reads one None None = hlevel
filled_prop reads one None (Some h) = hlevel
filled_prop reads one (Some x) None = hlevel
filled_prop reads one (Some x) (Some h) = one x h.1

-- == laws: one cell ==

module _ {R : Type 0} (reads : R → List ℕ → Type 0) where
  held_as : (o : Option R) (h : Option Held) → IsFilled reads o h → IsHeldAs reads (with_count h o) h
  held_as None None filled = tt
  held_as None (Some h) filled = absurd filled
  held_as (Some x) None filled = absurd filled
  held_as (Some x) (Some h) filled = (refl, filled)

  row_kept : (o : Option R) (h : Option Held) → IsFilled reads o h → row_of (with_count h o) ≡ o
  row_kept None None filled = refl
  row_kept None (Some h) filled = refl
  row_kept (Some x) None filled = absurd filled
  row_kept (Some x) (Some h) filled = refl

  count_kept : (o : Option R) (h : Option Held) → IsFilled reads o h → commits_at (with_count h o) ≡ count_of h
  count_kept None None filled = refl
  count_kept None (Some h) filled = absurd filled
  count_kept (Some x) None filled = refl
  count_kept (Some x) (Some h) filled = refl

-- == laws: all cells ==

module _ {R : Type 0} (cells : ℕ) (reads : ℕ → R → List ℕ → Type 0) (rows : ℕ → Option R) (held : ℕ → Option Held) where
  abbrev seen : RowList R
  seen = seen_by cells held rows

  pub seen_long : length seen ≡ cells
  seen_long = listed_long cells (λ k. with_count (held k) (rows k))

  pub seen_at : (k : ℕ) → k < cells → row_at seen k ≡ with_count (held k) (rows k)
  seen_at k lt = listed_at cells (λ j. with_count (held j) (rows j)) None k lt

  module _ (filled : AreFilled cells reads rows held) where
    -- the rows are those that are kept
    pub seen_row : (k : ℕ) → k < cells → row_of (row_at seen k) ≡ rows k
    seen_row k lt = ap (λ (o : Option (ℕ × R)). row_of o) (seen_at k lt) ∙ row_kept (reads k) (rows k) (held k) (filled k lt)

    pub seen_count : (k : ℕ) → k < cells → commits_at (row_at seen k) ≡ count_of (held k)
    seen_count k lt = ap (λ (o : Option (ℕ × R)). commits_at o) (seen_at k lt) ∙ count_kept (reads k) (rows k) (held k) (filled k lt)

    -- what a commit to a cell fills, by what is seen
    pub seen_fills : (size k : ℕ) (payload bytes : List ℕ) → k < cells → payload ≡ bytes → (before now : Told) (made : Bool)
        → Fills (cell_fill size 2 k (count_of (held k) + 1, payload)) before now made → Fills (row_fill size seen k bytes) before now made
    seen_fills size k payload bytes lt same before now made fills =
        subst (λ (p : List ℕ). Fills (cell_fill size 2 k (commits_at (row_at seen k) + 1, p)) before now made) same
        (subst (λ (n : ℕ). Fills (cell_fill size 2 k (n + 1, payload)) before now made) (sym (seen_count k lt)) fills)

    -- an image that shows what the memory keeps shows what is seen
    pub seen_shown : (size : ℕ) (image : List ℕ) → Shows size 2 cells held image → ShowsRows size cells reads seen image
    seen_shown size image shows = record {
      each = λ k lt.
          subst (λ (o : Option (ℕ × R)). IsHeldAs (reads k) o (cell_shown size 2 image k)) (sym (seen_at k lt))
          (subst (λ (h : Option Held). IsHeldAs (reads k) (with_count (held k) (rows k)) h) (sym (shows.each k lt))
          (held_as (reads k) (rows k) (held k) (filled k lt)));
      clear = shows.clear;
    }

    -- == a commit of a row to a cell ==

    module _ (cell : ℕ) (inside : cell < cells) (x : R) (payload : List ℕ) (row : reads cell x payload) where
      -- where the memory keeps the payload, and the row is kept too
      module _ (rows' : ℕ → Option R) (held' : ℕ → Option Held) (here : rows' cell ≡ Some x) (others : (k : ℕ) → k ≢ cell → rows' k ≡ rows k)
          (held_here : held' cell ≡ after_commit (held cell) payload) (held_others : (k : ℕ) → k ≢ cell → held' k ≡ held k) where
        pub still_filled : AreFilled cells reads rows' held'
        still_filled k lt = elim (cases_eq k cell) [
          | inl is ↦
              subst (λ (j : ℕ). IsFilled (reads j) (rows' j) (held' j)) (sym is)
              (subst (λ (o : Option R). IsFilled (reads cell) o (held' cell)) (sym here)
              (subst (λ (h : Option Held). IsFilled (reads cell) (Some x) h) (sym held_here) row))
          | inr differs ↦
              subst (λ (o : Option R). IsFilled (reads k) o (held' k)) (sym (others k differs))
              (subst (λ (h : Option Held). IsFilled (reads k) (rows k) h) (sym (held_others k differs)) (filled k lt))
        ]

        pub seen_put : seen_by cells held' rows' ≡ put seen cell x
        seen_put =
            put_listed cells (λ k. with_count (held k) (rows k)) (λ k. with_count (held' k) (rows' k)) cell x inside
            (ap (λ (o : Option R). with_count (held' cell) o) here ∙ ap (λ (h : Option Held). with_count h (Some x)) held_here
            ∙ ap (λ (n : ℕ). one_more n) (sym (count_kept (reads cell) (rows cell) (held cell) (filled cell inside))))
            (λ k differs. ap (λ (o : Option R). with_count (held' k) o) (others k differs)
            ∙ ap (λ (h : Option Held). with_count h (rows k)) (held_others k differs))
          where
            one_more : ℕ → Option (ℕ × R)
            one_more n = Some (n + 1, x)

      -- each image meanwhile shows the rows before it, or those after it
      pub between_seen : (size : ℕ) (image : List ℕ) → Between size 2 cells cell held payload image
          → ShowsRows size cells reads seen image ⊎ ShowsRows size cells reads (put seen cell x) image
      between_seen size image between = elim between.here [
        | inl old ↦ inl (seen_shown size image (record {
          each = λ k lt. elim (cases_eq k cell) [
            | inl is ↦ ap (λ (j : ℕ). cell_shown size 2 image j) is ∙ old ∙ ap held (sym is)
            | inr differs ↦ between.others k lt differs
          ];
          clear = between.clear;
        }))
        | inr new ↦ inr (record {
          each = λ k lt. elim (cases_eq k cell) [
            | inl is ↦ subst (λ (j : ℕ). IsHeldAs (reads j) (row_at (put seen cell x) j) (cell_shown size 2 image j)) (sym is) (put_held image new)
            | inr differs ↦
                subst (λ (o : Option (ℕ × R)). IsHeldAs (reads k) o (cell_shown size 2 image k)) (sym (put_other seen cell x k differs ∙ seen_at k lt))
                (subst (λ (h : Option Held). IsHeldAs (reads k) (with_count (held k) (rows k)) h) (sym (between.others k lt differs))
                (held_as (reads k) (rows k) (held k) (filled k lt)))
          ];
          clear = between.clear;
        })
      ]
        where
          put_held : (image : List ℕ) → cell_shown size 2 image cell ≡ after_commit (held cell) payload
              → IsHeldAs (reads cell) (row_at (put seen cell x) cell) (cell_shown size 2 image cell)
          put_held image new =
              subst (λ (o : Option (ℕ × R)). IsHeldAs (reads cell) o (cell_shown size 2 image cell))
              (sym (put_here seen cell x (omega (arith, inside, seen_long))))
              (subst (λ (h : Option Held). IsHeldAs (reads cell) (Some (commits_at (row_at seen cell) + 1, x)) h) (sym new)
              (ap (λ (n : ℕ). n + 1) (sym (seen_count cell inside)), row))

-- == laws: the number of all commits ==

-- the first cell's count comes first
sum_first : (n : ℕ) (held : ℕ → Option Held) → count_sum (suc n) held ≡ count_of (held 0) + count_sum n (λ k. held (suc k))
sum_first zero held = omega arith
sum_first (suc n) held = omega (arith, sum_first n held)

sum_listed : {R : Type 0} (s : RowList R) (held : ℕ → Option Held) → ((k : ℕ) → k < length s → commits_at (row_at s k) ≡ count_of (held k))
    → commits_in s ≡ count_sum (length s) held
sum_listed [] held same = refl
sum_listed (x ∷ s) held same =
    omega (
      arith,
      sum_by-cons commits_at x s,
      sum_first (length s) held,
      same 0 (omega arith),
      sum_listed s (λ k. held (suc k))
          (λ k lt. same (suc k) (omega arith)),
    )

pub seen_counts : {R : Type 0} (cells : ℕ) (reads : ℕ → R → List ℕ → Type 0) (rows : ℕ → Option R) (held : ℕ → Option Held)
    → AreFilled cells reads rows held → commits_in (seen_by cells held rows) ≡ count_sum cells held
seen_counts {R} cells reads rows held filled =
    let s : RowList R = seen_by cells held rows in
    let long : length s ≡ cells = seen_long cells reads rows held in
    sum_listed s held (λ k lt. seen_count cells reads rows held filled k (omega (arith, lt, long))) ∙ ap (λ (n : ℕ). count_sum n held) long
