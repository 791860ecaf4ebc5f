-- What the cells of a table show together, as what its image shows.
use Rattle.std.proofs.Common.{◌≡◌, ◌≢◌, inl, inr, ◌⊎◌, ℕ, ◌<◌, List, length, Option, Some, None, IfSome, Bool, true, false, ◌==◌, if◌then◌else◌, option_map, refl, sym, ◌∙◌, subst, ⊎_elim}
use Rattle.std.proofs.lemmas.Bool.{cases_eq, eq-eqb, ne_eqb}
use Rattle.node_acts.specs.RowList.{RowList, row_at, put}
use Rattle.node_acts.specs.RowLaws.{put_here, put_other}
use Rattle.node_acts.specs.Views.{View}
use Rattle.row_node.specs.Shows.{ShowsRows}
use Rattle.node_images.specs.Cells.{ShowsCell, ShowsOpen, with_row}
use Rattle.node_images.specs.Joined.{bytes_of}
use Rattle.node_images.proofs.Join.{joins}
use Rattle.trace_folder.specs.Changes.{at_place}
use Rattle.trace_folder.specs.Images.{WithOpen, TableIs}
use Rattle.trace_folder.specs.Walks.{ShowsEither, HasOpen, CellsAre}
use Rattle.trace_folder.specs.declared.shows.Shows.{Shows}
use Rattle.trace_folder.specs.declared.shows.Shows.TheVariants as shows

-- == the change that is in doubt ==

module _ {R : Type 0} (changed : ℕ → Option R) (s : RowList R) where
  -- it leaves this row in this cell, and all others as they were
  pub record Changes (t : RowList R) : Type 0 where
    pub place : ℕ
    pub row : R
    pub here : changed place ≡ Some row
    pub none : (k : ℕ) → k ≢ place → changed k ≡ None
    pub new : row_at t place ≡ with_row (row_at s place) row
    pub old : (k : ℕ) → k ≢ place → row_at t k ≡ row_at s k

  -- the rows that it leaves, if there is one
  abbrev pub Leaves : Option (RowList R) → Type 0
  Leaves None = (k : ℕ) → changed k ≡ None
  Leaves (Some t) = Changes t

if_true : {A : Type 0} (t : Bool) (a b : A) → t ≡ true → (if t then a else b) ≡ a
if_true true a b is = refl
if_true false a b is = cc

if_false : {A : Type 0} (t : Bool) (a b : A) → t ≡ false → (if t then a else b) ≡ b
if_false true a b is = cc
if_false false a b is = refl

-- a change in its cell
pub leaves : {R X : Type 0} (cell : X → ℕ) (row : X → R) (s : RowList R) (o : Option X) → IfSome o (λ x. cell x < length s)
    → Leaves (λ k. at_place cell row k o) s (option_map (λ x. put s (cell x) (row x)) o)
leaves cell row s None inside = λ k. refl
leaves cell row s (Some x) inside = record {
  place = cell x;
  row = row x;
  here = if_true (cell x == cell x) (Some (row x)) None (eq-eqb (cell x) (cell x) refl);
  none = λ k differs. if_false (cell x == k) (Some (row x)) None (ne_eqb (cell x) k (λ is. differs (sym is)));
  new = put_here s (cell x) (row x) inside;
  old = λ k differs. put_other s (cell x) (row x) k differs;
}

-- == the cells and the image ==

module _ {R : Type 0} (size cells : ℕ) (reads : ℕ → R → List ℕ → Type 0) (changed : ℕ → Option R) (image : List ℕ) where
  module _ (s : RowList R) where
    abbrev Counted : ℕ → List ℕ → Type 0
    Counted k cell = ShowsCell size (reads k) (row_at s k) cell

    abbrev Opened : ℕ → List ℕ → Type 0
    Opened k cell = ShowsOpen size (reads k) (row_at s k) (changed k) cell

    abbrev At : ℕ → RowList R → Type 0
    At k t = ShowsCell size (reads k) (row_at t k) (bytes_of size k image)

    no_open : (k : ℕ) (cell : List ℕ) → changed k ≡ None → Opened k cell → ⊥
    no_open k cell none o = subst (λ (x : Option R). ShowsOpen size (reads k) (row_at s k) x cell) none o

    -- a cell that shows the commit in doubt
    to_next : (next : Option (RowList R)) → Leaves changed s next → (k : ℕ) → Opened k (bytes_of size k image) → WithOpen (At k) next
    to_next None none k o = absurd (no_open k (bytes_of size k image) (none k) o)
    to_next (Some t) change k o = elim (cases_eq k change.place) [
      | inl is ↦
          subst (λ (j : ℕ). Opened j (bytes_of size j image) → At j t) (sym is)
          (λ here. subst (λ (seen : Option (ℕ × R)). ShowsCell size (reads change.place) seen (bytes_of size change.place image)) (sym change.new)
          (subst (λ (x : Option R). ShowsOpen size (reads change.place) (row_at s change.place) x (bytes_of size change.place image)) change.here here)) o
      | inr differs ↦ absurd (no_open k (bytes_of size k image) (change.none k differs) o)
    ]

    from_next : (next : Option (RowList R)) → Leaves changed s next → (k : ℕ) → WithOpen (At k) next → At k s ⊎ Opened k (bytes_of size k image)
    from_next None none k shown = absurd shown
    from_next (Some t) change k shown = elim (cases_eq k change.place) [
      | inl is ↦
          inr (subst (λ (j : ℕ). At j t → Opened j (bytes_of size j image)) (sym is)
          (λ here. subst (λ (x : Option R). ShowsOpen size (reads change.place) (row_at s change.place) x (bytes_of size change.place image)) (sym change.here)
          (subst (λ (seen : Option (ℕ × R)). ShowsCell size (reads change.place) seen (bytes_of size change.place image)) change.new here)) shown)
      | inr differs ↦ inl (subst (λ (seen : Option (ℕ × R)). ShowsCell size (reads k) seen (bytes_of size k image)) (change.old k differs) shown)
    ]

    abbrev bytes : ℕ → List ℕ
    bytes k = bytes_of size k image

    -- all cells with the commit in doubt
    open_all : (next : Option (RowList R)) → Leaves changed s next → ((k : ℕ) → k < cells → ShowsEither Counted Opened bytes k) → HasOpen Counted Opened bytes cells
        → WithOpen (λ t. ShowsRows size cells reads t image) next
    open_all None none each found = absurd (no_open found.place (bytes found.place) (none found.place) found.shown)
    open_all (Some t) change each found = (joins size cells reads t image).1 (λ k lt. here k (each k lt))
      where
        -- the cell that shows it is the one of the change
        same : found.place ≡ change.place
        same = elim (cases_eq found.place change.place) [
          | inl is ↦ is
          | inr differs ↦ absurd (no_open found.place (bytes found.place) (change.none found.place differs) found.shown)
        ]

        here : (k : ℕ) → ShowsEither Counted Opened bytes k → At k t
        here k (inr o) = to_next (Some t) change k o
        here k (inl c) = elim (cases_eq k change.place) [
          | inl is ↦ absurd (found.not (subst (λ (j : ℕ). Counted j (bytes j)) (is ∙ sym same) c))
          | inr differs ↦ subst (λ (seen : Option (ℕ × R)). ShowsCell size (reads k) seen (bytes k)) (sym (change.old k differs)) c
        ]

  module _ (v : View (RowList R)) (change : Leaves changed v.state v.next) where
    pub table_is : (s : Shows) → CellsAre (Counted v.state) (Opened v.state) (bytes v.state) cells s → TableIs size cells reads v image s
    table_is shows.Counted each = (joins size cells reads v.state image).1 each
    table_is shows.Open found = (
      open_all v.state v.next change found.0 found.1,
      λ shown. found.1.not ((joins size cells reads v.state image).0 shown found.1.place found.1.inside),
    )
    table_is (shows.Other k) found = (
      λ shown. found.1 ((joins size cells reads v.state image).0 shown k found.0),
      λ shown. neither (with_cell v.next shown),
      record {
        inside = found.0;
        counted = found.1;
        opened = neither;
        before = λ j lt. ⊎_elim (λ c. inl c) (λ o. inr (to_next v.state v.next change j o)) (found.3 j lt);
      },
    )
      where
        neither : WithOpen (At v.state k) v.next → ⊥
        neither shown = ⊎_elim found.1 found.2 (from_next v.state v.next change k shown)

        with_cell : (next : Option (RowList R)) → WithOpen (λ t. ShowsRows size cells reads t image) next → WithOpen (At v.state k) next
        with_cell None shown = absurd shown
        with_cell (Some t) shown = (joins size cells reads t image).0 shown k found.0
