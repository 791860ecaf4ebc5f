-- The centre's rows out of an image, by what its cells show.
use Rattle.std.proofs.Common.{◌≡◌, inl, inr, ℕ, zero, suc, ◌+◌, ◌<◌, List, replicate, get_or, set, Option, Some, None, IfSome, refl, sym, ◌∙◌, subst, arith}
use Rattle.std.proofs.lemmas.Bool.{cases_eq}
use Rattle.std.proofs.lemmas.Grind.{not_there}
use Rattle.std.proofs.lemmas.List.{get_or-set_same, get_or-set_other, length-set}
use Rattle.nv_store.specs.Slot.{slots_at}
use Rattle.nv_bytes.specs.Newest.{ShowsHeld}
use Rattle.node_images.specs.Cells.{ShowsCell}
use Rattle.node_images.specs.Joined.{bytes_of}
use Rattle.centre_ledger.specs.Payload.{RowReadsAs}
use Rattle.node_acts.specs.RowList.{row_at, row_of}
use Rattle.centre_ledger.specs.declared.rows.Row.{Row}
use Rattle.centre_ledger.specs.declared.rows.Row.TheVariants as row
use Rattle.centre_ledger.specs.Seen.{Seen, IsKnown}
use Rattle.centre_protocol.specs.Payloads.{IsIn, IsPayloadOf}
use Rattle.centre_protocol.specs.Sound.{IsSound}
use Rattle.centre_protocol.specs.Table.{centre_laws}
use Rattle.row_node.specs.Shows.{ShowsRows}
use Rattle.trace_centre.specs.Records.{IsRowOf}
use Rattle.trace_images.specs.Centre.{RowShown, RowsShown}
use Rattle.trace_images.proofs.Reading.{none_reads, whole_image, no_other}

-- a row in its own cell lies in the cell
pub in_own : (k : ℕ) (x : Row) → IsRowOf k x → IsIn k x
in_own k (row.Device r) own = (own.0.device, own.1)
in_own k (row.Customer r) own = (omega (arith, own.0.customer, own.1), own.1)

pub in_each : (k : ℕ) (o : Option Row) → IfSome o (IsRowOf k) → IfSome o (IsIn k)
in_each k None own = tt
in_each k (Some x) own = in_own k x own

-- there is no row before a cell is read
pub none_own : (n k : ℕ) → IfSome (row_of (row_at {R = Row} (replicate n None) k)) (IsRowOf k)
none_own n k = by (get_or (replicate n None) k None) (none_at n k)
  where
    none_at : (n k : ℕ) → ◌≡◌ {A = Option (ℕ × Row)} (get_or (replicate n None) k None) None
    none_at zero k = refl
    none_at (suc n) zero = refl
    none_at (suc n) (suc k) = none_at n k

    by : (o : Option (ℕ × Row)) → o ≡ None → IfSome (row_of o) (IsRowOf k)
    by None is = tt
    by (Some x) is = absurd (cc is)

module _ (k count : ℕ) (payload cell : List ℕ) (shows : ShowsHeld 2 (slots_at 192 0 cell) (count, payload)) where
  pub no_row : ((x : Row) → IsIn k x → RowReadsAs x payload → ⊥) → (seen : Option (ℕ × Row)) → ShowsCell 192 (IsPayloadOf k) seen cell → ⊥
  no_row none = none_reads 192 (IsPayloadOf k) cell count payload shows (λ x reads. not_there reads.1 (none x reads.0))

-- before the first cell is read
pub no_rows : (image : List ℕ) → RowsShown 0 (replicate 72 None) image
no_rows image = record { long = refl; own = none_own 72; each = λ k lt. absurd (omega (arith, lt)) }

-- with one cell more
pub more_rows : (n : ℕ) (cells : Seen) (seen : Option (ℕ × Row)) (image : List ℕ) → n < 72 → RowsShown n cells image → RowShown n seen (bytes_of 192 n image)
    → RowsShown (n + 1) (set cells n seen) image
more_rows n cells seen image inside shown here = record {
  long = length-set cells n seen ∙ shown.long;
  own = λ k. elim (cases_eq k n) [
    | inl is ↦ subst (λ (j : ℕ). IfSome (row_of (row_at (set cells n seen) j)) (IsRowOf j)) (sym is) (subst (λ (o : Option (ℕ × Row)). IfSome (row_of o) (IsRowOf n)) (sym set_here) here.own)
    | inr differs ↦ subst (λ (o : Option (ℕ × Row)). IfSome (row_of o) (IsRowOf k)) (sym (get_or-set_other cells n k seen None differs)) (shown.own k)
  ];
  each = λ k lt. elim (cases_eq k n) [
    | inl is ↦ subst (λ (j : ℕ). ShowsCell 192 (IsPayloadOf j) (row_at (set cells n seen) j) (bytes_of 192 j image)) (sym is)
        (subst (λ (o : Option (ℕ × Row)). ShowsCell 192 (IsPayloadOf n) o (bytes_of 192 n image)) (sym set_here) here.shows)
    | inr differs ↦ subst (λ (o : Option (ℕ × Row)). ShowsCell 192 (IsPayloadOf k) o (bytes_of 192 k image)) (sym (get_or-set_other cells n k seen None differs))
        (shown.each k (omega (arith, lt, differs)))
  ];
}
  where
    set_here : row_at (set cells n seen) n ≡ seen
    set_here = get_or-set_same cells n seen None (omega (arith, inside, shown.long))

module _ (cells : Seen) (image : List ℕ) (read : RowsShown 72 cells image) where
  pub rows_shown : ShowsRows 192 72 IsPayloadOf cells image
  rows_shown = whole_image 192 72 IsPayloadOf image cells read.each

  pub is_sound : IsKnown cells → IsSound cells
  is_sound known = record { known = known; placed = λ k. in_each k (row_of (row_at cells k)) (read.own k) }

  -- if they do not agree, none are shown
  pub none_shown : (IsKnown cells → ⊥) → (s : Seen) → IsSound s → ShowsRows 192 72 IsPayloadOf s image → ⊥
  none_shown breaks s sound shown = no_other 192 72 IsPayloadOf image IsKnown centre_laws.one_row cells read.long rows_shown breaks s sound.known.long sound.known shown
