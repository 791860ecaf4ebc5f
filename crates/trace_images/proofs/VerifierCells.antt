-- What was read out of the cells of an image of the verifier's storage.
use Rattle.std.proofs.Common.{inl, inr, ℕ, ◌+◌, List, [], ◌∷◌, ◌++◌, Option, Some, None, IfSome, sym, subst, arith}
use Rattle.std.proofs.lemmas.Bool.{cases_lt}
use Rattle.std.proofs.lemmas.List.{get_or_past, length-append}
use Rattle.bench_base.specs.declared.sizes.TheConstants.{VERIFIER_CELLS}
use Rattle.nv_store.specs.Slot.{Held, slots_at, current}
use Rattle.node_acts.specs.RowList.{row_at, row_of}
use Rattle.row_node.specs.Shows.{ShowsRows, IsHeldAs}
use Rattle.node_images.specs.Cells.{ShowsCell}
use Rattle.node_images.specs.Joined.{bytes_of}
use Rattle.verifier.specs.Payload.{IsPayloadOf}
use Rattle.verifier.specs.Rows.{Row}
use Rattle.verifier.specs.Seen.{Seen, IsRowAt, IsKnown}
use Rattle.verifier_node.specs.Table.{verifier_laws}
use Rattle.trace_verifier.specs.Listed.{AreRows}
use Rattle.trace_images.specs.VerifierRows.{RowsShown}
use Rattle.trace_images.proofs.Reading.{more_cells, whole_image, no_other}

pub more_rows : (n : ℕ) (s : Seen) (seen : Option (ℕ × Row)) (image : List ℕ) → RowsShown n s image → ShowsCell 2056 (IsPayloadOf n) seen (bytes_of 2056 n image)
    → RowsShown (n + 1) (s ++ (seen ∷ [])) image
more_rows n s seen image shown here = record {
  long = omega (arith, length-append s (seen ∷ []), shown.long);
  each = more_cells (λ k o. ShowsCell 2056 (IsPayloadOf k) o (bytes_of 2056 k image)) n s seen shown.long shown.each here;
}

-- the row that a cell shows is sound and in its own
row_shown : (k : ℕ) (o : Option (ℕ × Row)) (h : Option Held) → IsHeldAs (IsPayloadOf k) o h → IfSome (row_of o) (IsRowAt k)
row_shown k None h held = tt
row_shown k (Some x) None held = absurd held
row_shown k (Some x) (Some h) held = record { place = held.1.place; sound = held.1.row.sound }

module _ (s : Seen) (image : List ℕ) (shown : RowsShown VERIFIER_CELLS s image) where
  pub are_rows : AreRows s
  are_rows = record {
    long = shown.long;
    each = λ k. elim (cases_lt k VERIFIER_CELLS) [
      | inl lt ↦ row_shown k (row_at s k) (current 2 (slots_at 2056 0 (bytes_of 2056 k image))) (shown.each k lt).held
      | inr past ↦ subst (λ (o : Option (ℕ × Row)). IfSome (row_of o) (IsRowAt k)) (sym (get_or_past s k None (omega (arith, past, shown.long)))) tt
    ];
  }

  pub shows_rows : ShowsRows 2056 1032 IsPayloadOf s image
  shows_rows = whole_image 2056 1032 IsPayloadOf image s shown.each

  -- an image with rows that break a condition together shows no record
  pub no_record : (IsKnown s → ⊥) → (t : Seen) → IsKnown t → ShowsRows 2056 1032 IsPayloadOf t image → ⊥
  no_record breaks t known shows = no_other 2056 1032 IsPayloadOf image IsKnown verifier_laws.one_row s shown.long shows_rows breaks t known.sound.long known shows
