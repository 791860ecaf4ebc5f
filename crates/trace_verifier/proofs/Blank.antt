-- The verifier before the first commit.
use Rattle.std.proofs.Common.{◌≡◌, ℕ, zero, ◌+◌, ◌-◌, ◌<◌, List, [], ◌∷◌, length, get_or, drop, Option, Some, None, refl, sym, ◌∙◌, ap, subst, arith}
use Rattle.std.specs.Prelude.{is_some, position}
use Rattle.std.specs.List.{prefix_len}
use Rattle.std.proofs.lemmas.List.{get_or-map, length-map, get_or-drop}
use Rattle.bench_base.specs.declared.sizes.TheConstants.{VERIFIER_CELLS, FIRST_BLOCK}
use Rattle.node_acts.specs.RowList.{RowList, row_at, row_of}
use Rattle.node_acts.specs.RowLaws.{listed_is}
use Rattle.verifier.specs.declared.index.Entry.{Entry}
use Rattle.verifier.specs.Index.{IsIndexOf}
use Rattle.verifier.specs.Records.{seen_after, cell_after}
use Rattle.verifier.proofs.Found.{position_none}
use Rattle.verifier.specs.Rows.{Row}
use Rattle.verifier.specs.Seen.{Seen, AreSound, holds}
use Rattle.node_acts.proofs.Blanks.{counts_none, few_none}
use Rattle.verifier.proofs.LawActs as verifier
use Rattle.verifier.proofs.LawActs.{no_cell}
use Rattle.trace_verifier.specs.declared.held.Held.{Held}
use Rattle.trace_verifier.specs.Helds.{seen_cell, seen_by}
use Rattle.trace_verifier.specs.Records.{AreIndexed}

-- cells that are all blank are those before the first commit
pub blank_is : (cells : List (Option (ℕ × Held))) → length cells ≡ VERIFIER_CELLS → ((k : ℕ) → k < length cells → get_or cells k None ≡ None) → seen_by cells ≡ seen_after []
blank_is cells long each = sym (listed_is VERIFIER_CELLS (λ k. cell_after k []) None (seen_by cells) (length-map cells seen_cell ∙ long)
    (λ k lt. let inside : k < length cells = omega (arith, long, lt) in get_or-map seen_cell cells k None None inside ∙ ap seen_cell (each k inside) ∙ sym (no_cell k)))

-- == of rows that are all blank ==

no_block : (d b : ℕ) (s : RowList Row) → ((k : ℕ) → row_at s k ≡ None) → position (λ x. holds d b (row_of x)) s ≡ None
no_block d b s none = position_none (λ x. holds d b (row_of x)) s None (λ k lt. ap (λ (o : Option (ℕ × Row)). holds d b (row_of o)) (none k))

no_front : (s : RowList Row) → ((k : ℕ) → row_at s k ≡ None) → prefix_len is_some s ≡ 0
no_front [] none = refl
no_front (Some x ∷ s) none = let it : ◌≡◌ {A = Option (ℕ × Row)} (Some x) None = none zero in cc
no_front (None ∷ s) none = refl

indexed : IsIndexOf [] (seen_after [])
indexed = record {
  cells = λ d b. sym (no_block d b (seen_after []) verifier.blank);
  many = sym (no_front (drop FIRST_BLOCK (seen_after [])) (λ k. get_or-drop FIRST_BLOCK (seen_after []) k None ∙ verifier.blank (FIRST_BLOCK + k)));
}

pub blank_indexed : (s : Seen) (es : List Entry) → s ≡ seen_after [] → es ≡ [] → AreIndexed s es 0
blank_indexed s es blank is = record {
  sound = subst AreSound (sym blank) verifier.none_sound;
  indexed = subst (λ (l : List Entry). IsIndexOf l s) (sym is) (subst (IsIndexOf []) (sym blank) indexed);
  total_is = sym (counts_none s at);
  few = few_none s at;
}
  where
    at : (k : ℕ) → row_at s k ≡ None
    at k = ap (λ (t : Seen). row_at t k) blank ∙ verifier.blank k
