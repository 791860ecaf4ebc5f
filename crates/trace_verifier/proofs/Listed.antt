-- The blocks of the cells, as they are looked through, and their index.
use Rattle.std.proofs.Common.{◌≡◌, inl, inr, ℕ, ◌<◌, ◌≤◌, List, Option, Some, None, true, refl, sym, ap, subst, ◌∙◌, arith, true≢false}
use Rattle.std.specs.Prelude.{is_some, IsSome}
use Rattle.std.proofs.lemmas.Bool.{cases_lt}
use Rattle.std.proofs.lemmas.Option.{same_Some}
use Rattle.bench_base.specs.declared.sizes.TheConstants.{VERIFIER_CELLS, FIRST_BLOCK}
use Rattle.node_acts.specs.RowList.{row_at, row_of}
use Rattle.verifier.specs.declared.index.Entry.{Entry}
use Rattle.verifier.specs.Index.{cell_in, HasBlocks, HasTwice, IsIndexOf}
use Rattle.verifier.specs.Rows.{Row}
use Rattle.verifier.specs.Seen.{Seen, row_in, block_in, key_at, AreTogether}
use Rattle.verifier.proofs.Basics.{no_pair}
use Rattle.verifier_node.specs.Boots.{IsIndexed}
use Rattle.verifier_node.proofs.Indexing.{all_together, all_indexed, key_blocks, packed_to}
use Rattle.trace_verifier.specs.Listed.{AreRows, AreListed, AreBlank, HasGap, block_shown}

module _ (s : Seen) (rows : AreRows s) (n : ℕ) (listed : AreListed s n) where
  -- a cell of a block
  module _ (k d b : ℕ) (lt : k < n) (is : block_in (row_in s k) ≡ Some (d, b)) where
    behind_keys : FIRST_BLOCK ≤ k
    behind_keys = elim (cases_lt k FIRST_BLOCK) [
      | inl low ↦ absurd (no_pair d b (sym (key_blocks (row_in s k) k low (rows.each k)) ∙ is))
      | inr from ↦ from
    ]

    same_block : block_shown s k ≡ (d, b)
    same_block = same_Some _ _ (sym (listed.blocks k behind_keys lt) ∙ is)

  -- an index of just these blocks
  pub listed_indexed : (es : List Entry) → HasBlocks es (block_shown s) n → IsIndexed s es n
  listed_indexed es has = record {
    many = has.many;
    found = λ k d b lt is. ap (λ (x : ℕ × ℕ). cell_in es x.0 x.1) (sym (same_block k d b lt is)) ∙ has.found k (behind_keys k d b lt is) lt;
    only = λ d b k found. let at = has.only d b k found in (at.1.0, listed.blocks k at.0 at.1.0 ∙ ap (λ (x : ℕ × ℕ). Some x) at.1.1);
    trusted = λ k d b lt is. subst (λ (x : ℕ × ℕ). IsSome (key_at s x.0)) (same_block k d b lt is) (listed.trusted k (behind_keys k d b lt is) lt);
    packed = λ k from lt. holds_row (row_at s k) (block_shown s k) (listed.blocks k from lt);
  }
    where
      holds_row : (o : Option (ℕ × Row)) (x : ℕ × ℕ) → block_in (row_of o) ≡ Some x → is_some o ≡ true
      holds_row None x is = absurd (no_pair x.0 x.1 is)
      holds_row (Some y) x is = refl

  -- two cells of one block
  pub twice_breaks : HasTwice (block_shown s) n → AreTogether s → ⊥
  twice_breaks two together =
      let first = listed.blocks two.one two.from (omega (arith, two.before, two.inside)) in
      let second = listed.blocks two.other (omega (arith, two.from, two.before)) two.inside in
      let same = together.distinct two.one two.other (block_shown s two.one).0 (block_shown s two.one).1 first (second ∙ ap (λ (x : ℕ × ℕ). Some x) (sym two.same)) in
      omega (arith, same, two.before)

-- == the index ==

module _ (s : Seen) (rows : AreRows s) (es : List Entry) (n : ℕ) (is : IsIndexed s es n) where
  -- with the rest blank
  pub joined : n ≤ VERIFIER_CELLS → AreBlank s n → AreTogether s × IsIndexOf es s
  joined inside blank = (all_together s es n rows.long is inside blank, all_indexed s es n rows.long is inside blank)

  -- a gap
  pub gap_breaks : row_at s n ≡ None → HasGap s n → AreTogether s → ⊥
  gap_breaks blank gap together =
      true≢false (sym (packed_to s together n gap.cell (omega (arith, is.many)) gap.behind gap.used) ∙ ap is_some blank)
