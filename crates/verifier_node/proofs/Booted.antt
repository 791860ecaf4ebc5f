-- What was read out of the cells of the verifier.
use Rattle.std.proofs.Common.{◌≡◌, inl, inr, ℕ, ◌+◌, ◌<◌, ◌≤◌, List, [], Option, Some, None, Bool, true, false, refl, sym, ap, subst, ◌∙◌, arith, true≢false}
use Rattle.std.specs.Prelude.{is_some, IsSome, MatchBool}
use Rattle.std.proofs.lemmas.Bool.{cases_eq, cases_lt}
use Rattle.std.proofs.lemmas.List.{get_or_past}
use Rattle.std.proofs.lemmas.Option.{same_Some}
use Rattle.bench_base.specs.declared.sizes.TheConstants.{VERIFIER_CELLS, FIRST_BLOCK}
use Rattle.nv_store.specs.Slot.{Held}
use Rattle.nv_store.specs.Store.{payload_of}
use Rattle.node_acts.specs.RowList.{row_at, row_of}
use Rattle.verifier.specs.declared.index.Entry.{Entry}
use Rattle.verifier.specs.Index.{cell_in, HasBlocks, HasTwice}
use Rattle.verifier.specs.Payload.{word_at}
use Rattle.verifier.specs.Rows.{Row}
use Rattle.verifier.specs.Seen.{row_in, block_in, key_at}
use Rattle.verifier.proofs.Basics.{no_pair}
use Rattle.verifier.proofs.Cells.{shown_none}
use Rattle.verifier_node.specs.Payloads.{rows_held, seen_held, HoldRows}
use Rattle.verifier_node.specs.Held.{held_long, held_each}
use Rattle.verifier_node.specs.Table.{verifier_table}
use Rattle.verifier_node.specs.declared.rows.VerifierRows.{VerifierRows}
use Rattle.row_node.specs.Boots as none_held
use Rattle.row_node.specs.Boots.{Found}
use Rattle.verifier_node.specs.Boots.{AreRead, block_spelled, block_held, AreListed, IsIndexed, AreBlank, HasGap, Breaks, AreJoined, HoldNone, HoldSound}
use Rattle.verifier_node.proofs.Indexing.{all_together, all_indexed, none_indexed, key_blocks, packed_to}
use Rattle.verifier_node.proofs.Reading.{block_held as row_held, seen_some}

pub read_rows : (held : ℕ → Option Held) → AreRead held → HoldRows held
read_rows held read k lt = (read k lt).filled

-- == the blocks of the first cells ==

pub start_listed : (held : ℕ → Option Held) → AreListed held FIRST_BLOCK
start_listed held = record { from = omega arith; blocks = λ k from lt. absurd (omega (arith, from, lt)); trusted = λ k from lt. absurd (omega (arith, from, lt)) }

module _ (held : ℕ → Option Held) (filled : HoldRows held) (n : ℕ) (listed : AreListed held n) where
  module _ (payload : List ℕ) (inside : n < VERIFIER_CELLS) (has : payload_of (held n) ≡ Some payload) where
    own : block_in (row_in (seen_held held) n) ≡ Some (word_at 0 payload, word_at 1 payload)
    own = ap (λ o. block_in o) (row_held held filled n payload listed.from inside (sym has))

    -- a block more, unless its device is not trusted
    pub listed_more : (t : Bool) → t ≡ is_some (key_at (seen_held held) (word_at 0 payload)) → MatchBool t (AreListed held (n + 1)) (Breaks held)
    listed_more true key = record {
      from = omega (arith, listed.from);
      blocks = λ k from lt. elim (cases_eq k n) [
        | inl same ↦ subst (λ (j : ℕ). block_in (row_in (seen_held held) j) ≡ Some (block_held held j)) (sym same) (own ∙ ap (λ o. Some (block_spelled o)) (sym has))
        | inr differs ↦ listed.blocks k from (omega (arith, lt, differs))
      ];
      trusted = λ k from lt. elim (cases_eq k n) [
        | inl same ↦
            subst (λ (j : ℕ). IsSome (key_at (seen_held held) (block_held held j).0)) (sym same)
            (subst (λ (o : Option (List ℕ)). IsSome (key_at (seen_held held) (block_spelled o).0)) (sym has) (sym key))
        | inr differs ↦ listed.trusted k from (omega (arith, lt, differs))
      ];
    }
    listed_more false key = λ together. true≢false (sym (together.trusted n (word_at 0 payload) (word_at 1 payload) own) ∙ sym key)

  -- a cell of a block
  module _ (k d b : ℕ) (lt : k < n) (is : block_in (row_in (seen_held held) k) ≡ Some (d, b)) where
    behind_keys : FIRST_BLOCK ≤ k
    behind_keys = elim (cases_lt k FIRST_BLOCK) [
      | inl low ↦ absurd (no_pair d b (sym (key_blocks (row_in (seen_held held) k) k low (held_each held filled k)) ∙ is))
      | inr from ↦ from
    ]

    same_block : block_held held k ≡ (d, b)
    same_block = same_Some _ _ (sym (listed.blocks k behind_keys lt) ∙ is)

  -- an index of just these blocks
  pub listed_indexed : (es : List Entry) → HasBlocks es (block_held held) n → IsIndexed (seen_held held) es n
  listed_indexed es has = record {
    many = has.many;
    found = λ k d b lt is. ap (λ (x : ℕ × ℕ). cell_in es x.0 x.1) (sym (same_block k d b lt is)) ∙ has.found k (behind_keys k d b lt is) lt;
    only = λ d b k found. let at = has.only d b k found in (at.1.0, listed.blocks k at.0 at.1.0 ∙ ap (λ (x : ℕ × ℕ). Some x) at.1.1);
    trusted = λ k d b lt is. subst (λ (x : ℕ × ℕ). IsSome (key_at (seen_held held) x.0)) (same_block k d b lt is) (listed.trusted k (behind_keys k d b lt is) lt);
    packed = λ k from lt. holds_row (row_at (seen_held held) k) (block_held held k) (listed.blocks k from lt);
  }
    where
      holds_row : (o : Option (ℕ × Row)) (x : ℕ × ℕ) → block_in (row_of o) ≡ Some x → is_some o ≡ true
      holds_row None x is = absurd (no_pair x.0 x.1 is)
      holds_row (Some y) x is = refl

  -- two cells of one block
  pub twice_breaks : HasTwice (block_held held) n → Breaks held
  twice_breaks two together =
      let first = listed.blocks two.one two.from (omega (arith, two.before, two.inside)) in
      let second = listed.blocks two.other (omega (arith, two.from, two.before)) two.inside in
      let same = together.distinct two.one two.other (block_held held two.one).0 (block_held held two.one).1 first (second ∙ ap (λ (x : ℕ × ℕ). Some x) (sym two.same)) in
      omega (arith, same, two.before)

-- == the index ==

module _ (held : ℕ → Option Held) (filled : HoldRows held) (es : List Entry) (n : ℕ) (is : IsIndexed (seen_held held) es n) where
  -- with the rest blank
  pub joined : n ≤ VERIFIER_CELLS → AreBlank held n → AreJoined held es
  joined inside blank = record {
    together = all_together (seen_held held) es n (held_long held) is inside behind;
    indexed = all_indexed (seen_held held) es n (held_long held) is inside behind;
  }
    where
      behind : (k : ℕ) → n ≤ k → row_at (seen_held held) k ≡ None
      behind k le = elim (cases_lt k VERIFIER_CELLS) [
        | inl lt ↦ shown_none (row_at (seen_held held) k) (seen_some held filled k lt ∙ ap is_some (blank k le lt))
        | inr past ↦ get_or_past (seen_held held) k None (omega (arith, past, held_long held))
      ]

  from_first : FIRST_BLOCK ≤ n
  from_first = omega (arith, is.many)

  -- a gap
  pub gap_breaks : (n < VERIFIER_CELLS → held n ≡ None) → HasGap held n → Breaks held
  gap_breaks blank gap together =
      let lt : n < VERIFIER_CELLS = omega (arith, gap.behind, gap.inside) in
      let some = packed_to (seen_held held) together n gap.cell from_first gap.behind (seen_some held filled gap.cell gap.inside ∙ ap is_some gap.is) in
      true≢false (sym some ∙ seen_some held filled n lt ∙ ap is_some (blank lt))

pub start_indexed : (held : ℕ → Option Held) → HoldRows held → (es : List Entry) → es ≡ [] → IsIndexed (seen_held held) es FIRST_BLOCK
start_indexed held filled es empty = none_indexed (seen_held held) (held_each held filled) es empty

-- == what a boot comes to ==

pub found : (m : VerifierRows) (held : ℕ → Option Held) → HoldSound held m.index → Found verifier_table m held
found m held holds = record {
  keeps = record { filled = read_rows held holds.read; follows = holds.joined };
  agree = holds.joined.together;
  few = λ k lt. (holds.read k lt).few;
}

pub unsound : (held : ℕ → Option Held) → HoldNone held → none_held.HoldNone verifier_table held
unsound held (inl foreign) = inl foreign
unsound held (inr u) = inr (record { rows = rows_held held; are = u.0; breaks = u.1 })
