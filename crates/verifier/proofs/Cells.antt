-- What the cells of the verifier hold: keys, blocks, and the next cell.
use Rattle.std.proofs.Common.{◌≡◌, inl, inr, ℕ, ◌+◌, ◌-◌, ◌<◌, ◌≤◌, length, get_or, drop, Option, Some, None, true, false, refl, sym, ap, subst, ◌∙◌, arith, true≢false}
use Rattle.std.specs.Prelude.{◌==◌, is_some, IsSome, IfSome, if◌then◌else◌}
use Rattle.std.proofs.lemmas.Bool.{cases_eq, cases_lt, eqb-true, eq-eqb, ne_eqb, and_parts}
use Rattle.std.proofs.lemmas.List.{get_or-drop, get_or_past, length-drop}
use Rattle.std.proofs.lemmas.List.Sums.{prefix_len_passes, prefix_len_stops, prefix_len_is, prefix_len-le-length}
use Rattle.bench_base.specs.declared.sizes.TheConstants.{VERIFIER_CELLS, FIRST_BLOCK}
use Rattle.node_acts.specs.RowList.{row_at, row_of}
use Rattle.verifier.specs.Rows.{Row, TrustRow, BlockRow}
use Rattle.verifier.specs.Seen.{Seen, row_in, key_in, block_in, holds, key_at, cell_of_block, used, AreSound, IsRowAt}
use Rattle.verifier.proofs.Basics.{same_pair, no_pair}
use Rattle.verifier.proofs.Found.{found_at, found_none}

-- == one cell ==

-- a row of this block
pub held_block : (d b : ℕ) (o : Option Row) → holds d b o ≡ true → block_in o ≡ Some (d, b)
held_block d b None is = absurd (true≢false (sym is))
held_block d b (Some (TrustRow e key)) is = absurd (true≢false (sym is))
held_block d b (Some (BlockRow e n scans)) is =
    let parts = and_parts (e == d) (n == b) is in
    λ i. Some (eqb-true e d parts.0 i, eqb-true n b parts.1 i)

pub block_held : (d b : ℕ) (o : Option Row) → block_in o ≡ Some (d, b) → holds d b o ≡ true
block_held d b None is = absurd (no_pair d b is)
block_held d b (Some (TrustRow e key)) is = absurd (no_pair d b is)
block_held d b (Some (BlockRow e n scans)) is =
    let same = same_pair e n d b is in
    rw (eq-eqb e d same.0, eq-eqb n b same.1) refl

-- a cell of a block has no key
pub keyless : (o : Option Row) (x : ℕ × ℕ) → block_in o ≡ Some x → key_in o ≡ None
keyless None x is = absurd (no_pair x.0 x.1 is)
keyless (Some (TrustRow e key)) x is = absurd (no_pair x.0 x.1 is)
keyless (Some (BlockRow e n scans)) x is = refl

pub shown_some : {A : Type 0} (o : Option A) → is_some o ≡ true → (x : A) × (o ≡ Some x)
shown_some None h = absurd (true≢false (sym h))
shown_some (Some x) h = (x, refl)

pub shown_none : {A : Type 0} (o : Option A) → is_some o ≡ false → o ≡ None
shown_none None h = refl
shown_none (Some x) h = absurd (true≢false h)

-- == keys ==

pub key_in_cell : (s : Seen) (d : ℕ) → 1 ≤ d → key_at s d ≡ key_in (row_in s (d - 1))
key_in_cell s d low = ap (λ t. if t then None else key_in (row_in s (d - 1))) (ne_eqb d 0 (λ is. omega (arith, low, is)))

-- a place among the blocks
pub behind : (k : ℕ) → FIRST_BLOCK ≤ k → FIRST_BLOCK + (k - FIRST_BLOCK) ≡ k
behind k from = omega (arith, from)

-- a device with a key is one of the eight
module _ (s : Seen) (sound : AreSound s) where
  key_low : (k : ℕ) (o : Option Row) → IfSome o (IsRowAt k) → is_some (key_in o) ≡ true → k < FIRST_BLOCK
  key_low k None fits has = absurd (true≢false (sym has))
  key_low k (Some (TrustRow e key)) fits has = fits.place.1
  key_low k (Some (BlockRow e n scans)) fits has = absurd (true≢false (sym has))

  pub keyed : (d : ℕ) → IsSome (key_at s d) → (1 ≤ d) × (d ≤ FIRST_BLOCK)
  keyed d has = elim (cases_eq d 0) [
    | inl is ↦ absurd (true≢false (sym has ∙ ap (λ e. is_some (key_at s e)) is))
    | inr isnt ↦
        let low : 1 ≤ d = omega (arith, isnt) in
        let inside = key_low (d - 1) (row_in s (d - 1)) (sound.each (d - 1)) (sym (ap is_some (key_in_cell s d low)) ∙ has) in
        (low, omega (arith, inside))
  ]

  -- == blocks ==

  -- the cell of a block that is found
  pub cell_found : (d b cell : ℕ) → cell_of_block s d b ≡ Some cell → (cell < VERIFIER_CELLS) × (block_in (row_in s cell) ≡ Some (d, b))
  cell_found d b cell is =
      let f = found_at (λ x. holds d b (row_of x)) s None cell is in
      (omega (arith, f.0, sound.long), held_block d b (row_in s cell) f.1)

  -- none holds one that is not found
  pub cell_none : (d b : ℕ) → cell_of_block s d b ≡ None → (k : ℕ) → block_in (row_in s k) ≡ Some (d, b) → ⊥
  cell_none d b none k is = elim (cases_lt k (length s)) [
    | inl lt ↦ true≢false (sym (block_held d b (row_in s k) is) ∙ found_none (λ x. holds d b (row_of x)) s None none k lt)
    | inr past ↦ no_pair d b (sym (ap (λ (o : Option (ℕ × Row)). block_in (row_of o)) (get_or_past s k None past)) ∙ is)
  ]

  block_from : (k : ℕ) (o : Option Row) (x : ℕ × ℕ) → IfSome o (IsRowAt k) → block_in o ≡ Some x → FIRST_BLOCK ≤ k
  block_from k None x fits is = absurd (no_pair x.0 x.1 is)
  block_from k (Some (TrustRow e key)) x fits is = absurd (no_pair x.0 x.1 is)
  block_from k (Some (BlockRow e n scans)) x fits is = fits.place

  -- blocks lie after the keys
  pub blocks_begin : (k d b : ℕ) → block_in (row_in s k) ≡ Some (d, b) → FIRST_BLOCK ≤ k
  blocks_begin k d b is = block_from k (row_in s k) (d, b) (sound.each k) is

  -- == the next cell ==

  rest_long : length (drop FIRST_BLOCK s) ≡ VERIFIER_CELLS - FIRST_BLOCK
  rest_long = omega (arith, length-drop FIRST_BLOCK s, sound.long)

  pub used_most : FIRST_BLOCK + used s ≤ VERIFIER_CELLS
  used_most = omega (arith, prefix_len-le-length is_some (drop FIRST_BLOCK s), rest_long)

  -- the cells before it are in use
  pub used_before : (k : ℕ) → FIRST_BLOCK ≤ k → k < FIRST_BLOCK + used s → IsSome (row_at s k)
  used_before k from lt =
      subst (λ j. is_some (get_or s j None) ≡ true) (behind k from)
      (ap is_some (sym (get_or-drop FIRST_BLOCK s (k - FIRST_BLOCK) None)) ∙ prefix_len_passes is_some (drop FIRST_BLOCK s) (k - FIRST_BLOCK) None (omega (arith, from, lt)))

  -- and it is blank
  pub next_blank : FIRST_BLOCK + used s < VERIFIER_CELLS → row_at s (FIRST_BLOCK + used s) ≡ None
  next_blank lt =
      shown_none (row_at s (FIRST_BLOCK + used s)) (ap is_some (sym (get_or-drop FIRST_BLOCK s (used s) None)) ∙ prefix_len_stops is_some (drop FIRST_BLOCK s) None (omega (arith, lt, rest_long)))

-- how many are in use, by the first cell that is blank
pub used_is : (s : Seen) (n : ℕ) → length s ≡ VERIFIER_CELLS → FIRST_BLOCK + n ≤ VERIFIER_CELLS → ((k : ℕ) → FIRST_BLOCK ≤ k → k < FIRST_BLOCK + n → IsSome (row_at s k))
    → (FIRST_BLOCK + n < VERIFIER_CELLS → row_at s (FIRST_BLOCK + n) ≡ None) → used s ≡ n
used_is s n long most before blank =
    prefix_len_is is_some (drop FIRST_BLOCK s) n None (omega (arith, length-drop FIRST_BLOCK s, long))
    (λ k lt. ap is_some (get_or-drop FIRST_BLOCK s k None) ∙ before (FIRST_BLOCK + k) (omega arith) (omega (arith, lt)))
    (λ lt. ap is_some (get_or-drop FIRST_BLOCK s n None ∙ blank (omega (arith, lt, length-drop FIRST_BLOCK s, long))))
