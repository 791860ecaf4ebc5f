-- The index of the blocks, and what a change makes of it.
use Rattle.std.proofs.Common.{◌≡◌, ◌≢◌, inl, inr, ℕ, zero, suc, ◌+◌, ◌-◌, ◌<◌, ◌≤◌, List, [], length, Option, Some, None, Bool, true, false, refl, sym, ap, subst, ◌∙◌, arith, true≢false}
use Rattle.std.specs.Prelude.{is_some, IsSome, IfSome, if◌then◌else◌}
use Rattle.std.proofs.lemmas.Bool.{cases_Bool, cases_eq, cases_lt}
use Rattle.std.proofs.lemmas.List.{get_or_past}
use Rattle.std.proofs.lemmas.Option.{same_Some}
use Rattle.bench_base.specs.declared.sizes.TheConstants.{VERIFIER_CELLS, FIRST_BLOCK}
use Rattle.bench_base.proofs.Facts.{some_none}
use Rattle.node_acts.specs.RowList.{row_at, row_of}
use Rattle.node_acts.specs.RowLaws.{put_here, put_other}
use Rattle.verifier.specs.declared.{acts.Change.Change, index.Entry.Entry}
use Rattle.verifier.specs.declared.acts.Change.TheVariants as change
use Rattle.verifier.specs.ActLaws.{IsFit}
use Rattle.verifier.specs.Index.{cell_in, with_cell, IsIndexOf}
use Rattle.verifier.specs.Rows.{Row, TrustRow, BlockRow}
use Rattle.verifier.specs.Seen.{Seen, row_in, block_in, holds, key_at, cell_of_block, used, AreTogether, AreSound, IsRowAt, cell_of, row_with, counting}
use Rattle.verifier.proofs.Basics.{no_pair}
use Rattle.verifier.proofs.Blocks.{pair, same_block, is_block, own_block}
use Rattle.verifier.proofs.Cells.{held_block, block_held, cell_found, cell_none, used_is, used_before, used_most, next_blank, shown_none}
use Rattle.verifier.proofs.Fits.{here}
use Rattle.verifier.proofs.Found.{position_is, position_none}
use Rattle.verifier_node.specs.Boots.{IsIndexed}
use Rattle.verifier_node.specs.Indexes.{CanAdd, IsAdded, CanIndex, Indexes}

-- == the cell of a block ==

module _ (s : Seen) (long : length s ≡ VERIFIER_CELLS) where
  held_inside : (k d b : ℕ) → block_in (row_in s k) ≡ Some (d, b) → k < length s
  held_inside k d b is = elim (cases_lt k (length s)) [
    | inl lt ↦ lt
    | inr past ↦ absurd (no_pair d b (sym (ap (λ (o : Option (ℕ × Row)). block_in (row_of o)) (get_or_past s k None past)) ∙ is))
  ]

  pub cell_is : (k d b : ℕ) → block_in (row_in s k) ≡ Some (d, b) → ((j : ℕ) → block_in (row_in s j) ≡ Some (d, b) → j ≡ k) → cell_of_block s d b ≡ Some k
  cell_is k d b is only =
      position_is (λ x. holds d b (row_of x)) s None k (held_inside k d b is) (block_held d b (row_in s k) is)
      (λ j lt. elim (cases_Bool (holds d b (row_in s j))) [
        | inr isnt ↦ isnt
        | inl held ↦ absurd (omega (arith, lt, only j (held_block d b (row_in s j) held)))
      ])

  pub cell_isnt : (d b : ℕ) → ((j : ℕ) → block_in (row_in s j) ≡ Some (d, b) → ⊥) → cell_of_block s d b ≡ None
  cell_isnt d b none =
      position_none (λ x. holds d b (row_of x)) s None (λ j lt. elim (cases_Bool (holds d b (row_in s j))) [
        | inr isnt ↦ isnt
        | inl held ↦ absurd (none j (held_block d b (row_in s j) held))
      ])

-- == an index that was made from all cells ==

-- the cells from n on are blank
module _ (s : Seen) (es : List Entry) (n : ℕ) (long : length s ≡ VERIFIER_CELLS) (is : IsIndexed s es n) (inside : n ≤ VERIFIER_CELLS) (blank : (k : ℕ) → n ≤ k → row_at s k ≡ None) where
  low : (k : ℕ) → IsSome (row_at s k) → k < n
  low k has = elim (cases_lt k n) [ inl lt ↦ lt | inr le ↦ absurd (true≢false (sym has ∙ ap is_some (blank k le))) ]

  block_low : (k d b : ℕ) → block_in (row_in s k) ≡ Some (d, b) → k < n
  block_low k d b held = low k (has (row_at s k) held)
    where
      has : (o : Option (ℕ × Row)) → block_in (row_of o) ≡ Some (d, b) → is_some o ≡ true
      has None h = absurd (no_pair d b h)
      has (Some x) h = refl

  one_cell : (i j d b : ℕ) → block_in (row_in s i) ≡ Some (d, b) → block_in (row_in s j) ≡ Some (d, b) → i ≡ j
  one_cell i j d b held held' = same_Some _ _ (sym (is.found i d b (block_low i d b held) held) ∙ is.found j d b (block_low j d b held') held')

  pub all_together : AreTogether s
  all_together = record {
    trusted = λ k d b held. is.trusted k d b (block_low k d b held) held;
    packed = λ k from has. is.packed k from (omega (arith, low (k + 1) has));
    distinct = λ i j d b held held'. one_cell i j d b held held';
  }

  cells_are : (d b : ℕ) (o : Option ℕ) → cell_in es d b ≡ o → o ≡ cell_of_block s d b
  cells_are d b None none = sym (cell_isnt s long d b (λ j held. some_none (sym (is.found j d b (block_low j d b held) held) ∙ none)))
  cells_are d b (Some k) found = let at = is.only d b k found in sym (cell_is s long k d b at.1 (λ j held. one_cell j k d b held at.1))

  pub all_indexed : IsIndexOf es s
  all_indexed = record {
    cells = λ d b. cells_are d b (cell_in es d b) refl;
    many = sym (used_is s (length es) long (omega (arith, is.many, inside)) (λ k from lt. is.packed k from (omega (arith, is.many, lt))) (λ lt. blank (FIRST_BLOCK + length es) (omega (arith, is.many))));
  }

-- before any block
pub none_indexed : (s : Seen) → ((k : ℕ) → IfSome (row_in s k) (IsRowAt k)) → (es : List Entry) → es ≡ [] → IsIndexed s es FIRST_BLOCK
none_indexed s each es empty = record {
  many = ap (λ (l : List Entry). FIRST_BLOCK + length l) empty;
  found = λ k d b lt held. absurd (none k d b lt (row_in s k) (each k) held);
  only = λ d b k found. absurd (some_none (sym found ∙ ap (λ (l : List Entry). cell_in l d b) empty));
  trusted = λ k d b lt held. absurd (none k d b lt (row_in s k) (each k) held);
  packed = λ k from lt. absurd (omega (arith, from, lt));
}
  where
    none : (k d b : ℕ) → k < FIRST_BLOCK → (o : Option Row) → IfSome o (IsRowAt k) → block_in o ≡ Some (d, b) → ⊥
    none k d b lt None fits held = no_pair d b held
    none k d b lt (Some (TrustRow e key)) fits held = no_pair d b held
    none k d b lt (Some (BlockRow e c scans)) fits held = omega (arith, lt, fits.place)

-- == a commit ==

-- where cells hold the same blocks, the index stays
pub same_index : (s t : Seen) (es : List Entry) → AreSound s → AreSound t → ((k : ℕ) → block_in (row_in t k) ≡ block_in (row_in s k)) → ((k : ℕ) → FIRST_BLOCK ≤ k → is_some (row_at t k) ≡ is_some (row_at s k))
    → IsIndexOf es s → IsIndexOf es t
same_index s t es sound sound' same some is = record {
  cells = λ d b. is.cells d b ∙ by d b (cell_of_block s d b) refl;
  many = is.many ∙ sym (used_is t (used s) sound'.long (used_most s sound) (λ k from lt. some k from ∙ used_before s sound k from lt)
      (λ lt. shown_none (row_at t (FIRST_BLOCK + used s)) (some (FIRST_BLOCK + used s) (omega arith) ∙ ap is_some (next_blank s sound lt))));
}
  where
    by : (d b : ℕ) (o : Option ℕ) → cell_of_block s d b ≡ o → o ≡ cell_of_block t d b
    by d b None none = sym (cell_isnt t sound'.long d b (λ j held. cell_none s sound d b none j (sym (same j) ∙ held)))
    by d b (Some k) found =
        let at = cell_found s sound d b k found in
        sym (cell_is t sound'.long k d b (same k ∙ at.1) (λ j held. sound.together.distinct j k d b (sym (same j) ∙ held) at.1))

-- blocks stand without gaps up to each
packed_down : (s : Seen) → AreTogether s → (k i : ℕ) → FIRST_BLOCK ≤ k → IsSome (row_at s (k + i)) → IsSome (row_at s k)
packed_down s together k zero from has = subst (λ j. IsSome (row_at s j)) (omega arith) has
packed_down s together k (suc i) from has = packed_down s together k i from (together.packed (k + i) (omega (arith, from)) (subst (λ j. IsSome (row_at s j)) (omega arith) has))

pub packed_to : (s : Seen) → AreTogether s → (k j : ℕ) → FIRST_BLOCK ≤ k → k ≤ j → IsSome (row_at s j) → IsSome (row_at s k)
packed_to s together k j from le has = packed_down s together k (j - k) from (subst (λ i. IsSome (row_at s i)) (omega (arith, le)) has)

-- a block in a cell that was blank
module _ (s t : Seen) (old new : List Entry) (cell d b : ℕ) (sound : AreSound s) (sound' : AreSound t) (from : FIRST_BLOCK ≤ cell) (inside : cell < VERIFIER_CELLS) (blank : row_at s cell ≡ None)
    (own : block_in (row_in t cell) ≡ Some (d, b)) (here_some : IsSome (row_at t cell)) (others : (k : ℕ) → k ≢ cell → row_at t k ≡ row_at s k) (is : IsIndexOf old s) where
  -- it is the next cell
  next : cell ≡ FIRST_BLOCK + used s
  next = elim (cases_lt cell (FIRST_BLOCK + used s)) [
    | inl lt ↦ absurd (true≢false (sym (used_before s sound cell from lt) ∙ ap is_some blank))
    | inr le ↦ elim (cases_eq cell (FIRST_BLOCK + used s)) [
      | inl same ↦ same
      | inr differs ↦
          absurd (true≢false (sym (packed_to t sound'.together (FIRST_BLOCK + used s) cell (omega arith) le here_some)
          ∙ ap is_some (others (FIRST_BLOCK + used s) (λ same. differs (sym same)) ∙ next_blank s sound (omega (arith, le, inside)))))
    ]
  ]

  block_there : (k : ℕ) → k ≢ cell → block_in (row_in t k) ≡ block_in (row_in s k)
  block_there k differs = ap (λ (o : Option (ℕ × Row)). block_in (row_of o)) (others k differs)

  not_here : (k e c : ℕ) → block_in (row_in s k) ≡ Some (e, c) → k ≢ cell
  not_here k e c held same = no_pair e c (sym (ap (λ (o : Option (ℕ × Row)). block_in (row_of o)) (ap (row_at s) same ∙ blank)) ∙ held)

  pub can_add : CanAdd old d b
  can_add = record {
    fresh = is.cells d b ∙ cell_isnt s sound.long d b (λ j held.
        let differs = not_here j d b held in
        differs (sound'.together.distinct j cell d b (block_there j differs ∙ held) own));
    room = omega (arith, is.many, next, inside);
  }

  module _ (added : IsAdded old new d b cell) where
    by_old : (e c : ℕ) → same_block (d, b) e c ≡ false → (o : Option ℕ) → cell_of_block s e c ≡ o → o ≡ cell_of_block t e c
    by_old e c other None none = sym (cell_isnt t sound'.long e c (λ j held. elim (cases_eq j cell) [
      | inl same ↦
          absurd (true≢false (sym (ap (λ (x : ℕ × ℕ). same_block (d, b) x.0 x.1) (sym (same_Some _ _ (sym own ∙ ap (λ i. block_in (row_in t i)) (sym same) ∙ held))) ∙ own_block d b) ∙ other))
      | inr differs ↦ cell_none s sound e c none j (sym (block_there j differs) ∙ held)
    ]))
    by_old e c other (Some k) found =
        let at = cell_found s sound e c k found in
        let held : block_in (row_in t k) ≡ Some (e, c) = block_there k (not_here k e c at.1) ∙ at.1 in
        sym (cell_is t sound'.long k e c held (λ j held'. sound'.together.distinct j k e c held' held))

    cells_are' : (e c : ℕ) (u : Bool) → same_block (d, b) e c ≡ u → with_cell d b cell old e c ≡ cell_of_block t e c
    cells_are' e c true same =
        ap (λ u. if u then Some cell else cell_in old e c) same
        ∙ sym (ap (λ (x : ℕ × ℕ). cell_of_block t x.0 x.1) (sym (is_block (d, b) e c same)) ∙ cell_is t sound'.long cell d b own (λ j held. sound'.together.distinct j cell d b held own))
    cells_are' e c false other = ap (λ u. if u then Some cell else cell_in old e c) other ∙ is.cells e c ∙ by_old e c other (cell_of_block s e c) refl

    pub more_index : IsIndexOf new t
    more_index = record {
      cells = λ e c. added.added e c ∙ cells_are' e c (same_block (d, b) e c) refl;
      many = added.more ∙ ap (λ m. m + 1) is.many ∙ sym (used_is t (used s + 1) sound'.long (omega (arith, next, inside))
          (λ k low lt. elim (cases_eq k cell) [
            | inl same ↦ subst (λ j. IsSome (row_at t j)) (sym same) here_some
            | inr differs ↦ ap is_some (others k differs) ∙ used_before s sound k low (omega (arith, lt, differs, next))
          ])
          (λ lt. others (FIRST_BLOCK + (used s + 1)) (λ same. omega (arith, same, next)) ∙ shown_none (row_at s (FIRST_BLOCK + (used s + 1))) (blank_behind lt)));
    }
      where
        blank_behind : FIRST_BLOCK + (used s + 1) < VERIFIER_CELLS → is_some (row_at s (FIRST_BLOCK + (used s + 1))) ≡ false
        blank_behind lt = elim (cases_Bool (is_some (row_at s (FIRST_BLOCK + (used s + 1))))) [
          | inr isnt ↦ isnt
          | inl has ↦ absurd (true≢false (sym (packed_to s sound.together cell (FIRST_BLOCK + (used s + 1)) from (omega (arith, next)) has) ∙ ap is_some blank))
        ]

-- == by the change ==

module _ (s : Seen) (sound : AreSound s) (x : Change) (fits : IsFit s x) where
  t : Seen
  t = counting.after s x

  row_inside : cell_of x < length s
  row_inside = omega (arith, fits.inside, sound.long)

  here_row : row_in (counting.after s x) (cell_of x) ≡ Some (row_with s x)
  here_row = here s (cell_of x) (row_with s x) row_inside

  here_at : IsSome (row_at (counting.after s x) (cell_of x))
  here_at = ap is_some (put_here s (cell_of x) (row_with s x) row_inside)

  there_at : (k : ℕ) → k ≢ cell_of x → row_at (counting.after s x) k ≡ row_at s k
  there_at k differs = put_other s (cell_of x) (row_with s x) k differs

  pub own_place : IsRowAt (cell_of x) (row_with s x)
  own_place = subst (λ (o : Option Row). IfSome o (IsRowAt (cell_of x))) here_row (fits.sound.each (cell_of x))

pub can_index : (s : Seen) (es : List Entry) (sound : AreSound s) (x : Change) → IsFit s x → IsIndexOf es s → (fresh : Bool) → (fresh ≡ true → row_at s (cell_of x) ≡ None) → CanIndex fresh es x
can_index s es sound x fits is false blank = tt
can_index s es sound (change.Trust d key) fits is true blank = tt
can_index s es sound (change.Accept cell d b place n) fits is true blank =
    let x : Change = change.Accept cell d b place n in
    can_add s (counting.after s (change.Accept cell d b place n)) es es cell d b sound fits.sound (own_place s sound x fits).place fits.inside (blank refl) (ap (λ (o : Option Row). block_in o) (here_row s sound x fits)) (here_at s sound x fits) (there_at s sound x fits) is

-- a cell of a key holds no block before or after
pub key_blocks : (o : Option Row) (k : ℕ) → k < FIRST_BLOCK → IfSome o (IsRowAt k) → block_in o ≡ None
key_blocks None k lt fits = refl
key_blocks (Some (TrustRow e key)) k lt fits = refl
key_blocks (Some (BlockRow e c scans)) k lt fits = absurd (omega (arith, lt, fits.place))

-- a block's cell that isn't blank holds a block
some_block : (k : ℕ) (o : Option (ℕ × Row)) → FIRST_BLOCK ≤ k → IfSome (row_of o) (IsRowAt k) → IsSome o → (y : ℕ × ℕ) × (block_in (row_of o) ≡ Some y)
some_block k None le fits has = absurd (true≢false (sym has))
some_block k (Some (m, TrustRow e key)) le fits has = absurd (omega (arith, le, fits.place.1))
some_block k (Some (m, BlockRow e c scans)) le fits has = ((e, c), refl)

pub index_after : (s : Seen) (old new : List Entry) (sound : AreSound s) (x : Change) → IsFit s x → IsIndexOf old s → (fresh : Bool) → (fresh ≡ true → row_at s (cell_of x) ≡ None) → (fresh ≡ false → IsSome (row_at s (cell_of x)))
    → Indexes fresh old new x → IsIndexOf new (counting.after s x)
index_after s old new sound (change.Trust d key) fits is fresh blank some made =
    let x : Change = change.Trust d key in
    let place = (own_place s sound x fits).place in
    let stays : new ≡ old = kept fresh made in
    subst (λ es. IsIndexOf es (counting.after s (change.Trust d key))) (sym stays)
    (same_index s (counting.after s (change.Trust d key)) old sound fits.sound
    (λ k. elim (cases_eq k (d - 1)) [
      | inl same ↦
          key_blocks (row_in (counting.after s (change.Trust d key)) k) k (omega (arith, same, place.1)) (fits.sound.each k)
          ∙ sym (key_blocks (row_in s k) k (omega (arith, same, place.1)) (sound.each k))
      | inr differs ↦ ap (λ (o : Option (ℕ × Row)). block_in (row_of o)) (there_at s sound x fits k differs)
    ])
    (λ k from. ap is_some (there_at s sound x fits k (λ same. omega (arith, same, place.1, from)))) is)
  where
    kept : (u : Bool) → Indexes u old new (change.Trust d key) → new ≡ old
    kept true m = m
    kept false m = m
index_after s old new sound (change.Accept cell d b place n) fits is true blank some made =
    let x : Change = change.Accept cell d b place n in
    more_index s (counting.after s (change.Accept cell d b place n)) old new cell d b sound fits.sound (own_place s sound x fits).place fits.inside (blank refl)
    (ap (λ (o : Option Row). block_in o) (here_row s sound x fits)) (here_at s sound x fits) (there_at s sound x fits) is made
index_after s old new sound (change.Accept cell d b place n) fits is false blank some made =
    let x : Change = change.Accept cell d b place n in
    let from : FIRST_BLOCK ≤ cell = (own_place s sound x fits).place in
    let was = some_block cell (row_at s cell) from (sound.each cell) (some refl) in
    let own = fits.own.1 was.0.0 was.0.1 was.1 in
    let before : block_in (row_in s cell) ≡ Some (d, b) = was.1 ∙ (λ i. Some (own.0 i, own.1 i)) in
    subst (λ es. IsIndexOf es (counting.after s (change.Accept cell d b place n))) (sym made)
    (same_index s (counting.after s (change.Accept cell d b place n)) old sound fits.sound
    (λ k. elim (cases_eq k cell) [
      | inl same ↦
          ap (λ j. block_in (row_in (counting.after s (change.Accept cell d b place n)) j)) same ∙ ap (λ (o : Option Row). block_in o) (here_row s sound x fits)
          ∙ sym (ap (λ j. block_in (row_in s j)) same ∙ before)
      | inr differs ↦ ap (λ (o : Option (ℕ × Row)). block_in (row_of o)) (there_at s sound x fits k differs)
    ])
    (λ k low. elim (cases_eq k cell) [
      | inl same ↦ ap (λ j. is_some (row_at (counting.after s (change.Accept cell d b place n)) j)) same ∙ here_at s sound x fits ∙ sym (ap (λ j. is_some (row_at s j)) same ∙ some refl)
      | inr differs ↦ ap is_some (there_at s sound x fits k differs)
    ]) is)
