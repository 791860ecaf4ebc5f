-- Sound rows that take a change are sound.
use Rattle.std.proofs.Common.{◌≡◌, ◌≢◌, ◌⊎◌, inl, inr, ℕ, zero, suc, replicate, ◌+◌, ◌-◌, ◌<◌, ◌≤◌, ◌^◌, List, length, get_or, set, Option, Some, None, true, refl, sym, ap, subst, ◌∙◌, arith, true≢false}
use Rattle.std.specs.Prelude.{is_some, IsSome, IfSome}
use Rattle.std.proofs.lemmas.Bool.{cases_eq}
use Rattle.std.proofs.lemmas.List.{get_or-set_same, get_or-set_other, length-set, length-replicate}
use Rattle.bench_base.specs.Ranges.{IsDevice, IsKey}
use Rattle.bench_base.specs.declared.sizes.TheConstants.{VERIFIER_CELLS, FIRST_BLOCK, BLOCK_PIECES, LAST_BLOCK}
use Rattle.node_acts.specs.RowList.{row_at, row_of, put}
use Rattle.node_acts.specs.RowLaws.{put_long, put_here, put_other}
use Rattle.verifier.specs.declared.acts.Change.TheVariants as change
use Rattle.verifier.specs.ActLaws.{IsFit}
use Rattle.verifier.specs.Payload.{no_scans}
use Rattle.verifier.specs.Rows.{Row, TrustRow, BlockRow, IsSoundBlock}
use Rattle.verifier.specs.Seen.{Seen, row_in, key_in, block_in, scans_in, key_at, cell_of_block, used, AreSound, IsRowAt}
use Rattle.verifier.proofs.Basics.{no_pair, same_pair}
use Rattle.verifier.proofs.Cells.{keyless, key_in_cell, keyed, cell_found, cell_none, blocks_begin, used_before, next_blank}

-- == a row in its cell ==

module _ (s : Seen) (cell : ℕ) (r : Row) (inside : cell < length s) where
  pub here : row_in (put s cell r) cell ≡ Some r
  here = ap (λ (o : Option (ℕ × Row)). row_of o) (put_here s cell r inside)

  pub there : (k : ℕ) → k ≢ cell → row_in (put s cell r) k ≡ row_in s k
  there k differs = ap (λ (o : Option (ℕ × Row)). row_of o) (put_other s cell r k differs)

  some_here : IsSome (row_at (put s cell r) cell)
  some_here = ap is_some (put_here s cell r inside)

  some_there : (k : ℕ) → k ≢ cell → IsSome (row_at s k) → IsSome (row_at (put s cell r) k)
  some_there k differs has = ap is_some (put_other s cell r k differs) ∙ has

  pub still_some : (k : ℕ) → IsSome (row_at s k) → IsSome (row_at (put s cell r) k)
  still_some k has = elim (cases_eq k cell) [
    | inl is ↦ subst (λ j. IsSome (row_at (put s cell r) j)) (sym is) some_here
    | inr differs ↦ some_there k differs has
  ]

  pub each_row : ((k : ℕ) → IfSome (row_in s k) (IsRowAt k)) → IsRowAt cell r → (k : ℕ) → IfSome (row_in (put s cell r) k) (IsRowAt k)
  each_row each own k = elim (cases_eq k cell) [
    | inl is ↦ subst (λ j. IfSome (row_in (put s cell r) j) (IsRowAt j)) (sym is) (subst (λ (o : Option Row). IfSome o (IsRowAt cell)) (sym here) own)
    | inr differs ↦ subst (λ (o : Option Row). IfSome o (IsRowAt k)) (sym (there k differs)) (each k)
  ]

  -- a key in another cell
  pub other_key : (d : ℕ) → (1 ≤ d → d - 1 ≢ cell) → key_at (put s cell r) d ≡ key_at s d
  other_key d differs = elim (cases_eq d 0) [
    | inl is ↦ subst (λ e. key_at (put s cell r) e ≡ key_at s e) (sym is) refl
    | inr some ↦
        let low : 1 ≤ d = omega (arith, some) in
        key_in_cell (put s cell r) d low ∙ ap (λ (o : Option Row). key_in o) (there (d - 1) (differs low)) ∙ sym (key_in_cell s d low)
  ]

-- == a key ==

module _ (s : Seen) (sound : AreSound s) (d : ℕ) (key : List ℕ) (device : IsDevice d) (fits : IsKey key) where
  r : Row
  r = TrustRow d key

  cell : ℕ
  cell = d - 1

  inside : d - 1 < length s
  inside = omega (arith, device, sound.long)

  no_block : (e b : ℕ) → block_in (row_in (put s (d - 1) (TrustRow d key)) (d - 1)) ≡ Some (e, b) → ⊥
  no_block e b is = no_pair e b (sym (ap (λ (o : Option Row). block_in o) (here s (d - 1) (TrustRow d key) inside)) ∙ is)

  block_there : (k e b : ℕ) → block_in (row_in (put s (d - 1) (TrustRow d key)) k) ≡ Some (e, b) → (k ≢ d - 1) × (block_in (row_in s k) ≡ Some (e, b))
  block_there k e b is = elim (cases_eq k (d - 1)) [
    | inl same ↦ absurd (no_block e b (subst (λ j. block_in (row_in (put s (d - 1) (TrustRow d key)) j) ≡ Some (e, b)) same is))
    | inr differs ↦ (differs, sym (ap (λ (o : Option Row). block_in o) (there s (d - 1) (TrustRow d key) inside k differs)) ∙ is)
  ]

  trusted_then : (e : ℕ) → IsSome (key_at s e) → IsSome (key_at (put s (d - 1) (TrustRow d key)) e)
  trusted_then e has = elim (cases_eq e d) [
    | inl same ↦ subst (λ x. IsSome (key_at (put s (d - 1) (TrustRow d key)) x)) (sym same)
        (ap is_some (key_in_cell (put s (d - 1) (TrustRow d key)) d device.0 ∙ ap (λ (o : Option Row). key_in o) (here s (d - 1) (TrustRow d key) inside)))
    | inr differs ↦ ap is_some (other_key s (d - 1) (TrustRow d key) inside e (λ low is. differs (omega (arith, low, is, device)))) ∙ has
  ]

  pub trust_fits : IsFit s (change.Trust d key)
  trust_fits = record {
    inside = omega (arith, device);
    own = tt;
    sound = record {
      long = put_long s (d - 1) (TrustRow d key) ∙ sound.long;
      each = each_row s (d - 1) (TrustRow d key) inside sound.each (record { place = (omega (arith, device), omega (arith, device)); sound = (omega (arith, device), fits) });
      together = record {
        trusted = λ k e b is. trusted_then e (sound.together.trusted k e b (block_there k e b is).1);
        packed = λ k from has.
            still_some s (d - 1) (TrustRow d key) inside k
            (sound.together.packed k from (sym (ap is_some (put_other s (d - 1) (TrustRow d key) (k + 1) (λ is. omega (arith, device, from, is)))) ∙ has));
        distinct = λ i j e b is is'. sound.together.distinct i j e b (block_there i e b is).1 (block_there j e b is').1;
      };
    };
  }

-- == a scan ==

-- the cell can take a scan of this block
pub record CanAccept (s : Seen) (cell d b : ℕ) : Type 0 where
  pub from : FIRST_BLOCK ≤ cell
  pub inside : cell < VERIFIER_CELLS
  pub trusted : IsSome (key_at s d)
  pub number : b ≤ LAST_BLOCK
  -- it has no key, its block follows others, and is in no other cell
  pub keyless : key_in (row_in s cell) ≡ None
  pub packed : (k : ℕ) → FIRST_BLOCK ≤ k → k + 1 ≡ cell → IsSome (row_at s k)
  pub own : (e c : ℕ) → block_in (row_in s cell) ≡ Some (e, c) → (e ≡ d) × (c ≡ b)
  pub only : (k : ℕ) → block_in (row_in s k) ≡ Some (d, b) → k ≡ cell
  pub long : length (scans_in (row_in s cell)) ≡ BLOCK_PIECES
  pub words : (j : ℕ) → get_or (scans_in (row_in s cell)) j 0 < 2 ^ 32

module _ (s : Seen) (sound : AreSound s) (cell d b place n : ℕ) (can : CanAccept s cell d b) (in_block : place < BLOCK_PIECES) (low : 1 ≤ n) (small : n < 2 ^ 32) where
  scans : List ℕ
  scans = set (scans_in (row_in s cell)) place n

  t : Seen
  t = put s cell (BlockRow d b (set (scans_in (row_in s cell)) place n))

  row_inside : cell < length s
  row_inside = omega (arith, can.inside, sound.long)

  row_sound : IsSoundBlock d b (set (scans_in (row_in s cell)) place n)
  row_sound = record {
    device = omega (arith, keyed s sound d can.trusted);
    number = can.number;
    long = length-set (scans_in (row_in s cell)) place n ∙ can.long;
    words = λ j. elim (cases_eq j place) [
      | inl is ↦ subst (λ m. m < 2 ^ 32) (sym (ap (λ i. get_or (set (scans_in (row_in s cell)) place n) i 0) is ∙ get_or-set_same (scans_in (row_in s cell)) place n 0 (omega (arith, in_block, can.long)))) small
      | inr differs ↦ subst (λ m. m < 2 ^ 32) (sym (get_or-set_other (scans_in (row_in s cell)) place j n 0 differs)) (can.words j)
    ];
    used = λ none. omega (arith, none place, get_or-set_same (scans_in (row_in s cell)) place n 0 (omega (arith, in_block, can.long)), low);
  }

  own : Row
  own = BlockRow d b (set (scans_in (row_in s cell)) place n)

  key_then : (e : ℕ) → IsSome (key_at s e) → IsSome (key_at (put s cell (BlockRow d b (set (scans_in (row_in s cell)) place n))) e)
  key_then e has =
      ap is_some (other_key s cell (BlockRow d b (set (scans_in (row_in s cell)) place n)) row_inside e
      (λ low is. true≢false (sym has ∙ ap is_some (key_in_cell s e low ∙ ap (λ k. key_in (row_in s k)) is ∙ can.keyless)))) ∙ has

  block_then : (k e c : ℕ) → block_in (row_in (put s cell (BlockRow d b (set (scans_in (row_in s cell)) place n))) k) ≡ Some (e, c)
      → ((k ≡ cell) × ((d ≡ e) × (b ≡ c))) ⊎ ((k ≢ cell) × (block_in (row_in s k) ≡ Some (e, c)))
  block_then k e c is = elim (cases_eq k cell) [
    | inl same ↦
        inl (
          same,
          same_pair d b e c (sym (ap (λ (o : Option Row). block_in o) (ap (row_in (put s cell (BlockRow d b (set (scans_in (row_in s cell)) place n)))) same
              ∙ here s cell (BlockRow d b (set (scans_in (row_in s cell)) place n)) row_inside)) ∙ is),
        )
    | inr differs ↦ inr (differs, sym (ap (λ (o : Option Row). block_in o) (there s cell (BlockRow d b (set (scans_in (row_in s cell)) place n)) row_inside k differs)) ∙ is)
  ]

  pub accept_fits : IsFit s (change.Accept cell d b place n)
  accept_fits = record {
    inside = can.inside;
    own = (in_block, can.own);
    sound = record {
      long = put_long s cell (BlockRow d b (set (scans_in (row_in s cell)) place n)) ∙ sound.long;
      each = each_row s cell (BlockRow d b (set (scans_in (row_in s cell)) place n)) row_inside sound.each (record { place = can.from; sound = row_sound });
      together = record {
        trusted = λ k e c is. elim (block_then k e c is) [
          | inl own ↦ key_then e (subst (λ x. IsSome (key_at s x)) own.1.0 can.trusted)
          | inr other ↦ key_then e (sound.together.trusted k e c other.1)
        ];
        packed = λ k from has. elim (cases_eq (k + 1) cell) [
          | inl next ↦ still_some s cell (BlockRow d b (set (scans_in (row_in s cell)) place n)) row_inside k (can.packed k from next)
          | inr differs ↦
              still_some s cell (BlockRow d b (set (scans_in (row_in s cell)) place n)) row_inside k
              (sound.together.packed k from (sym (ap is_some (put_other s cell (BlockRow d b (set (scans_in (row_in s cell)) place n)) (k + 1) differs)) ∙ has))
        ];
        distinct = λ i j e c is is'. elim (block_then i e c is) [
          | inl own ↦ elim (block_then j e c is') [
            | inl own' ↦ own.0 ∙ sym own'.0
            | inr other' ↦ absurd (other'.0 (can.only j (subst (λ (x : ℕ × ℕ). block_in (row_in s j) ≡ Some x) (λ i. (sym own.1.0 i, sym own.1.1 i)) other'.1)))
          ]
          | inr other ↦ elim (block_then j e c is') [
            | inl own' ↦ absurd (other.0 (can.only i (subst (λ (x : ℕ × ℕ). block_in (row_in s i) ≡ Some x) (λ i. (sym own'.1.0 i, sym own'.1.1 i)) other.1)))
            | inr other' ↦ sound.together.distinct i j e c other.1 other'.1
          ]
        ];
      };
    };
  }

-- == where a piece is looked up ==

abbrev zeros : ℕ → List ℕ
zeros n = replicate n 0

zero_at : (n j : ℕ) → get_or (zeros n) j 0 < 2 ^ 32
zero_at zero j = omega arith
zero_at (suc n) zero = omega arith
zero_at (suc n) (suc j) = zero_at n j

module _ (s : Seen) (sound : AreSound s) (d b : ℕ) (trusted : IsSome (key_at s d)) (number : b ≤ LAST_BLOCK) where
  scans_kept : (k : ℕ) (o : Option Row) (x : ℕ × ℕ) → IfSome o (IsRowAt k) → block_in o ≡ Some x → (length (scans_in o) ≡ BLOCK_PIECES) × ((j : ℕ) → get_or (scans_in o) j 0 < 2 ^ 32)
  scans_kept k None x fits is = absurd (no_pair x.0 x.1 is)
  scans_kept k (Some (TrustRow e key)) x fits is = absurd (no_pair x.0 x.1 is)
  scans_kept k (Some (BlockRow e c ns)) x fits is = (fits.sound.long, fits.sound.words)

  -- in the cell of its block
  pub block_accepts : (cell : ℕ) → cell_of_block s d b ≡ Some cell → CanAccept s cell d b
  block_accepts cell is =
      let f = cell_found s sound d b cell is in
      let kept = scans_kept cell (row_in s cell) (d, b) (sound.each cell) f.1 in
      record {
        from = blocks_begin s sound cell d b f.1;
        inside = f.0;
        trusted = trusted;
        number = number;
        keyless = keyless (row_in s cell) (d, b) f.1;
        packed = λ k from next. sound.together.packed k from (subst (λ j. IsSome (row_at s j)) (sym next) (has cell (row_at s cell) f.1));
        own = λ e c held. same_pair e c d b (sym held ∙ f.1);
        only = λ k held. sound.together.distinct k cell d b held f.1;
        long = kept.0;
        words = kept.1;
      }
    where
      has : (cell : ℕ) (o : Option (ℕ × Row)) → block_in (row_of o) ≡ Some (d, b) → is_some o ≡ true
      has cell None held = absurd (no_pair d b held)
      has cell (Some x) held = refl

  zeros_long : length no_scans ≡ BLOCK_PIECES
  unfolding no_scans
  zeros_long = length-replicate {A = ℕ} BLOCK_PIECES 0

  zeros_small : (j : ℕ) → get_or no_scans j 0 < 2 ^ 32
  unfolding no_scans
  zeros_small j = zero_at BLOCK_PIECES j

  -- in the next cell, where its block is not in use
  pub next_accepts : cell_of_block s d b ≡ None → FIRST_BLOCK + used s < VERIFIER_CELLS → CanAccept s (FIRST_BLOCK + used s) d b
  next_accepts none lt =
      let blank : row_in s (FIRST_BLOCK + used s) ≡ None = ap (λ (o : Option (ℕ × Row)). row_of o) (next_blank s sound lt) in
      record {
        from = omega arith;
        inside = lt;
        trusted = trusted;
        number = number;
        keyless = ap (λ (o : Option Row). key_in o) blank;
        packed = λ k from next. used_before s sound k from (omega (arith, next));
        own = λ e c held. absurd (no_pair e c (sym (ap (λ (o : Option Row). block_in o) blank) ∙ held));
        only = λ k held. absurd (cell_none s sound d b none k held);
        long = ap (λ (o : Option Row). length (scans_in o)) blank ∙ zeros_long;
        words = λ j. subst (λ (o : Option Row). get_or (scans_in o) j 0 < 2 ^ 32) (sym blank) (zeros_small j);
      }
