-- The rows after some commits: what they record, and what one commit more does to them.
use Rattle.std.proofs.Common.{◌≡◌, ◌≢◌, inl, inr, ℕ, ◌+◌, ◌-◌, ◌%◌, ◌<◌, ◌≤◌, List, [], ◌∷◌, length, get_or, set, option_map, Option, Some, None, true, false, refl, sym, ap, subst, ◌∙◌, arith, true≢false}
use Rattle.std.specs.Prelude.{◌==◌, ◌&&◌, is_some, All, unwrap_or, if◌then◌else◌}
use Rattle.std.proofs.lemmas.Bool.{cases_Bool, cases_eq, cases_lt, eqb-true, eq-eqb, ne_eqb}
use Rattle.std.proofs.lemmas.List.{get_or_past}
use Rattle.std.proofs.lemmas.List.Elements.{All-head, All-tail}
use Rattle.std.proofs.lemmas.Option.{same_Some}
use Rattle.bench_base.specs.declared.{sizes.TheConstants.VERIFIER_CELLS, sizes.TheConstants.FIRST_BLOCK, sizes.TheConstants.BLOCK_PIECES, ledger.Commit.Commit, ledger.Commit.TheVariants.Trusted, ledger.Commit.TheVariants.Accepted}
use Rattle.bench_base.specs.Cells.{OfTrust, OfBlock, commits_at}
use Rattle.bench_base.specs.Ranges.{InRange, IsDevice, IsKey, IsCount}
use Rattle.bench_base.specs.Scans.{trusted, accepted, block_of, block_place, blocks}
use Rattle.bench_base.specs.Rows.{first_of}
use Rattle.bench_base.proofs.Facts.{some_none}
use Rattle.node_acts.specs.RowList.{row_at, row_of, put}
use Rattle.node_acts.specs.RowList as list
use Rattle.node_acts.specs.RowLaws.{listed_long, listed_at, put_listed}
use Rattle.verifier.specs.declared.acts.Change.TheVariants as change
use Rattle.verifier.specs.Plans.{spot_after}
use Rattle.verifier.specs.Order.{IsRoomy}
use Rattle.verifier.specs.Records.{block_at, scans_after, trust_after, block_after, cell_after, seen_after, IsRecorded}
use Rattle.verifier.specs.Rows.{Row, TrustRow, BlockRow}
use Rattle.verifier.specs.Seen.{Seen, row_in, key_in, block_in, scans_in, holds, key_at, cell_of_block, used, scan_shown, spot_by, spot_in, counting}
use Rattle.verifier.proofs.Basics.{trust_low, block_high}
use Rattle.verifier.proofs.Blocks.{pair, same_block, is_block, own_block, newest_at, older_at, past_all, within_all, place_at, blocks_kept, blocks_more, at_place, untrusted_blank, unused_blank, unused_none, piece_is, place_inside, scan_at, unused_scans, scans_more, scans_others}
use Rattle.verifier.proofs.Cells.{key_in_cell, block_held, used_is, behind}
use Rattle.verifier.proofs.Found.{position_is, position_none}

-- == the cells ==

pub after_long : (C : List Commit) → length (seen_after C) ≡ VERIFIER_CELLS
after_long C = listed_long VERIFIER_CELLS (λ k. cell_after k C)

pub after_at : (C : List Commit) (k : ℕ) → k < VERIFIER_CELLS → row_at (seen_after C) k ≡ cell_after k C
after_at C k lt = listed_at VERIFIER_CELLS (λ j. cell_after j C) None k lt

pub trust_cell : (C : List Commit) (k : ℕ) → k < FIRST_BLOCK → cell_after k C ≡ trust_after (k + 1) C
trust_cell C k lt = ap (λ t. if t then trust_after (k + 1) C else option_map (block_after C) (block_at (k - FIRST_BLOCK) (blocks C))) (trust_low k lt)

pub block_cell : (C : List Commit) (i : ℕ) → cell_after (FIRST_BLOCK + i) C ≡ option_map (block_after C) (block_at i (blocks C))
block_cell C i =
    ap (λ t. if t then trust_after (FIRST_BLOCK + i + 1) C else option_map (block_after C) (block_at (FIRST_BLOCK + i - FIRST_BLOCK) (blocks C))) (block_high (FIRST_BLOCK + i) (omega arith))
    ∙ ap (λ j. option_map (block_after C) (block_at j (blocks C))) (back i)
  where
    back : (i : ℕ) → FIRST_BLOCK + i - FIRST_BLOCK ≡ i
    back i = omega arith

-- == keys ==

trust_key : (n d : ℕ) (o : Option (List ℕ)) → key_in (row_of (option_map (λ key. (n, TrustRow d key)) o)) ≡ o
trust_key n d None = refl
trust_key n d (Some key) = refl

block_keyless : (C : List Commit) (o : Option (ℕ × ℕ)) → key_in (row_of (option_map (block_after C) o)) ≡ None
block_keyless C None = refl
block_keyless C (Some x) = refl

-- only the eight devices are trusted
pub trusted_range : (d : ℕ) (C : List Commit) (key : List ℕ) → All InRange C → trusted d C ≡ Some key → IsDevice d × IsKey key
trusted_range d [] key range is = absurd (some_none (sym is))
trusted_range d (Trusted e k ∷ C) key range is = elim (cases_Bool (e == d)) [
  | inl own ↦
      let fits = All-head InRange (Trusted e k) C range in
      let same : k ≡ key = same_Some _ _ (sym (ap (λ t. if t then Some k else trusted d C) own) ∙ is) in
      (subst IsDevice (eqb-true e d own) fits.0, subst IsKey same fits.1)
  | inr other ↦ trusted_range d C key (All-tail InRange (Trusted e k) C range) (sym (ap (λ t. if t then Some k else trusted d C) other) ∙ is)
]
trusted_range d (x ∷ C) key range is = trusted_range d C key (All-tail InRange x C range) is

no_other : (d : ℕ) (C : List Commit) → All InRange C → (IsDevice d → ⊥) → trusted d C ≡ None
no_other d C range none = by (trusted d C) refl
  where
    by : (o : Option (List ℕ)) → trusted d C ≡ o → o ≡ None
    by None is = refl
    by (Some key) is = absurd (none (trusted_range d C key range is).0)

pub key_after : (C : List Commit) (d : ℕ) → All InRange C → key_at (seen_after C) d ≡ trusted d C
key_after C d range = elim (cases_eq d 0) [
  | inl is ↦ ap (key_at (seen_after C)) is ∙ sym (no_other 0 C range (λ device. omega (arith, device))) ∙ ap (λ e. trusted e C) (sym is)
  | inr some ↦
      let low : 1 ≤ d = omega (arith, some) in
      key_in_cell (seen_after C) d low ∙ elim (cases_lt (d - 1) FIRST_BLOCK) [
        | inl lt ↦
            ap (λ (o : Option (ℕ × Row)). key_in (row_of o)) (after_at C (d - 1) (omega (arith, lt)) ∙ trust_cell C (d - 1) lt)
            ∙ trust_key (commits_at (OfTrust (d - 1 + 1)) C) (d - 1 + 1) (trusted (d - 1 + 1) C) ∙ ap (λ e. trusted e C) (back d low)
        | inr le ↦ elim (cases_lt (d - 1) VERIFIER_CELLS) [
          | inl inside ↦
              ap (λ (o : Option (ℕ × Row)). key_in (row_of o)) (after_at C (d - 1) inside ∙ ap (λ k. cell_after k C) (sym (behind (d - 1) le)) ∙ block_cell C (d - 1 - FIRST_BLOCK))
              ∙ block_keyless C (block_at (d - 1 - FIRST_BLOCK) (blocks C)) ∙ sym (no_other d C range (λ device. omega (arith, device, le)))
          | inr past ↦
              ap (λ (o : Option (ℕ × Row)). key_in (row_of o)) (get_or_past (seen_after C) (d - 1) None (omega (arith, past, after_long C)))
              ∙ sym (no_other d C range (λ device. omega (arith, device, le)))
        ]
      ]
]
  where
    back : (d : ℕ) → 1 ≤ d → d - 1 + 1 ≡ d
    back d low = omega (arith, low)

-- == blocks ==

pub block_row : (C : List Commit) (i d b : ℕ) → FIRST_BLOCK + i < VERIFIER_CELLS → block_at i (blocks C) ≡ Some (d, b) → row_in (seen_after C) (FIRST_BLOCK + i) ≡ Some (BlockRow d b (scans_after d b C))
block_row C i d b lt is =
    ap (λ (o : Option (ℕ × Row)). row_of o) (after_at C (FIRST_BLOCK + i) lt ∙ block_cell C i ∙ ap (option_map (block_after C)) is)

-- a cell that holds a block is that of its place
held_place : (C : List Commit) (d b : ℕ) (o : Option (ℕ × ℕ)) → holds d b (row_of (option_map (block_after C) o)) ≡ true → o ≡ Some (d, b)
held_place C d b None is = absurd (true≢false (sym is))
held_place C d b (Some x) is = ap (λ (y : ℕ × ℕ). Some y) (is_block x d b is)

not_held : (n d e b : ℕ) (o : Option (List ℕ)) → holds d b (row_of (option_map (λ key. (n, TrustRow e key)) o)) ≡ false
not_held n d e b None = refl
not_held n d e b (Some key) = refl

pub cell_place : (C : List Commit) (d b k : ℕ) → k < VERIFIER_CELLS → holds d b (row_in (seen_after C) k) ≡ true → (i : ℕ) × ((k ≡ FIRST_BLOCK + i) × (block_place d b (blocks C) ≡ Some i))
cell_place C d b k lt is = elim (cases_lt k FIRST_BLOCK) [
  | inl low ↦
      absurd (true≢false (sym is ∙ ap (λ (o : Option (ℕ × Row)). holds d b (row_of o)) (after_at C k lt ∙ trust_cell C k low)
      ∙ not_held (commits_at (OfTrust (k + 1)) C) d (k + 1) b (trusted (k + 1) C)))
  | inr le ↦
      let at : block_at (k - FIRST_BLOCK) (blocks C) ≡ Some (d, b) =
      held_place C d b (block_at (k - FIRST_BLOCK) (blocks C)) (ap (λ (o : Option (ℕ × Row)). holds d b (row_of o)) (sym (after_at C k lt ∙ ap (λ j. cell_after j C) (sym (behind k le)) ∙ block_cell C (k - FIRST_BLOCK))) ∙ is) in
      (k - FIRST_BLOCK, (sym (behind k le), at_place C (k - FIRST_BLOCK) d b at))
]

pub found_after : (C : List Commit) (d b i : ℕ) → IsRoomy C → block_place d b (blocks C) ≡ Some i → cell_of_block (seen_after C) d b ≡ Some (FIRST_BLOCK + i)
found_after C d b i roomy is =
    let at = place_at (blocks C) d b i is in
    let inside : FIRST_BLOCK + i < VERIFIER_CELLS = omega (arith, at.0, roomy) in
    position_is (λ x. holds d b (row_of x)) (seen_after C) None (FIRST_BLOCK + i) (omega (arith, inside, after_long C))
    (block_held d b (row_in (seen_after C) (FIRST_BLOCK + i)) (ap (λ (o : Option Row). block_in o) (block_row C i d b inside at.1)))
    (λ j lt. elim (cases_Bool (holds d b (row_in (seen_after C) j))) [
      | inr isnt ↦ isnt
      | inl held ↦
          let other = cell_place C d b j (omega (arith, lt, inside)) held in
          let same : i ≡ other.0 = same_Some _ _ (sym is ∙ other.1.1) in
          absurd (omega (arith, lt, other.1.0, same))
    ])

pub none_after : (C : List Commit) (d b : ℕ) → block_place d b (blocks C) ≡ None → cell_of_block (seen_after C) d b ≡ None
none_after C d b none =
    position_none (λ x. holds d b (row_of x)) (seen_after C) None (λ k lt. elim (cases_Bool (holds d b (row_in (seen_after C) k))) [
      | inr isnt ↦ isnt
      | inl held ↦
          let other = cell_place C d b k (omega (arith, lt, after_long C)) held in
          absurd (some_none (sym other.1.1 ∙ none))
    ])

some_block : (C : List Commit) (o : Option (ℕ × ℕ)) → is_some (option_map (block_after C) o) ≡ is_some o
some_block C None = refl
some_block C (Some x) = refl

pub used_after : (C : List Commit) → IsRoomy C → used (seen_after C) ≡ length (blocks C)
used_after C roomy =
    used_is (seen_after C) (length (blocks C)) (after_long C) (omega (arith, roomy))
    (λ k from lt.
    ap is_some (after_at C k (omega (arith, lt, roomy)) ∙ ap (λ j. cell_after j C) (sym (behind k from)) ∙ block_cell C (k - FIRST_BLOCK))
    ∙ some_block C (block_at (k - FIRST_BLOCK) (blocks C)) ∙ within_all (blocks C) (k - FIRST_BLOCK) (omega (arith, from, lt)))
    (λ lt. after_at C (FIRST_BLOCK + length (blocks C)) lt ∙ block_cell C (length (blocks C)) ∙ ap (option_map (block_after C)) (past_all (blocks C) (length (blocks C)) (omega arith)))

-- == where a piece is looked up ==

pub accepted_range : (d p : ℕ) (C : List Commit) (n : ℕ) → All InRange C → accepted d p C ≡ Some n → IsCount n
accepted_range d p [] n range is = absurd (some_none (sym is))
accepted_range d p (Accepted e q m ∷ C) n range is = elim (cases_Bool ((e == d) && (q == p))) [
  | inl own ↦ by (accepted d p C) refl (sym (ap (λ t. if t then first_of (accepted d p C) (Some m) else accepted d p C) own) ∙ is) (λ h. accepted_range d p C n (All-tail InRange (Accepted e q m) C range) h)
  | inr other ↦ accepted_range d p C n (All-tail InRange (Accepted e q m) C range) (sym (ap (λ t. if t then first_of (accepted d p C) (Some m) else accepted d p C) other) ∙ is)
]
  where
    by : (o : Option ℕ) → accepted d p C ≡ o → first_of (accepted d p C) (Some m) ≡ Some n → (accepted d p C ≡ Some n → IsCount n) → IsCount n
    by None none now rest = subst IsCount (same_Some _ _ (ap (λ o. first_of o (Some m)) (sym none) ∙ now)) (All-head InRange (Accepted e q m) C range).2
    by (Some k) some now rest = rest (some ∙ ap (λ o. first_of o (Some m)) (sym some) ∙ now)
accepted_range d p (x ∷ C) n range is = accepted_range d p C n (All-tail InRange x C range) is

-- what is kept of a piece is the scan under which it was accepted
shown : (o : Option ℕ) → ((n : ℕ) → o ≡ Some n → 1 ≤ n) → scan_shown (unwrap_or o 0) ≡ o
shown None low = refl
shown (Some n) low = ap (λ t. if t then None else Some n) (ne_eqb n 0 (λ is. omega (arith, low n refl, is)))

pub spot_follows : (C : List Commit) (d p : ℕ) → IsRecorded C → spot_in (seen_after C) d p ≡ spot_after (blocks C) (block_place d (block_of p) (blocks C)) (accepted d p C)
spot_follows C d p fits = by (block_place d (block_of p) (blocks C)) refl
  where
    s : Seen
    s = seen_after C

    by : (o : Option ℕ) → block_place d (block_of p) (blocks C) ≡ o → spot_in (seen_after C) d p ≡ spot_after (blocks C) o (accepted d p C)
    by None is =
        ap (spot_by (seen_after C) p) (none_after C d (block_of p) is)
        ∙ (λ i. record { cell = FIRST_BLOCK + used_after C fits.roomy i; accepted = sym (unused_none d (block_of p) p C refl is) i })
    by (Some k) is =
        let at = place_at (blocks C) d (block_of p) k is in
        let row = block_row C k d (block_of p) (omega (arith, at.0, fits.roomy)) at.1 in
        ap (spot_by (seen_after C) p) (found_after C d (block_of p) k fits.roomy is)
        ∙ (λ i. record {
          cell = FIRST_BLOCK + k;
          accepted = (ap (λ (r : Option Row). scan_shown (get_or (scans_in r) (p % BLOCK_PIECES) 0)) row
              ∙ ap scan_shown (scan_at d (block_of p) (p % BLOCK_PIECES) C (place_inside p) ∙ ap (λ q. unwrap_or (accepted d q C) 0) (piece_is p))
              ∙ shown (accepted d p C) (λ n has. (accepted_range d p C n fits.range has).0)) i;
        })

-- == one commit more ==

-- a device is trusted
pub trusts_more : (C : List Commit) (d : ℕ) (key : List ℕ) → IsDevice d → trusted d C ≡ None → counting.after (seen_after C) (change.Trust d key) ≡ seen_after (Trusted d key ∷ C)
trusts_more C d key device none =
    sym (put_listed VERIFIER_CELLS (λ k. cell_after k C) (λ k. cell_after k (Trusted d key ∷ C)) (d - 1) (TrustRow d key) (omega (arith, device)) here others)
  where
    low : d - 1 < FIRST_BLOCK
    low = omega (arith, device)

    back : d - 1 + 1 ≡ d
    back = omega (arith, device)

    old : cell_after (d - 1) C ≡ None
    old = trust_cell C (d - 1) low ∙ ap (λ e. trust_after e C) back ∙ ap (λ o. option_map (λ k. (commits_at (OfTrust d) C, TrustRow d k)) o) none

    now : trust_after d (Trusted d key ∷ C) ≡ Some (commits_at (OfTrust d) C + 1, TrustRow d key)
    now = rw (eq-eqb d d refl) refl

    here : cell_after (d - 1) (Trusted d key ∷ C) ≡ Some (list.commits_at (cell_after (d - 1) C) + 1, TrustRow d key)
    here =
        trust_cell (Trusted d key ∷ C) (d - 1) low ∙ ap (λ e. trust_after e (Trusted d key ∷ C)) back ∙ now
        ∙ ap (λ n. with_row (n + 1)) (untrusted_blank d C none ∙ sym (ap (λ (o : Option (ℕ × Row)). list.commits_at o) old))
      where
        with_row : ℕ → Option (ℕ × Row)
        with_row n = Some (n, TrustRow d key)

    other : (k : ℕ) → k + 1 ≢ d → trust_after (k + 1) (Trusted d key ∷ C) ≡ trust_after (k + 1) C
    other k differs = rw (ne_eqb d (k + 1) (λ is. differs (sym is))) refl

    others : (k : ℕ) → k ≢ d - 1 → cell_after k (Trusted d key ∷ C) ≡ cell_after k C
    others k differs = elim (cases_lt k FIRST_BLOCK) [
      | inl lt ↦ trust_cell (Trusted d key ∷ C) k lt ∙ other k (λ is. differs (omega (arith, is))) ∙ sym (trust_cell C k lt)
      | inr le ↦
          ap (λ j. cell_after j (Trusted d key ∷ C)) (sym (behind k le)) ∙ block_cell (Trusted d key ∷ C) (k - FIRST_BLOCK)
          ∙ sym (ap (λ j. cell_after j C) (sym (behind k le)) ∙ block_cell C (k - FIRST_BLOCK))
    ]

module _ (C : List Commit) (d p n : ℕ) (none : accepted d p C ≡ None) where
  abbrev more : List Commit
  more = Accepted d p n ∷ C

  abbrev b : ℕ
  b = block_of p

  -- its block has one commit more, and one scan
  own_after : block_after (Accepted d p n ∷ C) (d, block_of p) ≡ (commits_at (OfBlock d (block_of p)) C + 1, BlockRow d (block_of p) (set (scans_after d (block_of p) C) (p % BLOCK_PIECES) n))
  own_after = λ i. (
    ap (λ t. if t then commits_at (OfBlock d (block_of p)) C + 1 else commits_at (OfBlock d (block_of p)) C) (own_block d (block_of p)) i,
    BlockRow d (block_of p) (scans_more d p n C none i),
  )

  -- every other block stays
  other_after : (x : ℕ × ℕ) → same_block (d, block_of p) x.0 x.1 ≡ false → block_after (Accepted d p n ∷ C) x ≡ block_after C x
  other_after x apart = λ i. (
    ap (λ t. if t then commits_at (OfBlock x.0 x.1) C + 1 else commits_at (OfBlock x.0 x.1) C) apart i,
    BlockRow x.0 x.1 (scans_others x.0 x.1 d p n C apart i),
  )

  other_cell : (o : Option (ℕ × ℕ)) → ((x : ℕ × ℕ) → o ≡ Some x → same_block (d, block_of p) x.0 x.1 ≡ false) → option_map (block_after (Accepted d p n ∷ C)) o ≡ option_map (block_after C) o
  other_cell None apart = refl
  other_cell (Some x) apart = ap (λ (y : ℕ × Row). Some y) (other_after x (apart x refl))

  low_cell : (k : ℕ) → k < FIRST_BLOCK → cell_after k (Accepted d p n ∷ C) ≡ cell_after k C
  low_cell k lt = trust_cell (Accepted d p n ∷ C) k lt ∙ sym (trust_cell C k lt)

  apart_by : (x : ℕ × ℕ) → (x ≡ pair d (block_of p) → ⊥) → same_block (d, block_of p) x.0 x.1 ≡ false
  apart_by x differs = elim (cases_Bool (same_block (d, block_of p) x.0 x.1)) [
    | inl own ↦ absurd (differs (sym (is_block (d, block_of p) x.0 x.1 own)))
    | inr isnt ↦ isnt
  ]

  -- in a block that is in use
  pub accepts_known : (i : ℕ) → IsRoomy C → block_place d (block_of p) (blocks C) ≡ Some i
      → counting.after (seen_after C) (change.Accept (FIRST_BLOCK + i) d (block_of p) (p % BLOCK_PIECES) n) ≡ seen_after (Accepted d p n ∷ C)
  accepts_known i roomy is =
      ap (λ (r : Option Row). put (seen_after C) (FIRST_BLOCK + i) (BlockRow d (block_of p) (set (scans_in r) (p % BLOCK_PIECES) n))) (block_row C i d (block_of p) inside at)
      ∙ sym (put_listed VERIFIER_CELLS (λ k. cell_after k C) (λ k. cell_after k (Accepted d p n ∷ C)) (FIRST_BLOCK + i) row inside here others)
    where
      row : Row
      row = BlockRow d (block_of p) (set (scans_after d (block_of p) C) (p % BLOCK_PIECES) n)

      at : block_at i (blocks C) ≡ Some (d, block_of p)
      at = (place_at (blocks C) d (block_of p) i is).1

      inside : FIRST_BLOCK + i < VERIFIER_CELLS
      inside = omega (arith, (place_at (blocks C) d (block_of p) i is).0, roomy)

      now : (k : ℕ) → cell_after (FIRST_BLOCK + k) (Accepted d p n ∷ C) ≡ option_map (block_after (Accepted d p n ∷ C)) (block_at k (blocks C))
      now k = block_cell (Accepted d p n ∷ C) k ∙ ap (λ xs. option_map (block_after (Accepted d p n ∷ C)) (block_at k xs)) (blocks_kept d p n C i is)

      here : cell_after (FIRST_BLOCK + i) (Accepted d p n ∷ C) ≡ Some (list.commits_at (cell_after (FIRST_BLOCK + i) C) + 1, row)
      here =
          now i ∙ ap (option_map (block_after (Accepted d p n ∷ C))) at ∙ ap (λ (y : ℕ × Row). Some y) own_after
          ∙ ap (λ m. with_row (m + 1)) (sym (ap (λ (o : Option (ℕ × Row)). list.commits_at o) (block_cell C i ∙ ap (option_map (block_after C)) at)))
        where
          with_row : ℕ → Option (ℕ × Row)
          with_row m = Some (m, BlockRow d (block_of p) (set (scans_after d (block_of p) C) (p % BLOCK_PIECES) n))

      others : (k : ℕ) → k ≢ FIRST_BLOCK + i → cell_after k (Accepted d p n ∷ C) ≡ cell_after k C
      others k differs = elim (cases_lt k FIRST_BLOCK) [
        | inl lt ↦ low_cell k lt
        | inr le ↦
            ap (λ j. cell_after j (Accepted d p n ∷ C)) (sym (behind k le)) ∙ now (k - FIRST_BLOCK)
            ∙ other_cell (block_at (k - FIRST_BLOCK) (blocks C)) (λ x has. apart_by x (λ own.
            differs (sym (behind k le) ∙ ap (λ j. FIRST_BLOCK + j) (same_Some _ _ (sym (at_place C (k - FIRST_BLOCK) d (block_of p) (has ∙ ap (λ (y : ℕ × ℕ). Some y) own)) ∙ is)))))
            ∙ sym (ap (λ j. cell_after j C) (sym (behind k le)) ∙ block_cell C (k - FIRST_BLOCK))
      ]

  -- in the next cell
  pub accepts_new : FIRST_BLOCK + length (blocks C) < VERIFIER_CELLS → block_place d (block_of p) (blocks C) ≡ None
      → counting.after (seen_after C) (change.Accept (FIRST_BLOCK + length (blocks C)) d (block_of p) (p % BLOCK_PIECES) n) ≡ seen_after (Accepted d p n ∷ C)
  accepts_new inside fresh =
      ap (λ (o : Option (ℕ × Row)). put (seen_after C) (FIRST_BLOCK + length (blocks C)) (BlockRow d (block_of p) (set (scans_in (row_of o)) (p % BLOCK_PIECES) n)))
      (after_at C (FIRST_BLOCK + length (blocks C)) inside ∙ old)
      ∙ ap (λ l. put (seen_after C) (FIRST_BLOCK + length (blocks C)) (BlockRow d (block_of p) (set l (p % BLOCK_PIECES) n))) (sym (unused_scans d (block_of p) C fresh))
      ∙ sym (put_listed VERIFIER_CELLS (λ k. cell_after k C) (λ k. cell_after k (Accepted d p n ∷ C)) (FIRST_BLOCK + length (blocks C)) row inside here others)
    where
      row : Row
      row = BlockRow d (block_of p) (set (scans_after d (block_of p) C) (p % BLOCK_PIECES) n)

      old : cell_after (FIRST_BLOCK + length (blocks C)) C ≡ None
      old = block_cell C (length (blocks C)) ∙ ap (option_map (block_after C)) (past_all (blocks C) (length (blocks C)) (omega arith))

      now : (k : ℕ) → cell_after (FIRST_BLOCK + k) (Accepted d p n ∷ C) ≡ option_map (block_after (Accepted d p n ∷ C)) (block_at k (pair d (block_of p) ∷ blocks C))
      now k = block_cell (Accepted d p n ∷ C) k ∙ ap (λ xs. option_map (block_after (Accepted d p n ∷ C)) (block_at k xs)) (blocks_more d p n C fresh)

      here : cell_after (FIRST_BLOCK + length (blocks C)) (Accepted d p n ∷ C) ≡ Some (list.commits_at (cell_after (FIRST_BLOCK + length (blocks C)) C) + 1, row)
      here =
          now (length (blocks C)) ∙ ap (option_map (block_after (Accepted d p n ∷ C))) (newest_at (pair d (block_of p)) (blocks C) (length (blocks C)) refl)
          ∙ ap (λ (y : ℕ × Row). Some y) own_after
          ∙ ap (λ m. with_row (m + 1)) (unused_blank d (block_of p) C fresh ∙ sym (ap (λ (o : Option (ℕ × Row)). list.commits_at o) old))
        where
          with_row : ℕ → Option (ℕ × Row)
          with_row m = Some (m, BlockRow d (block_of p) (set (scans_after d (block_of p) C) (p % BLOCK_PIECES) n))

      others : (k : ℕ) → k ≢ FIRST_BLOCK + length (blocks C) → cell_after k (Accepted d p n ∷ C) ≡ cell_after k C
      others k differs = elim (cases_lt k FIRST_BLOCK) [
        | inl lt ↦ low_cell k lt
        | inr le ↦
            ap (λ j. cell_after j (Accepted d p n ∷ C)) (sym (behind k le)) ∙ now (k - FIRST_BLOCK)
            ∙ ap (option_map (block_after (Accepted d p n ∷ C))) (older_at (pair d (block_of p)) (blocks C) (k - FIRST_BLOCK) (λ is. differs (sym (behind k le) ∙ ap (λ j. FIRST_BLOCK + j) is)))
            ∙ other_cell (block_at (k - FIRST_BLOCK) (blocks C)) (λ x has. apart_by x (λ own.
            some_none (sym (at_place C (k - FIRST_BLOCK) d (block_of p) (has ∙ ap (λ (y : ℕ × ℕ). Some y) own)) ∙ fresh)))
            ∙ sym (ap (λ j. cell_after j C) (sym (behind k le)) ∙ block_cell C (k - FIRST_BLOCK))
      ]
