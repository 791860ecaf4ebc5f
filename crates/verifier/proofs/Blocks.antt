-- The blocks in use after some commits, the newest first, by their places, which are counted from the oldest.
use Rattle.std.proofs.Common.{◌≡◌, ◌≢◌, inl, inr, ℕ, ◌+◌, ◌*◌, ◌%◌, ◌<◌, ◌≤◌, List, [], ◌∷◌, length, replicate, get_or, set, Option, Some, None, Bool, true, false, refl, sym, ap, ◌∙◌, arith, true≢false}
use Rattle.std.specs.Prelude.{◌==◌, ◌&&◌, is_some, IsSome, unwrap_or, if◌then◌else◌}
use Rattle.std.proofs.lemmas.Bool.{cases_Bool, cases_eq, eqb-true, eq-eqb, ne_eqb, and_parts}
use Rattle.std.proofs.lemmas.List.{get_or-replicate, length-replicate, get_or-set_same, get_or-set_other, length-set}
use Rattle.std.proofs.lemmas.Option.{same_Some}
use Rattle.bench_base.specs.declared.{sizes.TheConstants.BLOCK_PIECES, ledger.Commit.Commit, ledger.Commit.TheVariants.Trusted, ledger.Commit.TheVariants.Accepted}
use Rattle.bench_base.specs.Cells.{OfTrust, OfBlock, commits_at}
use Rattle.bench_base.specs.Rows.{first_of}
use Rattle.bench_base.specs.Scans.{trusted, accepted, block_of, block_place, with_block, blocks}
use Rattle.bench_base.proofs.Facts.{some_none}
use Rattle.node_acts.specs.RowLaws.{listed_is, listed_same, listed_long, listed_at}
use Rattle.verifier.specs.Payload.{no_scans}
use Rattle.verifier.specs.Records.{block_at, scans_after}

abbrev pub pair : ℕ → ℕ → ℕ × ℕ
pair d b = (d, b)

-- the test of a block
abbrev pub same_block : ℕ × ℕ → ℕ → ℕ → Bool
same_block x d b = (x.0 == d) && (x.1 == b)

pub is_block : (x : ℕ × ℕ) (d b : ℕ) → same_block x d b ≡ true → x ≡ (d, b)
is_block x d b is =
    let parts = and_parts (x.0 == d) (x.1 == b) is in
    λ i. (eqb-true x.0 d parts.0 i, eqb-true x.1 b parts.1 i)

pub own_block : (d b : ℕ) → same_block (d, b) d b ≡ true
own_block d b = rw (eq-eqb d d refl, eq-eqb b b refl) refl

-- == places ==

-- the head of a list is the newest
newest : (x : ℕ × ℕ) (xs : List (ℕ × ℕ)) → block_at (length xs) (x ∷ xs) ≡ Some x
newest x xs = ap (λ t. if t then Some x else block_at (length xs) xs) (eq-eqb (length xs) (length xs) refl)

pub newest_at : (x : ℕ × ℕ) (xs : List (ℕ × ℕ)) (i : ℕ) → i ≡ length xs → block_at i (x ∷ xs) ≡ Some x
newest_at x xs i is = ap (λ j. block_at j (x ∷ xs)) is ∙ newest x xs

pub older_at : (x : ℕ × ℕ) (xs : List (ℕ × ℕ)) (i : ℕ) → i ≢ length xs → block_at i (x ∷ xs) ≡ block_at i xs
older_at x xs i differs = ap (λ t. if t then Some x else block_at i xs) (ne_eqb (length xs) i (λ is. differs (sym is)))

pub past_all : (xs : List (ℕ × ℕ)) (i : ℕ) → length xs ≤ i → block_at i xs ≡ None
past_all [] i past = refl
past_all (x ∷ xs) i past = older_at x xs i (λ is. omega (arith, past, is)) ∙ past_all xs i (omega arith)

pub within_all : (xs : List (ℕ × ℕ)) (i : ℕ) → i < length xs → IsSome (block_at i xs)
within_all [] i lt = absurd (omega arith)
within_all (x ∷ xs) i lt = elim (cases_eq i (length xs)) [
  | inl is ↦ ap is_some (newest_at x xs i is)
  | inr differs ↦ ap is_some (older_at x xs i differs) ∙ within_all xs i (omega (arith, differs))
]

-- a block that has a place is found there
pub place_at : (xs : List (ℕ × ℕ)) (d b i : ℕ) → block_place d b xs ≡ Some i → (i < length xs) × (block_at i xs ≡ Some (d, b))
place_at [] d b i is = absurd (some_none (sym is))
place_at (x ∷ xs) d b i is = elim (cases_Bool (same_block x d b)) [
  | inl own ↦
      let last : length xs ≡ i = same_Some _ _ (sym (ap (λ t. if t then Some (length xs) else block_place d b xs) own) ∙ is) in
      (omega (arith, last), newest_at x xs i (sym last) ∙ ap (λ (y : ℕ × ℕ). Some y) (is_block x d b own))
  | inr other ↦
      let rest = place_at xs d b i (sym (ap (λ t. if t then Some (length xs) else block_place d b xs) other) ∙ is) in
      (omega (arith, rest.0), older_at x xs i (λ same. omega (arith, rest.0, same)) ∙ rest.1)
]

-- == after one more acceptance ==

module _ (e p n : ℕ) (C : List Commit) where
  -- the list stays where the block is in use
  pub blocks_kept : (i : ℕ) → block_place e (block_of p) (blocks C) ≡ Some i → blocks (Accepted e p n ∷ C) ≡ blocks C
  blocks_kept i is = ap (λ o. with_block e (block_of p) (blocks C) o) is

  pub blocks_more : block_place e (block_of p) (blocks C) ≡ None → blocks (Accepted e p n ∷ C) ≡ pair e (block_of p) ∷ blocks C
  blocks_more none = ap (λ o. with_block e (block_of p) (blocks C) o) none

-- a block that is not in use was not in use before, and is not that of the acceptance
pub fresh_before : (d b e p n : ℕ) (C : List Commit) → block_place d b (blocks (Accepted e p n ∷ C)) ≡ None → (same_block (e, block_of p) d b ≡ false) × (block_place d b (blocks C) ≡ None)
fresh_before d b e p n C none = by (block_place e (block_of p) (blocks C)) refl
  where
    by : (o : Option ℕ) → block_place e (block_of p) (blocks C) ≡ o → (same_block (e, block_of p) d b ≡ false) × (block_place d b (blocks C) ≡ None)
    by (Some i) is =
        let before : block_place d b (blocks C) ≡ None = ap (block_place d b) (sym (blocks_kept e p n C i is)) ∙ none in (
          elim (cases_Bool (same_block (e, block_of p) d b)) [
            | inl own ↦ absurd (some_none (sym is ∙ (λ j. block_place (is_block (e, block_of p) d b own j).0 (is_block (e, block_of p) d b own j).1 (blocks C)) ∙ before))
            | inr other ↦ other
          ],
          before,
        )
    by None is =
        let now : block_place d b (pair e (block_of p) ∷ blocks C) ≡ None = ap (block_place d b) (sym (blocks_more e p n C is)) ∙ none in
        elim (cases_Bool (same_block (e, block_of p) d b)) [
          | inl own ↦ absurd (some_none (sym (ap (λ t. if t then Some (length (blocks C)) else block_place d b (blocks C)) own) ∙ now))
          | inr other ↦ (other, sym (ap (λ t. if t then Some (length (blocks C)) else block_place d b (blocks C)) other) ∙ now)
        ]

-- a block has one place
pub at_place : (C : List Commit) (i d b : ℕ) → block_at i (blocks C) ≡ Some (d, b) → block_place d b (blocks C) ≡ Some i
at_place [] i d b is = absurd (some_none (sym is))
at_place (Accepted e p n ∷ C) i d b is = by (block_place e (block_of p) (blocks C)) refl (λ j h. at_place C j d b h)
  where
    by : (o : Option ℕ) → block_place e (block_of p) (blocks C) ≡ o → ((j : ℕ) → block_at j (blocks C) ≡ Some (d, b) → block_place d b (blocks C) ≡ Some j) → block_place d b (blocks (Accepted e p n ∷ C)) ≡ Some i
    by (Some k) kept rest = ap (block_place d b) (blocks_kept e p n C k kept) ∙ rest i (ap (block_at i) (sym (blocks_kept e p n C k kept)) ∙ is)
    by None more rest = ap (block_place d b) (blocks_more e p n C more) ∙ elim (cases_eq i (length (blocks C))) [
      | inl last ↦
          let own : pair e (block_of p) ≡ pair d b = same_Some _ _ (sym (newest_at (pair e (block_of p)) (blocks C) i last) ∙ ap (block_at i) (sym (blocks_more e p n C more)) ∙ is) in
          ap (λ (x : ℕ × ℕ). block_place d b (x ∷ blocks C)) own ∙ ap (λ t. if t then Some (length (blocks C)) else block_place d b (blocks C)) (own_block d b) ∙ ap (λ j. Some j) (sym last)
      | inr differs ↦
          let before : block_place d b (blocks C) ≡ Some i = rest i (sym (older_at (pair e (block_of p)) (blocks C) i differs) ∙ ap (block_at i) (sym (blocks_more e p n C more)) ∙ is) in
          elim (cases_Bool (same_block (e, block_of p) d b)) [
            | inl own ↦ absurd (some_none (sym before ∙ (λ j. block_place (sym (is_block (e, block_of p) d b own) j).0 (sym (is_block (e, block_of p) d b own) j).1 (blocks C)) ∙ more))
            | inr other ↦ ap (λ t. if t then Some (length (blocks C)) else block_place d b (blocks C)) other ∙ before
          ]
    ]
at_place (_ ∷ C) i d b is = at_place C i d b is

-- == what is not in use has nothing ==

pub untrusted_blank : (d : ℕ) (C : List Commit) → trusted d C ≡ None → commits_at (OfTrust d) C ≡ 0
untrusted_blank d [] none = refl
untrusted_blank d (Trusted e key ∷ C) none = elim (cases_Bool (e == d)) [
  | inl own ↦ absurd (some_none (sym (ap (λ t. if t then Some key else trusted d C) own) ∙ none))
  | inr other ↦ ap (λ t. if t then commits_at (OfTrust d) C + 1 else commits_at (OfTrust d) C) other ∙ untrusted_blank d C (sym (ap (λ t. if t then Some key else trusted d C) other) ∙ none)
]
untrusted_blank d (_ ∷ C) none = untrusted_blank d C none

pub unused_blank : (d b : ℕ) (C : List Commit) → block_place d b (blocks C) ≡ None → commits_at (OfBlock d b) C ≡ 0
unused_blank d b [] none = refl
unused_blank d b (Accepted e p n ∷ C) none =
    let before = fresh_before d b e p n C none in
    ap (λ t. if t then commits_at (OfBlock d b) C + 1 else commits_at (OfBlock d b) C) before.0 ∙ unused_blank d b C before.1
unused_blank d b (_ ∷ C) none = unused_blank d b C none

pub unused_none : (d b p : ℕ) (C : List Commit) → block_of p ≡ b → block_place d b (blocks C) ≡ None → accepted d p C ≡ None
unused_none d b p [] is none = refl
unused_none d b p (Accepted e q n ∷ C) is none =
    let before = fresh_before d b e q n C none in
    ap (λ t. if t then first_of (accepted d p C) (Some n) else accepted d p C) (other before.0) ∙ unused_none d b p C is before.1
  where
    other : same_block (e, block_of q) d b ≡ false → ((e == d) && (q == p)) ≡ false
    other apart = elim (cases_Bool ((e == d) && (q == p))) [
      | inr isnt ↦ isnt
      | inl own ↦
          let parts = and_parts (e == d) (q == p) own in
          let same : same_block (e, block_of q) d b ≡ true =
          (λ j. same_block (eqb-true e d parts.0 j, block_of (eqb-true q p parts.1 j)) d b) ∙ ap (λ c. same_block (d, c) d b) is ∙ own_block d b in
          absurd (true≢false (sym same ∙ apart))
    ]
unused_none d b p (_ ∷ C) is none = unused_none d b p C is none

-- == the scans of a block ==

-- a piece by its block and place
pub piece_is : (p : ℕ) → block_of p * BLOCK_PIECES + p % BLOCK_PIECES ≡ p
piece_is p = omega arith

pub place_inside : (p : ℕ) → p % BLOCK_PIECES < BLOCK_PIECES
place_inside p = omega arith

pub block_is : (b j : ℕ) → j < BLOCK_PIECES → block_of (b * BLOCK_PIECES + j) ≡ b
block_is b j lt = omega (arith, lt)

place_is : (b j : ℕ) → j < BLOCK_PIECES → (b * BLOCK_PIECES + j) % BLOCK_PIECES ≡ j
place_is b j lt = omega (arith, lt)

abbrev scan_of : ℕ → ℕ → ℕ → List Commit → ℕ
scan_of d b j C = unwrap_or (accepted d (b * BLOCK_PIECES + j) C) 0

pub scan_at : (d b j : ℕ) (C : List Commit) → j < BLOCK_PIECES → get_or (scans_after d b C) j 0 ≡ unwrap_or (accepted d (b * BLOCK_PIECES + j) C) 0
scan_at d b j C lt = listed_at BLOCK_PIECES (λ i. scan_of d b i C) 0 j lt

-- a block that is not in use has none
pub unused_scans : (d b : ℕ) (C : List Commit) → block_place d b (blocks C) ≡ None → scans_after d b C ≡ no_scans
unfolding no_scans
unused_scans d b C none =
    listed_is BLOCK_PIECES (λ j. scan_of d b j C) 0 zeros (length-replicate BLOCK_PIECES nought) (λ k lt.
    get_or-replicate BLOCK_PIECES k 0 0 lt ∙ sym (ap (λ o. unwrap_or o 0) (unused_none d b (b * BLOCK_PIECES + k) C (block_is b k lt) none)))
  where
    nought : ℕ
    nought = 0

    zeros : List ℕ
    zeros = replicate BLOCK_PIECES 0

-- a piece that is accepted is the one more in its block
pub scans_more : (d p n : ℕ) (C : List Commit) → accepted d p C ≡ None → scans_after d (block_of p) (Accepted d p n ∷ C) ≡ set (scans_after d (block_of p) C) (p % BLOCK_PIECES) n
scans_more d p n C none =
    listed_is BLOCK_PIECES (λ j. scan_of d (block_of p) j (Accepted d p n ∷ C)) 0 (set (scans_after d (block_of p) C) (p % BLOCK_PIECES) n)
    (length-set (scans_after d (block_of p) C) (p % BLOCK_PIECES) n ∙ listed_long BLOCK_PIECES (λ j. scan_of d (block_of p) j C))
    (λ k lt. elim (cases_eq k (p % BLOCK_PIECES)) [
      | inl is ↦
          ap (λ i. get_or (set (scans_after d (block_of p) C) (p % BLOCK_PIECES) n) i 0) is
          ∙ get_or-set_same (scans_after d (block_of p) C) (p % BLOCK_PIECES) n 0 (omega (arith, listed_long BLOCK_PIECES (λ j. scan_of d (block_of p) j C), place_inside p))
          ∙ sym (ap (λ q. unwrap_or (accepted d q (Accepted d p n ∷ C)) 0) (ap (λ i. block_of p * BLOCK_PIECES + i) is ∙ piece_is p) ∙ now)
      | inr differs ↦
          get_or-set_other (scans_after d (block_of p) C) (p % BLOCK_PIECES) k n 0 differs ∙ listed_at BLOCK_PIECES (λ j. scan_of d (block_of p) j C) 0 k lt
          ∙ sym (ap (λ t. unwrap_or (if t then first_of (accepted d (block_of p * BLOCK_PIECES + k) C) (Some n) else accepted d (block_of p * BLOCK_PIECES + k) C) 0)
          (other k (λ same. differs (sym (place_is (block_of p) k lt) ∙ ap (λ q. q % BLOCK_PIECES) (sym same)))))
    ])
  where
    now : unwrap_or (accepted d p (Accepted d p n ∷ C)) 0 ≡ n
    now = ap (λ t. unwrap_or (if t then first_of (accepted d p C) (Some n) else accepted d p C) 0) (own_block d p) ∙ ap (λ o. unwrap_or (first_of o (Some n)) 0) none

    other : (k : ℕ) → (p ≡ block_of p * BLOCK_PIECES + k → ⊥) → same_block (d, p) d (block_of p * BLOCK_PIECES + k) ≡ false
    other k apart = elim (cases_Bool (same_block (d, p) d (block_of p * BLOCK_PIECES + k))) [
      | inr isnt ↦ isnt
      | inl own ↦ absurd (apart (ap (λ (x : ℕ × ℕ). x.1) (is_block (d, p) d (block_of p * BLOCK_PIECES + k) own)))
    ]

-- and changes no other block
pub scans_others : (e c d p n : ℕ) (C : List Commit) → same_block (d, block_of p) e c ≡ false → scans_after e c (Accepted d p n ∷ C) ≡ scans_after e c C
scans_others e c d p n C apart =
    listed_same BLOCK_PIECES (λ j. scan_of e c j (Accepted d p n ∷ C)) (λ j. scan_of e c j C)
    (λ j lt. ap (λ t. unwrap_or (if t then first_of (accepted e (c * BLOCK_PIECES + j) C) (Some n) else accepted e (c * BLOCK_PIECES + j) C) 0) (other j lt))
  where
    other : (j : ℕ) → j < BLOCK_PIECES → same_block (d, p) e (c * BLOCK_PIECES + j) ≡ false
    other j lt = elim (cases_Bool (same_block (d, p) e (c * BLOCK_PIECES + j))) [
      | inr isnt ↦ isnt
      | inl own ↦
          let is : pair d p ≡ pair e (c * BLOCK_PIECES + j) = is_block (d, p) e (c * BLOCK_PIECES + j) own in
          let same : same_block (d, block_of p) e c ≡ true =
          (λ i. same_block ((is i).0, block_of (is i).1) e c) ∙ ap (λ b. same_block (e, b) e c) (block_is c j lt) ∙ own_block e c in
          absurd (true≢false (sym same ∙ apart))
    ]
