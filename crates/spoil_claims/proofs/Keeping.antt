-- The claims that a desk keeps: what is read of them, and what a commit makes of them.
use Rattle.std.proofs.Common.{◌≡◌, ◌≢◌, inl, inr, ℕ, zero, suc, ◌+◌, ◌-◌, ◌<◌, ◌≤◌, [], ◌∷◌, length, take, Option, Some, None, Bool, true, false, not, refl, sym, ap, ◌∙◌, subst, arith, true≢false}
use Rattle.std.specs.Prelude.{IfSome, IsOk, IsSome, is_some, option_map, sum_by}
use Rattle.std.proofs.lemmas.Bool.{cases_eq, cases_lt}
use Rattle.std.proofs.lemmas.List.{get_or_past, take_all}
use Rattle.std.proofs.lemmas.List.Sums.{sum_by-cons}
use Rattle.indicium.specs.Marks.{read_mark}
use Rattle.nv_store.specs.Slot.{Held}
use Rattle.nv_store.specs.Store.{payload_of}
use Rattle.node_acts.specs.RowList.{row_of, put}
use Rattle.node_acts.specs.RowLaws.{put_here, put_other}
use Rattle.row_node.specs.Kept.{seen_long}
use Rattle.row_store.specs.Seen.{ReadsAs, row_held, AllRead, seen_in}
use Rattle.row_store.proofs.Kept.{row_read, some_held}
use Rattle.spoil_claims.specs.Claims.{Claims, claim_at, kept, HasNoGaps, one_in, last_claim, credit_of, credits}
use Rattle.spoil_claims.specs.Payload.{decoded, IsFit}
use Rattle.spoil_claims.specs.Waits.{IsStored}
use Rattle.spoil_claims.specs.declared.{claim.ClaimRow.ClaimRow, claim.TheConstants.CLAIM_CELLS}
use Rattle.spoil_claims.proofs.Payloads.{decoded_fits}

-- == what is read ==

module _ (cells : ℕ) (held : ℕ → Option Held) where
  pub rows_long : length (seen_in decoded cells held) ≡ cells
  rows_long = seen_long cells (ReadsAs decoded) (λ j. row_held decoded j (held j)) held

  -- past the last cell there is no claim
  pub kept_past : (c : ℕ) → cells < c → None ≡ kept (seen_in decoded cells held) c
  kept_past c past = ap (λ o. row_of o) (sym (get_or_past (seen_in decoded cells held) (c - 1) None (omega (arith, past, rows_long))))

  pub kept_inside : (c : ℕ) → IsSome (kept (seen_in decoded cells held) c) → c ≤ cells
  kept_inside c some = elim (cases_lt cells c) [
    | inl past ↦ absurd (true≢false (sym some ∙ ap (λ (o : Option ClaimRow). is_some o) (sym (kept_past c past))))
    | inr le ↦ le
  ]

  -- a claim that is kept lies in its cell
  pub here_by : AllRead decoded cells held → cells ≡ CLAIM_CELLS → (c : ℕ) → 1 ≤ c → c ≤ CLAIM_CELLS → (o : Option ClaimRow) → o ≡ kept (seen_in decoded cells held) c
      → IfSome o (λ x. (x.claim ≡ c) × IsStored (seen_in decoded cells held) x)
  here_by read all c first last None is = tt
  here_by read all c first last (Some x) is =
      let lt : c - 1 < cells = omega (arith, first, last, all) in
      let payload = row_read decoded cells held read (c - 1) lt x (sym is) in
      let fits : IsFit (c - 1) x = decoded_fits (c - 1) payload.0 x payload.1 in
      let number : x.claim ≡ c = fits.number ∙ omega (arith, first) in (
        number,
        record {
          first = omega (arith, number, first);
          last = omega (arith, number, last);
          fits = subst (λ (n : ℕ). IsFit (n - 1) x) (sym number) fits;
          here = ap (λ (n : ℕ). kept (seen_in decoded cells held) n) number ∙ sym is;
        },
      )

-- == how many there are, and their sum ==

module _ (rows : Claims) where
  abbrev pub counted_to : ℕ → ℕ
  counted_to k = sum_by (λ o. one_in (row_of o)) (take k rows)

  abbrev pub summed_to : ℕ → ℕ → ℕ
  summed_to w k = sum_by (λ o. credit_of w (row_of o)) (take k rows)

  pub counted_all : (k : ℕ) → length rows ≤ k → counted_to k ≡ last_claim rows
  counted_all k le = ap (λ (l : Claims). sum_by (λ o. one_in (row_of o)) l) (take_all k rows le)

  pub summed_all : (w k : ℕ) → length rows ≤ k → summed_to w k ≡ credits w rows
  summed_all w k le = ap (λ (l : Claims). sum_by (λ o. credit_of w (row_of o)) l) (take_all k rows le)

pub one_some : (o : Option ClaimRow) → is_some o ≡ true → one_in o ≡ 1
one_some None is = absurd (true≢false (sym is))
one_some (Some x) is = refl

pub one_none : (o : Option ClaimRow) → is_some o ≡ false → one_in o ≡ 0
one_none None is = refl
one_none (Some x) is = absurd (true≢false is)

-- == a commit ==

module _ (rows : Claims) (cell : ℕ) (x : ClaimRow) (lt : cell < length rows) where
  pub put_claim : claim_at (put rows cell x) cell ≡ Some x
  put_claim = ap (λ o. row_of o) (put_here rows cell x lt)

  put_else : (k : ℕ) → k ≢ cell → claim_at (put rows cell x) k ≡ claim_at rows k
  put_else k differs = ap (λ o. row_of o) (put_other rows cell x k differs)

  -- what is kept stays kept
  pub still_some : (k : ℕ) → IsSome (claim_at rows k) → IsSome (claim_at (put rows cell x) k)
  still_some k some = elim (cases_eq k cell) [
    | inl is ↦ ap (λ (o : Option ClaimRow). is_some o) (ap (λ (j : ℕ). claim_at (put rows cell x) j) is ∙ put_claim)
    | inr differs ↦ ap (λ (o : Option ClaimRow). is_some o) (put_else k differs) ∙ some
  ]

  -- no gap appears if the cell before it has a claim
  pub put_packed : HasNoGaps rows → ((k : ℕ) → k + 1 ≡ cell → IsSome (claim_at rows k)) → HasNoGaps (put rows cell x)
  put_packed packed before k some = elim (cases_eq (k + 1) cell) [
    | inl is ↦ still_some k (before k is)
    | inr differs ↦ still_some k (packed k (sym (ap (λ (o : Option ClaimRow). is_some o) (put_else (k + 1) differs)) ∙ some))
  ]

-- a claim in its cell is committed again
pub again_packed : (rows : Claims) (x y : ClaimRow) → HasNoGaps rows → IsStored rows y → x.claim ≡ y.claim → y.claim - 1 < length rows → HasNoGaps (put rows (x.claim - 1) x)
again_packed rows x y packed is same lt =
    put_packed rows (x.claim - 1) x (omega (arith, same, lt)) packed
    (λ k next. packed k (ap (λ (n : ℕ). is_some (claim_at rows n)) (next ∙ ap (λ (n : ℕ). n - 1) same) ∙ ap (λ (o : Option ClaimRow). is_some o) is.here))

-- == the next claim ==

rest_packed : (o : Option (ℕ × ClaimRow)) (rows : Claims) → HasNoGaps (o ∷ rows) → HasNoGaps rows
rest_packed o rows packed k some = packed (suc k) (subst (λ (n : ℕ). IsSome (claim_at (o ∷ rows) n)) (next k) some)
  where
    next : (j : ℕ) → suc (j + 1) ≡ suc j + 1
    next j = omega arith

none_next : (o : Option (ℕ × ClaimRow)) (rows : Claims) → HasNoGaps (o ∷ rows) → is_some (row_of o) ≡ false → (b : Bool) → is_some (claim_at rows 0) ≡ b → is_some (claim_at rows 0) ≡ false
none_next o rows packed none false is = is
none_next o rows packed none true is = absurd (true≢false (sym (packed 0 is) ∙ none))

none_behind : (rows : Claims) → HasNoGaps rows → is_some (claim_at rows 0) ≡ false → last_claim rows ≡ 0
none_behind [] packed none = refl
none_behind (o ∷ rows) packed none =
    let tail : last_claim rows ≡ 0 = none_behind rows (rest_packed o rows packed) (none_next o rows packed none (is_some (claim_at rows 0)) refl) in
    sum_by-cons (λ o. one_in (row_of o)) o rows ∙ omega (arith, one_none (row_of o) none, tail)

by_first : (o : Option (ℕ × ClaimRow)) (rows : Claims) → HasNoGaps (o ∷ rows) → ((j : ℕ) → j < last_claim rows → IsSome (claim_at rows j)) → (b : Bool) → is_some (row_of o) ≡ b
    → (k : ℕ) → k < last_claim (o ∷ rows) → IsSome (claim_at (o ∷ rows) k)
by_first o rows packed rest false none k lt = absurd (omega (arith, lt, none_behind (o ∷ rows) packed none))
by_first o rows packed rest true some zero lt = some
by_first o rows packed rest true some (suc k) lt = rest k (omega (arith, lt, sum_by-cons (λ o. one_in (row_of o)) o rows, one_some (row_of o) some))

-- without gaps, each number up to the last claim is kept
pub below_last : (rows : Claims) → HasNoGaps rows → (k : ℕ) → k < last_claim rows → IsSome (claim_at rows k)
below_last [] packed k lt = absurd (omega (arith, lt))
below_last (o ∷ rows) packed k lt = by_first o rows packed (below_last rows (rest_packed o rows packed)) (is_some (row_of o)) refl k lt

-- the next claim is committed to the cell after the last one
pub next_packed : (rows : Claims) (x : ClaimRow) → HasNoGaps rows → x.claim ≡ last_claim rows + 1 → x.claim - 1 < length rows → HasNoGaps (put rows (x.claim - 1) x)
next_packed rows x packed next lt = put_packed rows (x.claim - 1) x lt packed (λ k is. below_last rows packed k (omega (arith, is, next)))

-- the mark of a claim that was read reads
pub mark_reads : (cells : ℕ) (held : ℕ → Option Held) → AllRead decoded cells held → (k : ℕ) → k < cells → (x : ClaimRow) → Some x ≡ claim_at (seen_in decoded cells held) k → IsOk (read_mark x.mark)
mark_reads cells held read k lt x is = let payload = row_read decoded cells held read k lt x (sym is) in (decoded_fits k payload.0 x payload.1).reads

-- == whether claims lie without gaps ==

module _ {A B : Type 0} (f : A → B) where
  map_some : (o : Option A) → is_some (option_map f o) ≡ is_some o
  map_some None = refl
  map_some (Some x) = refl

  -- of what was read of a cell, by a test
  pub some_by : (o : Option A) (p : Option B) (b c : Bool) → option_map f o ≡ p → b ≡ is_some o → b ≡ c → is_some p ≡ c
  some_by o p b c read test is = ap (λ (x : Option B). is_some x) (sym read) ∙ map_some o ∙ sym test ∙ is

  pub some_by_not : (o : Option A) (p : Option B) (b c : Bool) → option_map f o ≡ p → is_some o ≡ not b → b ≡ c → is_some p ≡ not c
  some_by_not o p b c read test is = ap (λ (x : Option B). is_some x) (sym read) ∙ map_some o ∙ test ∙ ap (λ (x : Bool). not x) is

module _ (cells : ℕ) (held : ℕ → Option Held) (read : AllRead decoded cells held) where
  claim_held : (k : ℕ) → k < cells → is_some (claim_at (seen_in decoded cells held) k) ≡ is_some (payload_of (held k))
  claim_held k lt = some_held decoded cells held read k lt

  claim_inside : (k : ℕ) → IsSome (claim_at (seen_in decoded cells held) k) → k < cells
  claim_inside k some = elim (cases_lt k cells) [
    | inl lt ↦ lt
    | inr past ↦
        let none : claim_at (seen_in decoded cells held) k ≡ None = ap (λ o. row_of o) (get_or_past (seen_in decoded cells held) k None (omega (arith, past, rows_long cells held))) in
        absurd (true≢false (sym some ∙ ap (λ (o : Option ClaimRow). is_some o) none))
  ]

  pub all_packed : ((k : ℕ) → k + 1 < cells → IsSome (payload_of (held (k + 1))) → IsSome (payload_of (held k))) → HasNoGaps (seen_in decoded cells held)
  all_packed each k some =
      let lt = claim_inside (k + 1) some in
      claim_held k (omega (arith, lt)) ∙ each k lt (sym (claim_held (k + 1) lt) ∙ some)

  pub gap_found : (cell : ℕ) → 1 ≤ cell → cell < cells → IsSome (payload_of (held cell)) → is_some (payload_of (held (cell - 1))) ≡ false → HasNoGaps (seen_in decoded cells held) → ⊥
  gap_found cell first lt some none packed =
      let next : cell - 1 + 1 ≡ cell = omega (arith, first) in
      let here : IsSome (claim_at (seen_in decoded cells held) (cell - 1 + 1)) =
      ap (λ (n : ℕ). is_some (claim_at (seen_in decoded cells held) n)) next ∙ claim_held cell lt ∙ some in
      true≢false (sym (packed (cell - 1) here) ∙ claim_held (cell - 1) (omega (arith, lt)) ∙ none)
