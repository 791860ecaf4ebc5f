-- What the payloads of the cells read as.
use Rattle.std.proofs.Common.{◌≡◌, ◌↔◌, inl, inr, ℕ, zero, suc, ◌+◌, ◌-◌, ◌<◌, ◌≤◌, List, get_or, set, replicate, option_map, Option, Some, None, Bool, true, false, refl, sym, ap, ap₂, subst, ◌∙◌, arith, true≢false}
use Rattle.std.specs.Prelude.{is_some, IsSome, IfSome, MatchBool, MatchOption, if◌then◌else◌}
use Rattle.std.proofs.lemmas.Bool.{cases_lt}
use Rattle.std.proofs.lemmas.Option.{same_Some}
use Rattle.bench_base.specs.declared.sizes.TheConstants.{MOST_COMMITS, VERIFIER_CELLS, FIRST_BLOCK, BLOCK_PIECES}
use Rattle.bench_base.proofs.Facts.{some_none}
use Rattle.node_acts.specs.RowList.{row_at}
use Rattle.nv_store.specs.Slot.{Held}
use Rattle.nv_store.specs.Store.{count_of, payload_of}
use Rattle.row_node.specs.Kept.{IsFilled, with_count, seen_at}
use Rattle.verifier.specs.declared.acts.Change.TheVariants as change
use Rattle.verifier.specs.ActLaws.{IsFit}
use Rattle.verifier.specs.Payload.{block_bytes, word_at, key_of, scans_of, scans_before, no_scans, row_of, RowReadsAs, IsPayloadOf}
use Rattle.verifier.specs.Rows.{Row, TrustRow, BlockRow}
use Rattle.verifier.specs.Seen.{row_in, key_in, scans_in, scan_shown, key_at, row_with, IsRowAt}
use Rattle.verifier.proofs.Basics.{trust_low, block_high}
use Rattle.verifier.proofs.Cells.{key_in_cell}
use Rattle.verifier.proofs.Fits.{here}
use Rattle.verifier.proofs.Laid.{trust_parts, block_parts}
use Rattle.verifier_node.specs.Payloads.{rows_held, seen_held, HoldRows}
use Rattle.verifier_node.specs.Held.{held_long, held_row, held_each}
use Rattle.verifier_node.specs.Boots.{CellRead, HasForeign}

abbrev zeros : ℕ → List ℕ
zeros n = replicate n 0

abbrev by_cell : Bool → List ℕ → Row
by_cell t payload = if t then TrustRow (word_at 0 payload) (key_of payload) else BlockRow (word_at 0 payload) (word_at 1 payload) (scans_of payload)

pub trust_row : (k : ℕ) (payload : List ℕ) → k < FIRST_BLOCK → row_of k payload ≡ TrustRow (word_at 0 payload) (key_of payload)
trust_row k payload lt = ap (λ t. by_cell t payload) (trust_low k lt)

pub block_row : (k : ℕ) (payload : List ℕ) → FIRST_BLOCK ≤ k → row_of k payload ≡ BlockRow (word_at 0 payload) (word_at 1 payload) (scans_of payload)
block_row k payload le = ap (λ t. by_cell t payload) (block_high k le)

-- == whether a payload reads as a row of its cell ==

pub reads_trust : (k d : ℕ) (payload : List ℕ) (t : Bool) → d ≡ k + 1 → k < FIRST_BLOCK → MatchBool t (RowReadsAs (TrustRow d (key_of payload)) payload) ((key : List ℕ) → RowReadsAs (TrustRow d key) payload → ⊥)
    → MatchBool t (IsPayloadOf k (row_of k payload) payload) ((x : Row) → IsPayloadOf k x payload → ⊥)
reads_trust k d payload true is lt found =
    let row : row_of k payload ≡ TrustRow d (key_of payload) = trust_row k payload lt ∙ ap (λ e. TrustRow e (key_of payload)) (trust_parts d (key_of payload) payload found).0 in
    subst (λ x. IsPayloadOf k x payload) (sym row) (record { place = (is, lt); row = found })
reads_trust k d payload false is lt none = by
  where
    by : (x : Row) → IsPayloadOf k x payload → ⊥
    by (TrustRow e key) reads = none key (subst (λ (n : ℕ). RowReadsAs (TrustRow n key) payload) (reads.place.0 ∙ sym is) reads.row)
    by (BlockRow e b scans) reads = omega (arith, reads.place, lt)

pub reads_block : (k : ℕ) (payload : List ℕ) (o : Option (ℕ × ℕ)) (t : Bool) → t ≡ is_some o → FIRST_BLOCK ≤ k
    → MatchOption o ((d b : ℕ) (scans : List ℕ) → RowReadsAs (BlockRow d b scans) payload → ⊥) (λ x. RowReadsAs (BlockRow x.0 x.1 (scans_of payload)) payload)
    → MatchBool t (IsPayloadOf k (row_of k payload) payload) ((x : Row) → IsPayloadOf k x payload → ⊥)
reads_block k payload None t is le none = subst (λ u. MatchBool u (IsPayloadOf k (row_of k payload) payload) ((x : Row) → IsPayloadOf k x payload → ⊥)) (sym is) by
  where
    by : (x : Row) → IsPayloadOf k x payload → ⊥
    by (TrustRow e key) reads = omega (arith, reads.place.1, le)
    by (BlockRow e b scans) reads = none e b scans reads.row
reads_block k payload (Some x) t is le found =
    let parts = block_parts x.0 x.1 (scans_of payload) payload found in
    let row : row_of k payload ≡ BlockRow x.0 x.1 (scans_of payload) = block_row k payload le ∙ ap₂ (λ d b. BlockRow d b (scans_of payload)) parts.0 parts.1 in
    subst (λ u. MatchBool u (IsPayloadOf k (row_of k payload) payload) ((y : Row) → IsPayloadOf k y payload → ⊥)) (sym is)
    (subst (λ y. IsPayloadOf k y payload) (sym row) (record { place = le; row = found }))

-- a cell with a payload
pub read_cell : (held : ℕ → Option Held) (k : ℕ) (payload : List ℕ) (t : Bool) → Some payload ≡ payload_of (held k) → count_of (held k) ≤ MOST_COMMITS → k < VERIFIER_CELLS
    → MatchBool t (IsPayloadOf k (row_of k payload) payload) ((x : Row) → IsPayloadOf k x payload → ⊥) → MatchBool t (CellRead held k) (HasForeign held)
read_cell held k payload t has few lt = by (held k) refl t
  where
    by : (h : Option Held) → held k ≡ h → (t : Bool) → MatchBool t (IsPayloadOf k (row_of k payload) payload) ((x : Row) → IsPayloadOf k x payload → ⊥) → MatchBool t (CellRead held k) (HasForeign held)
    by None is t found = absurd (some_none (has ∙ ap payload_of is))
    by (Some h) is true found =
        let own : payload ≡ h.1 = same_Some _ _ (has ∙ ap payload_of is) in
        record {
          filled = subst (λ (o : Option Held). IsFilled (IsPayloadOf k) (option_map (row_of k) (payload_of o)) o) (sym is) (subst (λ (p : List ℕ). IsPayloadOf k (row_of k p) p) own found);
          few = few;
        }
    by (Some h) is false none = record {
      cell = k;
      kept = h;
      inside = lt;
      is = is;
      reads_none = λ x reads. none x (subst (λ (p : List ℕ). IsPayloadOf k x p) (sym (same_Some _ _ (has ∙ ap payload_of is))) reads);
    }

-- a blank cell
pub blank_cell : (held : ℕ → Option Held) (k : ℕ) → None ≡ payload_of (held k) → count_of (held k) ≤ MOST_COMMITS → CellRead held k
blank_cell held k has few = by (held k) refl
  where
    by : (h : Option Held) → held k ≡ h → CellRead held k
    by None is = record { filled = subst (λ (o : Option Held). IsFilled (IsPayloadOf k) (option_map (row_of k) (payload_of o)) o) (sym is) tt; few = few }
    by (Some h) is = absurd (some_none (sym (ap payload_of is) ∙ sym has))

-- == what is seen by the payloads ==

pub payload_none : (h : Option Held) → None ≡ payload_of h → h ≡ None
payload_none None is = refl
payload_none (Some h) is = absurd (some_none (sym is))

module _ (held : ℕ → Option Held) (filled : HoldRows held) where
  -- a key
  trust_key : (k : ℕ) (o : Option (List ℕ)) → k < FIRST_BLOCK → key_in (option_map (row_of k) o) ≡ option_map key_of o
  trust_key k None lt = refl
  trust_key k (Some payload) lt = ap (λ r. key_in (Some r)) (trust_row k payload lt)

  pub key_held : (d : ℕ) → 1 ≤ d → d ≤ FIRST_BLOCK → key_at (seen_held held) d ≡ option_map key_of (payload_of (held (d - 1)))
  key_held d low high =
      key_in_cell (seen_held held) d low ∙ ap (λ o. key_in o) (held_row held filled (d - 1) (omega (arith, high)))
      ∙ trust_key (d - 1) (payload_of (held (d - 1))) (omega (arith, low, high))

  no_key : (k : ℕ) (o : Option Row) → FIRST_BLOCK ≤ k → IfSome o (IsRowAt k) → key_in o ≡ None
  no_key k None le row = refl
  no_key k (Some (TrustRow e key)) le row = absurd (omega (arith, le, row.place.1))
  no_key k (Some (BlockRow e b scans)) le row = refl

  pub key_high : (d : ℕ) → FIRST_BLOCK < d → key_at (seen_held held) d ≡ None
  key_high d high = key_in_cell (seen_held held) d (omega (arith, high)) ∙ no_key (d - 1) (row_in (seen_held held) (d - 1)) (omega (arith, high)) (held_each held filled (d - 1))

  -- a block
  pub block_held : (k : ℕ) (payload : List ℕ) → FIRST_BLOCK ≤ k → k < VERIFIER_CELLS → Some payload ≡ payload_of (held k)
      → row_in (seen_held held) k ≡ Some (BlockRow (word_at 0 payload) (word_at 1 payload) (scans_of payload))
  block_held k payload le lt has = held_row held filled k lt ∙ ap (option_map (row_of k)) (sym has) ∙ ap (λ r. Some r) (block_row k payload le)

  block_scans : (k : ℕ) (o : Option (List ℕ)) → FIRST_BLOCK ≤ k → scans_in (option_map (row_of k) o) ≡ scans_before o
  block_scans k None le = refl
  block_scans k (Some payload) le = ap (λ r. scans_in (Some r)) (block_row k payload le)

  pub scans_held : (k : ℕ) → FIRST_BLOCK ≤ k → k < VERIFIER_CELLS → scans_in (row_in (seen_held held) k) ≡ scans_before (payload_of (held k))
  scans_held k le lt = ap (λ o. scans_in o) (held_row held filled k lt) ∙ block_scans k (payload_of (held k)) le

  -- whether a cell is blank
  counted : (h : Option Held) (o : Option Row) → IsFilled (λ x p. Unit {0}) o h → is_some (with_count h o) ≡ is_some h
  counted None o fits = refl
  counted (Some h) None fits = absurd fits
  counted (Some h) (Some x) fits = refl

  loose : (k : ℕ) (o : Option Row) (h : Option Held) → IsFilled (IsPayloadOf k) o h → IsFilled (λ x p. Unit {0}) o h
  loose k None None fits = tt
  loose k None (Some h) fits = fits
  loose k (Some x) None fits = fits
  loose k (Some x) (Some h) fits = tt

  pub seen_some : (k : ℕ) → k < VERIFIER_CELLS → is_some (row_at (seen_held held) k) ≡ is_some (held k)
  seen_some k lt =
      ap is_some (seen_at VERIFIER_CELLS IsPayloadOf (rows_held held) held k lt) ∙ counted (held k) (rows_held held k) (loose k (rows_held held k) (held k) (filled k lt))

zeros_at : (n k : ℕ) → get_or (zeros n) k 0 ≡ 0
zeros_at zero k = refl
zeros_at (suc n) zero = refl
zeros_at (suc n) (suc k) = zeros_at n k

pub no_scan_at : (place : ℕ) → None ≡ scan_shown (get_or no_scans place 0)
unfolding no_scans
no_scan_at place = sym (ap scan_shown (zeros_at BLOCK_PIECES place))

-- a cell that is no device's
pub behind_eight : (k : ℕ) (o : Option ℕ) → o ≡ None → (IsSome o ↔ ((1 ≤ k + 1) × (k + 1 ≤ 8))) → FIRST_BLOCK ≤ k
behind_eight k o none valid = elim (cases_lt k 8) [
  | inr le ↦ le
  | inl lt ↦ absurd (true≢false (sym (valid.1 (omega arith, omega (arith, lt))) ∙ ap is_some none))
]

-- == the payload that a scan leaves ==

pub accept_reads : (held : ℕ → Option Held) (filled : HoldRows held) (cell d b place n : ℕ) (bytes : List ℕ) → IsFit (seen_held held) (change.Accept cell d b place n)
    → bytes ≡ block_bytes d b (set (scans_before (payload_of (held cell))) place n) → RowReadsAs (row_with (seen_held held) (change.Accept cell d b place n)) bytes
accept_reads held filled cell d b place n bytes fits made = record {
  sound = own.sound;
  reads = ap (λ l. block_bytes d b (set l place n)) (scans_held held filled cell own.place fits.inside) ∙ sym made;
}
  where
    row : Row
    row = row_with (seen_held held) (change.Accept cell d b place n)

    own : IsRowAt cell (row_with (seen_held held) (change.Accept cell d b place n))
    own = subst (λ (o : Option Row). IfSome o (IsRowAt cell)) (here (seen_held held) cell (row_with (seen_held held) (change.Accept cell d b place n)) (omega (arith, fits.inside, held_long held))) (fits.sound.each cell)
