-- What a cell shows, by its newest slot.
use Rattle.std.proofs.Common.{◌≡◌, ℕ, List, Option, Some, None, refl, sym, ◌∙◌, ap, subst}
use Rattle.nv_store.specs.Slot.{Held, slots_at, current}
use Rattle.row_node.specs.Shows.{IsHeldAs}
use Rattle.nv_bytes.specs.Newest.{ShowsNone, ShowsHeld}
use Rattle.node_images.specs.Cells.{ShowsCell}

payload_same : (a b : Held) → ◌≡◌ {A = Option Held} (Some a) (Some b) → a.1 ≡ b.1
payload_same a b is = cc is

-- a cell shows one payload
pub one_payload : (n : ℕ) (slots : ℕ → Option Held) (count : ℕ) (p q : List ℕ) → ShowsHeld n slots (count, p) → ShowsHeld n slots (count, q) → p ≡ q
one_payload n slots count p q a b = payload_same (count, p) (count, q) (sym a.shown ∙ b.shown)

module _ {R : Type 0} (size : ℕ) (reads : R → List ℕ → Type 0) (cell : List ℕ) where
  pub none_held : ShowsNone 2 (slots_at size 0 cell) → ShowsCell size reads None cell
  none_held none = record { held = subst (λ (h : Option Held). IsHeldAs reads None h) (sym none.shown) tt; clear = none.clear }

  pub none_back : ShowsCell size reads None cell → ShowsNone 2 (slots_at size 0 cell)
  none_back shown = record { clear = shown.clear; shown = by (current 2 (slots_at size 0 cell)) shown.held }
    where
      by : (h : Option Held) → IsHeldAs reads None h → h ≡ None
      by None held = refl
      by (Some h) held = absurd held

  pub row_held : (count : ℕ) (x : R) (payload : List ℕ) → ShowsHeld 2 (slots_at size 0 cell) (count, payload) → reads x payload
      → ShowsCell size reads (Some (count, x)) cell
  row_held count x payload shows row = record {
    held = subst (λ (h : Option Held). IsHeldAs reads (Some (count, x)) h) (sym shows.shown) (refl, row);
    clear = shows.clear;
  }

  -- the payload that it shows
  pub record Payload (count : ℕ) (x : R) : Type 0 where
    pub bytes : List ℕ
    pub shows : ShowsHeld 2 (slots_at size 0 cell) (count, bytes)
    pub row : reads x bytes

  pub row_back : (count : ℕ) (x : R) → ShowsCell size reads (Some (count, x)) cell → Payload count x
  row_back count x shown = by (current 2 (slots_at size 0 cell)) refl shown.held
    where
      held_as : (h : Held) → h.0 ≡ count → ◌≡◌ {A = Option Held} (Some h) (Some (count, h.1))
      held_as h same = ap (λ (n : ℕ). with_payload n h.1) same
        where
          with_payload : ℕ → List ℕ → Option Held
          with_payload n p = Some (n, p)

      by : (h : Option Held) → current 2 (slots_at size 0 cell) ≡ h → IsHeldAs reads (Some (count, x)) h → Payload count x
      by None is held = absurd held
      by (Some h) is held = record { bytes = h.1; shows = record { clear = shown.clear; shown = is ∙ held_as h held.0 }; row = held.1 }

  -- where the cell shows this payload, it shows the row only if that reads as it
  pub row_there : (count : ℕ) (x : R) (payload : List ℕ) → ShowsHeld 2 (slots_at size 0 cell) (count, payload) → ShowsCell size reads (Some (count, x)) cell
      → reads x payload
  row_there count x payload shows shown =
      let back = row_back count x shown in
      subst (λ (p : List ℕ). reads x p) (one_payload 2 (slots_at size 0 cell) count back.bytes payload back.shows shows) back.row
