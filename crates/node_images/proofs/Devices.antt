-- What an image of a device's storage shows, by the newest slot.
use Rattle.std.proofs.Common.{◌≡◌, ℕ, List, Option, Some, None, refl, sym, ◌∙◌, ap, subst}
use Rattle.bench_base.specs.declared.sizes.TheConstants.{RECORD_BYTES, SLOTS}
use Rattle.nv_store.specs.Slot.{Held, slots_at}
use Rattle.nv_store.specs.Store.{cell_shown}
use Rattle.psd_state.specs.State.{State}
use Rattle.psd_state.specs.Payload.{ReadsAs}
use Rattle.psd_device.specs.Shown.{IsHeld, IsShown}
use Rattle.nv_bytes.specs.Newest.{ShowsNone, ShowsHeld}
use Rattle.node_images.proofs.Shown.{one_payload}

module _ (image : List ℕ) where
  pub none_shown : ShowsNone SLOTS (slots_at RECORD_BYTES 0 image) → IsShown 0 None image
  none_shown none = record { held = subst (λ (h : Option Held). IsHeld 0 None h) (sym none.shown) refl; clear = none.clear }

  pub none_back : IsShown 0 None image → ShowsNone SLOTS (slots_at RECORD_BYTES 0 image)
  none_back shown = record { clear = shown.clear; shown = by (cell_shown RECORD_BYTES SLOTS image 0) shown.held }
    where
      by : (h : Option Held) → IsHeld 0 None h → h ≡ None
      by None held = refl
      by (Some h) held = absurd held

  -- without a record any number of commits is shown
  pub none_to : (m n : ℕ) → IsShown m None image → IsShown n None image
  none_to m n shown = record { held = by (cell_shown RECORD_BYTES SLOTS image 0) shown.held; clear = shown.clear }
    where
      by : (h : Option Held) → IsHeld m None h → IsHeld n None h
      by None held = held
      by (Some h) held = absurd held

  pub record_shown : (count : ℕ) (s : State) (payload : List ℕ) → ShowsHeld SLOTS (slots_at RECORD_BYTES 0 image) (count, payload) → ReadsAs payload s
      → IsShown count (Some s) image
  record_shown count s payload shows reads = record {
    held = subst (λ (h : Option Held). IsHeld count (Some s) h) (sym shows.shown) (refl, reads);
    clear = shows.clear;
  }

  -- the payload that it shows
  pub record Payload (count : ℕ) (s : State) : Type 0 where
    pub bytes : List ℕ
    pub shows : ShowsHeld SLOTS (slots_at RECORD_BYTES 0 image) (count, bytes)
    pub reads : ReadsAs bytes s

  pub record_back : (count : ℕ) (s : State) → IsShown count (Some s) image → Payload count s
  record_back count s shown = by (cell_shown RECORD_BYTES SLOTS image 0) refl shown.held
    where
      held_as : (h : Held) → h.0 ≡ count → ◌≡◌ {A = Option Held} (Some h) (Some (count, h.1))
      held_as h same = ap (λ (n : ℕ). with_payload n h.1) same
        where
          with_payload : ℕ → List ℕ → Option Held
          with_payload n p = Some (n, p)

      differs : ◌≡◌ {A = Option State} (Some s) None → ⊥
      differs e = cc e

      by : (h : Option Held) → cell_shown RECORD_BYTES SLOTS image 0 ≡ h → IsHeld count (Some s) h → Payload count s
      by None is held = absurd (differs held)
      by (Some h) is held = record { bytes = h.1; shows = record { clear = shown.clear; shown = is ∙ held_as h held.0 }; reads = held.1 }

  pub record_there : (count : ℕ) (s : State) (payload : List ℕ) → ShowsHeld SLOTS (slots_at RECORD_BYTES 0 image) (count, payload) → IsShown count (Some s) image
      → ReadsAs payload s
  record_there count s payload shows shown =
      let back = record_back count s shown in
      subst (λ (p : List ℕ). ReadsAs p s) (one_payload SLOTS (slots_at RECORD_BYTES 0 image) count back.bytes payload back.shows shows) back.reads
