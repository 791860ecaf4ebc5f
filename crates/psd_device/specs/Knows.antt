-- What a device that is on knows of its storage, and what holds of each.
use Rattle.std.proofs.Common.{◌≡◌, ◌↔◌, ◌<◌, ℕ, List, Option, Some, None, IfSome, sum, true, refl, sym, ◌∙◌, subst, arith, inl, inr, ap}
use Rattle.std.proofs.lemmas.Bool.{cases_eq, ne_eqb}
use Rattle.bench_base.specs.declared.sizes.TheConstants.{RECORD_BYTES, SLOTS, DEVICE_BYTES}
use Rattle.nv_model.specs.declared.nv.Nv.{Ghosts}
use Rattle.nv_model.specs.Moments.{Image}
use Rattle.nv_store.specs.Slot.{Held, slots_at}
use Rattle.nv_store.specs.Cells.{Top}
use Rattle.nv_store.specs.declared.head.Head.{Head}
use Rattle.nv_store.specs.Store.{one_held, cell_shown, Shows}
use Rattle.nv_store.specs.Knows.{holds_shows, none_held, some_held}
use Rattle.psd_state.specs.State.{State}
use Rattle.psd_state.proofs.Parted.{one_reading}
use Rattle.psd_device.specs.Shown.{IsHeld, IsShown, IsStorable, ShowsSeen, OnlyShown}
use Rattle.psd_device.specs.Sound.{IsCurrent}
use Rattle.nv_ring.specs.Turns.{slot_after, start_of}
use Rattle.psd_device.specs.NodeView.{storage_in, seen_in, is_on}
use Rattle.psd_device.specs.declared.node.DeviceNode.{DeviceNode}

-- the cell, by what it holds
pub shown_as : (count : ℕ) (s : Option State) (held : Option Held) (image : List ℕ) → IsHeld count s held
    → Shows RECORD_BYTES SLOTS 1 (λ k. held) image → IsShown count s image
shown_as count s held image is shows = record { held = subst (IsHeld count s) (sym (shows.each 0 (omega arith))) is; clear = shows.clear 0 (omega arith) }

-- blank is a device with no commits
pub blank_held : (count : ℕ) (payload : List ℕ) (o : Option State) → IsHeld count o (one_held count payload) → (count ≡ 0) ↔ (o ≡ None)
blank_held count payload None is = let both : (count ≡ 0 → ◌≡◌ {A = Option State} None None)
    × (◌≡◌ {A = Option State} None None → count ≡ 0) = (λ none. refl, λ none. no_count) in both
  where
    no_count : count ≡ 0
    no_count = elim (cases_eq count 0) [
      | inl none ↦ none
      | inr some ↦ absurd (subst (IsHeld count None) (some_held count payload (omega arith)) is)
    ]
blank_held count payload (Some s) is = let both : (count ≡ 0 → ◌≡◌ {A = Option State} (Some s) None)
    × (◌≡◌ {A = Option State} (Some s) None → count ≡ 0) = (
      λ none. absurd
          (differs (subst (IsHeld count (Some s)) (none_held count payload none) is)),
      λ none. cc,
    ) in both
  where
    differs : ◌≡◌ {A = Option State} (Some s) None → ⊥
    differs e = cc

-- of each record, if there is one
if_some : {A : Type 0} (P : A → Type 0) (o : Option A) → ((x : A) → o ≡ Some x → P x) → IfSome o P
if_some P None each = tt
if_some P (Some x) each = each x refl

-- the slot of the newest commit is the current one
pub current_at : (slot count : ℕ) (payload content : List ℕ) → Shows RECORD_BYTES SLOTS 1 (λ k. one_held count payload) content
    → (0 < count → Top SLOTS (slots_at RECORD_BYTES 0 content) slot (count, payload)) → IsCurrent slot content
current_at slot count payload content shows top held is =
    let shown : one_held count payload ≡ Some held = sym (shows.each 0 (omega arith)) ∙ is in
    elim (cases_eq count 0) [
      | inl none ↦ absurd (differs held (sym (none_held count payload none) ∙ shown))
      | inr some ↦ subst (λ (h : Held). Top SLOTS (slots_at RECORD_BYTES 0 content) slot h)
          (same held (sym (some_held count payload (omega arith)) ∙ shown)) (top (omega arith))
    ]
  where
    differs : (h : Held) → None ≡ Some h → ⊥
    differs h e = cc

    same : (h : Held) → ◌≡◌ {A = Option Held} (Some (count, payload)) (Some h) → ◌≡◌ {A = Held} (count, payload) h
    same h e = cc

-- and the one from which a boot counts wear
pub booted_at : (head : Head) (payload content : List ℕ) → Shows RECORD_BYTES SLOTS 1 (λ k. one_held head.count payload) content
    → (0 < head.count → Top SLOTS (slots_at RECORD_BYTES 0 content) head.place (head.count, payload)) → IsCurrent (start_of head) content
booted_at head payload content shows top = current_at (start_of head) head.count payload content shows
    (λ some. subst (λ (p : ℕ). Top SLOTS (slots_at RECORD_BYTES 0 content) p (head.count, payload)) (sym (start some)) (top some))
  where
    start : 0 < head.count → start_of head ≡ head.place
    start some = rw (ne_eqb head.count 0 (λ (none : head.count ≡ 0). omega arith)) refl

-- an image shows one number of commits and one record
pub one_shown : (a b : ℕ) (o p : Option State) (image : List ℕ) → (a ≡ 0) ↔ (o ≡ None) → (b ≡ 0) ↔ (p ≡ None) → IsShown a o image → IsShown b p image
    → (a ≡ b) × (o ≡ p)
one_shown a b o p image blank blank' shows shows' = by_held (cell_shown RECORD_BYTES SLOTS image 0) o p blank blank' shows.held shows'.held
  where
    by_held : (h : Option Held) (o p : Option State) → (a ≡ 0) ↔ (o ≡ None) → (b ≡ 0) ↔ (p ≡ None) → IsHeld a o h → IsHeld b p h → (a ≡ b) × (o ≡ p)
    by_held None o p blank blank' none none' = (blank.1 none ∙ sym (blank'.1 none'), none ∙ sym none')
    by_held (Some h) None p blank blank' held held' = absurd held
    by_held (Some h) (Some s) None blank blank' held held' = absurd held'
    by_held (Some h) (Some s) (Some t) blank blank' held held' =
        (sym held.0 ∙ held'.0, ap (λ (x : State). Some x) (one_reading h.1 s t held.1 held'.1))

module _ {N : Type 0} {g : Ghosts N} (k : DeviceNode N g) where
  -- the only image is what a read gives, and it shows the device's commits and record
  pub knows : g.tells → is_on k ≡ true → OnlyShown (seen_in k) (g.times (storage_in k)) (g.content (storage_in k))
  knows tells on =
      let only = holds_shows (k.holds on tells) in
      record { only = only.only; shows = shown_as k.head.count k.state (one_held k.head.count k.payload) (g.content k.nv) k.written only.shows }

  -- each image shows them
  pub shows : g.tells → is_on k ≡ true → (image : List ℕ) → Image (g.times (storage_in k)) image → ShowsSeen (seen_in k) image
  shows tells on image now =
      let only = knows tells on in
      subst (λ (c : List ℕ). IsShown k.head.count k.state c) (sym (only.only image now)) only.shows

  -- the slot where the wear since the boot ends is the current one
  pub current : g.tells → is_on k ≡ true → IsCurrent (slot_after k.wear.start (sum k.wear.fills)) (g.content (storage_in k))
  current tells on =
      let holds = k.holds on tells in
      current_at (slot_after k.wear.start (sum k.wear.fills)) k.head.count k.payload (g.content k.nv) (holds_shows holds).shows
      (λ some. subst (λ (p : ℕ). Top SLOTS (slots_at RECORD_BYTES 0 (g.content k.nv)) p (k.head.count, k.payload)) (k.wears.place some) (holds.known.top some))

  pub size : is_on k ≡ true → g.size (storage_in k) ≡ DEVICE_BYTES
  size on = k.room on

  pub kept : IfSome (seen_in k).state IsStorable
  kept = if_some IsStorable k.state k.kept

  -- a device has no commits if and only if it was never made
  pub blank : ((seen_in k).count ≡ 0) ↔ ((seen_in k).state ≡ None)
  blank = blank_held k.head.count k.payload k.state k.written
