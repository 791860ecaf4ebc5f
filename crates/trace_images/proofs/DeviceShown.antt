-- What an image of a device's storage shows, by its newest slot.
use Rattle.std.proofs.Common.{◌≡◌, ◌⊎◌, inl, inr, ℕ, zero, suc, ◌<◌, ◌≤◌, Bool, true, false, nat_lt, if◌then◌else◌, List, Option, Some, None, IfSome, refl, subst, arith}
use Rattle.bench_base.specs.declared.sizes.TheConstants.{MOST_COMMITS, RECORD_BYTES, SLOTS}
use Rattle.nv_store.specs.Slot.{Held, slots_at, newer, current}
use Rattle.psd_state.specs.State.{State}
use Rattle.psd_state.specs.Seen.{Seen}
use Rattle.psd_state.specs.Payload.{ReadsAs}
use Rattle.psd_device.specs.Boots.{IsOwn}
use Rattle.psd_device.specs.Shown.{IsHeld, ShowsSeen}
use Rattle.psd_device.specs.Sound.{IsSound}
use Rattle.nv_bytes.specs.Newest.{ShowsHeld}
use Rattle.node_images.proofs.Devices.{record_shown}

newer_is : (a b : Option Held) (c : Held) → newer a b ≡ Some c → (a ≡ Some c) ⊎ (b ≡ Some c)
newer_is None b c is = inr is
newer_is (Some a) None c is = inl is
newer_is (Some a) (Some b) c is = by (nat_lt a.0 b.0) is
  where
    by : (t : Bool) → (if t then Some b else Some a) ≡ Some c → ◌≡◌ {A = Option Held} (Some a) (Some c) ⊎ ◌≡◌ {A = Option Held} (Some b) (Some c)
    by true is = inr is
    by false is = inl is

-- what a cell shows is in one of its slots
some_slot : (n : ℕ) (slots : ℕ → Option Held) (c : Held) → current n slots ≡ Some c → (i : ℕ) × (i < n) × (slots i ≡ Some c)
some_slot zero slots c is = absurd (cc is)
some_slot (suc n) slots c is = elim (newer_is (current n slots) (slots n) c is) [
  | inl before ↦ let at = some_slot n slots c before in (at.0, omega (arith, at.1), at.2)
  | inr here ↦ (n, omega arith, here)
]

-- the image shows so many commits and this payload
module _ (device count : ℕ) (payload image : List ℕ) (shows : ShowsHeld SLOTS (slots_at RECORD_BYTES 0 image) (count, payload)) where
  some_commits : 0 < count
  some_commits = let at = some_slot SLOTS (slots_at RECORD_BYTES 0 image) (count, payload) shows.shown in shows.clear.counted at.0 (count, payload) at.1 at.2

  -- a record of the device as which the payload reads is shown
  pub is_shown : (s : State) → count ≤ MOST_COMMITS → s.device ≡ device → ReadsAs payload s
      → IsSound device (record { count = count; state = Some s }) × ShowsSeen (record { count = count; state = Some s }) image
  is_shown s few number reads = (
    record {
      few = few;
      blank = (λ none. absurd (omega (arith, none, some_commits)), λ none. absurd (cc none));
      own = record { kept = record { holds = reads.holds; ranges = reads.fits }; number = number };
    },
    record_shown image count s payload shows reads,
  )

  -- if it reads as none, none is shown
  pub none_shown : ((s : State) → s.device ≡ device → ReadsAs payload s → ⊥) → (s : Seen) → IsSound device s → ShowsSeen s image → ⊥
  none_shown none s sound shown = by s.state sound.own (subst (λ (h : Option Held). IsHeld s.count s.state h) shows.shown shown.held)
    where
      by : (o : Option State) → IfSome o (IsOwn device) → IsHeld s.count o (Some (count, payload)) → ⊥
      by None own held = held
      by (Some x) own held = none x own.number held.1

-- a blank image shows a device that was not made
pub blank_sound : (device : ℕ) → IsSound device (record { count = 0; state = None })
blank_sound device = record { few = omega arith; blank = (λ none. refl, λ none. refl); own = tt }
