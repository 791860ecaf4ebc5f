-- What a device's commit leaves.
use Rattle.std.proofs.Common.{◌≡◌, ◌⊎◌, inl, inr, ⊎_elim, ℕ, ◌+◌, List, Option, Some, refl, sym, ap, subst, arith, ◌∙◌}
use Rattle.nv_store.specs.Slot.{Held}
use Rattle.nv_store.specs.Store.{Between, one_held, after_commit}
use Rattle.nv_store.proofs.Between.{count_of_one_held}
use Rattle.psd_state.specs.State.{State, Holds}
use Rattle.psd_state.specs.Payload.{ReadsAs, Ranges, bytes_of}
use Rattle.psd_device.specs.Shown.{IsHeld, IsShown}

module _ (count : ℕ) (payload : List ℕ) (state : Option State) (written : IsHeld count state (one_held count payload)) (next : State) (bytes : List ℕ) (reads : ReadsAs bytes next) where
  -- each image of a commit shows what was before, or the new record too
  pub between_shown : (c : List ℕ) → Between 209 16 1 0 (λ k. one_held count payload) bytes c → IsShown count state c ⊎ IsShown (count + 1) (Some next) c
  between_shown c between = ⊎_elim
      (λ same. inl (record { held = subst (IsHeld count state) (sym same) written; clear = between.clear 0 (omega arith) }))
      (λ more. inr (record { held = subst (IsHeld (count + 1) (Some next)) (sym (more ∙ after)) (refl, reads); clear = between.clear 0 (omega arith) }))
      between.here
    where
      held : ℕ → Option Held
      held n = Some (n + 1, bytes)

      after : after_commit (one_held count payload) bytes ≡ Some (count + 1, bytes)
      after = ap held (count_of_one_held count payload)

-- a spelling reads as its record
pub reads_as_spelled : (s : State) (bytes : List ℕ) → Holds s → Ranges s → bytes ≡ bytes_of s → ReadsAs bytes s
reads_as_spelled s bytes holds fits is = record { holds = holds; fits = fits; reads = inl (sym is) }
