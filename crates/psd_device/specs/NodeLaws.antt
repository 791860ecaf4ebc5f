-- A device meets the laws of a node.
use Rattle.std.proofs.Common.{◌≡◌, ⊎_elim, ℕ, ◌+◌, List, Option, false, ◌∙◌, ap, arith}
use Rattle.bench_base.specs.declared.sizes.TheConstants.{RECORD_BYTES, SLOTS, DEVICE_BYTES}
use Rattle.bench_base.proofs.Facts.{few_more}
use Rattle.nv_model.specs.declared.nv.Nv.{Ghosts}
use Rattle.nv_store.specs.Slot.{slots_at}
use Rattle.psd_state.specs.State.{State}
use Rattle.psd_state.specs.Seen.{Seen, counting}
use Rattle.psd_device.specs.Shown.{IsShown, IsStorable}
use Rattle.psd_device.specs.Boots.{IsDamaged, ShowsOwn}
use Rattle.psd_device.specs.Knows as knows
use Rattle.psd_device.specs.Sound.{IsSound}
use Rattle.nv_store.specs.Clear.{not_mixed}
use Rattle.psd_device.specs.Finds.{shows_clear, own_not_foreign}

seen_same : (a b : Seen) → a.count ≡ b.count → a.state ≡ b.state → a ≡ b
seen_same a b is is' = ap (λ (k : ℕ). with_both k a.state) is ∙ ap (λ (o : Option State). with_both b.count o) is'
  where
    with_both : ℕ → Option State → Seen
    with_both k o = record { count = k; state = o }

pub one_shown : (d : ℕ) (a b : Seen) (c : List ℕ) → IsSound d a → IsSound d b → IsShown a.count a.state c → IsShown b.count b.state c → a ≡ b
one_shown d a b c own own' shown shown' =
    let same = knows.one_shown a.count b.count a.state b.state c own.blank own'.blank shown shown' in
    seen_same a b same.0 same.1

pub keeps : (d : ℕ) (s : Seen) (x : State) → IsSound d s → IsStorable x → x.device ≡ d → counting.is_worn s x ≡ false → IsSound d (counting.after s x)
keeps d s x sound kept number fresh = record {
  few = few_more s.count sound.few fresh;
  blank = (λ none. absurd (no_next s.count none), λ none. cc);
  own = record { kept = kept; number = number };
}
  where
    no_next : (k : ℕ) → k + 1 ≡ 0 → ⊥
    no_next k is = omega arith

-- storage that is sure to show a record of the device is not damaged
pub not_damaged : {N : Type 0} (g : Ghosts N) (d : ℕ) (nv : N) → ShowsOwn d (g.content nv) → g.size nv ≡ DEVICE_BYTES → IsDamaged g d nv → ⊥
not_damaged g d nv own size damaged =
    ⊎_elim (λ other. other size)
    (λ wrong. ⊎_elim (λ mixed. not_mixed SLOTS (slots_at RECORD_BYTES 0 (g.content nv)) mixed (shows_clear d (g.content nv) own))
    (λ foreign. own_not_foreign d (g.content nv) own foreign) wrong.1)
    damaged

pub intact : {N : Type 0} (g : Ghosts N) (d : ℕ) (s : Seen) (nv : N) → IsSound d s → IsShown s.count s.state (g.content nv) → g.size nv ≡ DEVICE_BYTES
    → IsDamaged g d nv → ⊥
intact g d s nv sound shown size damaged =
    not_damaged g d nv (record { count = s.count; state = s.state; own = sound.own; shows = shown }) size damaged
