-- Steps on a slot, one after the other.
use Rattle.std.proofs.Common.{◌≡◌, ⊎_elim, ℕ, ◌+◌, List, Option, Result, Ok, subst}
use Rattle.std.specs.Result.{OnOk}
use Rattle.std.proofs.lemmas.Result.{on_ok_weaker}
use Rattle.nv_model.specs.Moments.{Times, Nested}
use Rattle.nv_model.proofs.Runs.{outside_twice, elapses_twice}
use Rattle.nv_store.specs.Slot.{Held, slot_at}
use Rattle.nv_store.specs.Steps.{Slotted, Steps}

pub slotted_weaker : (size at : ℕ) (P Q : Option Held → Type 0) (old new : List ℕ) → ((s : Option Held) → P s → Q s) → Slotted size at P old new → Slotted size at Q old new
slotted_weaker size at P Q old new weaker is = record { others = is.others; slot = weaker (slot_at size at new) is.slot }

pub slotted_behind : (size at : ℕ) (P Q : Option Held → Type 0) (old mid new : List ℕ) → Slotted size at P old mid → Slotted size at Q mid new → Slotted size at Q old new
slotted_behind size at P Q old mid new first second = record { others = outside_twice at (5 + size) old mid new first.others second.others; slot = second.slot }

-- steps that were done, and then others
pub steps_then : {E : Type 0} {size at : ℕ} {P Q P' Q' : Option Held → Type 0} {old mid new : List ℕ} {before half now : Times} {first result : Result (Unit {0}) E} (R : Option Held → Type 0) → Nested now → first ≡ Ok tt
    → ((s : Option Held) → P s → R s) → ((s : Option Held) → P' s → R s)
    → Steps size at P Q old mid before half first → Steps size at P' Q' mid new half now result → Steps size at R Q' old new before now result
steps_then {E} {size} {at} {P} {Q} {P'} {Q'} {old} {mid} {new} {before} {half} {now} {first} {result} R nested is weaker weaker' steps steps' =
    let done : Slotted size at Q old mid = subst (λ (r : Result (Unit {0}) E). OnOk r (Slotted size at Q old mid)) is steps.done in
    record {
      any_moment = λ c seen. ⊎_elim
          (λ was. slotted_weaker size at P R old c weaker (steps.any_moment c was))
          (λ later. slotted_behind size at Q R old mid c done (slotted_weaker size at P' R mid c weaker' (steps'.any_moment c later)))
          (steps'.time.nothing_else before.moment c steps.time.later seen);
      done = on_ok_weaker result (slotted_behind size at Q Q' old mid new done) steps'.done;
      durable = steps'.durable;
      time = elapses_twice before half now nested steps.time steps'.time;
    }
