-- A cell that is clear is not mixed.
use Rattle.std.proofs.Common.{◌≡◌, inl, inr, ℕ, Option, Some, None, is_some, true, refl, sym, ◌∙◌, ap, arith}
use Rattle.nv_store.specs.Slot.{Held, IsClear}
use Rattle.nv_store.specs.Scans.{IsMixed}
use Rattle.nv_store.specs.Store.{count_of}

open_slot : (o : Option Held) → is_some o ≡ true → (a : Held) × (o ≡ Some a)
open_slot None is = cc is
open_slot (Some a) is = (a, refl)

pub not_mixed : (n : ℕ) (slots : ℕ → Option Held) → IsMixed n slots → IsClear n slots → ⊥
not_mixed n slots (inl (i, empty)) clear =
    let held = open_slot (slots i) empty.is_open in
    omega (arith, clear.counted i held.0 empty.inside held.1, ap count_of held.1, empty.none)
not_mixed n slots (inr (i, (j, repeat))) clear =
    let first = open_slot (slots i) repeat.open_first in
    let second = open_slot (slots j) repeat.open_second in
    repeat.differs (clear.distinct i j first.0 second.0 repeat.first repeat.second first.1 second.1
    (sym (ap count_of first.1) ∙ repeat.same ∙ ap count_of second.1))
