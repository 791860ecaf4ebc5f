-- There is at most one proof that a record can be kept, and at most one that a payload reads as it.
use Rattle.std.proofs.Common.{◌≡◌, ◌⊎◌, inl, inr, ℕ, List, [], ◌∷◌, Option, Some, None, IfSome, ap, arith}
use Rattle.std.proofs.Props.{props}
use Rattle.bench_base.specs.Table.{Size, One, Two, Four, Five, Eight, IsNumber, Fit}
use Rattle.bench_base.specs.declared.{words.Kind.Kind, words.Kind.TheVariants.Enrol, words.Kind.TheVariants.Reset, words.Kind.TheVariants.Audit, words.Kind.TheVariants.Refund, words.Kind.TheVariants.Withdraw, words.Phase.Phase}
use Rattle.indicium.specs.declared.Mark.{Mark}
use Rattle.psd_wire.specs.declared.message.Request.{Request}
use Rattle.registers.specs.Sums.{Sums}
use Rattle.nv_store.specs.Slot.{Held}
use Rattle.psd_state.specs.State.{State, Holds, IsAmount, PendingOk, MarkOk}
use Rattle.psd_state.specs.Payload.{ReadsAs, Ranges, IsOld, bytes_of, spelled}
use Rattle.psd_state.proofs.Parted.{spells_old, spells_new, byte_old, byte_new}
use Rattle.psd_device.specs.Shown.{IsHeld, IsStorable}

IsNumber-prop : (s : Size) (n : ℕ) → IsProp (IsNumber s n)
IsNumber-prop One n = hlevel props
IsNumber-prop Two n = hlevel props
IsNumber-prop Four n = hlevel props
IsNumber-prop Five n = hlevel props
IsNumber-prop Eight n = hlevel props

Fit-prop : (ss : List Size) (vs : List ℕ) → IsProp (Fit ss vs)
Fit-prop [] [] = hlevel props
Fit-prop [] (v ∷ vs) = hlevel props
Fit-prop (s ∷ ss) [] = hlevel props
Fit-prop (s ∷ ss) (v ∷ vs) = let rest = Fit-prop ss vs in hlevel (props, IsNumber-prop, rest)

IsAmount-prop : (k : Kind) (v a : ℕ) (s : Sums) → IsProp (IsAmount k v a s)
IsAmount-prop Enrol v a s = hlevel props
IsAmount-prop Reset v a s = hlevel props
IsAmount-prop Audit v a s = hlevel props
IsAmount-prop Refund v a s = hlevel props
IsAmount-prop Withdraw v a s = hlevel props

PendingOk-prop : (d n : ℕ) (p : Phase) (s : Sums) (o : Option Request) → IsProp (PendingOk d n p s o)
PendingOk-prop d n p s None = hlevel props
PendingOk-prop d n p s (Some q) = hlevel (props, Fit-prop, IsAmount-prop)

MarkOk-prop : (d : ℕ) (s : Sums) (o : Option Mark) → IsProp (MarkOk d s o)
MarkOk-prop d s None = hlevel props
MarkOk-prop d s (Some k) = hlevel (props, Fit-prop)

pub IsStorable-prop : (s : State) → IsProp (IsStorable s)
IsStorable-prop s = hlevel (props, Fit-prop, PendingOk-prop, MarkOk-prop)

pub each_kept_prop : (o : Option State) → IsProp ((s : State) → o ≡ Some s → IsStorable s)
each_kept_prop o = hlevel (props, IsStorable-prop)

-- a payload is spelled in one version
one_version : (payload : List ℕ) (s : State) → Holds s → Ranges s → bytes_of s ≡ payload → IsOld s → spelled 1 s ≡ payload → ⊥
one_version payload s holds fits new is_old old =
    let low = byte_old s payload (spells_old s holds fits is_old) old in
    let high = byte_new s payload (spells_new s holds fits) new in
    omega arith

IsOld-prop : (s : State) → IsProp (IsOld s)
IsOld-prop s = hlevel (props, some_prop s.pending, mark_prop s.mark)
  where
    some_prop : (o : Option Request) → IsProp (IfSome o (λ q. q.version ≡ 1))
    some_prop None = hlevel props
    some_prop (Some q) = hlevel props

    mark_prop : (o : Option Mark) → IsProp (IfSome o (λ k. k.version ≡ 1))
    mark_prop None = hlevel props
    mark_prop (Some k) = hlevel props

spelled_prop : (payload : List ℕ) (s : State) → Holds s → Ranges s → IsProp ((bytes_of s ≡ payload) ⊎ (IsOld s × (spelled 1 s ≡ payload)))
spelled_prop payload s holds fits (inl a) (inl b) = ap inl (new_prop a b)
  where
    new_prop : IsProp (bytes_of s ≡ payload)
    new_prop = hlevel props
spelled_prop payload s holds fits (inl a) (inr b) = absurd (one_version payload s holds fits a b.0 b.1)
spelled_prop payload s holds fits (inr a) (inl b) = absurd (one_version payload s holds fits b a.0 a.1)
spelled_prop payload s holds fits (inr a) (inr b) = ap inr (old_prop a b)
  where
    old_prop : IsProp (IsOld s × (spelled 1 s ≡ payload))
    old_prop = hlevel (props, IsOld-prop s)

ReadsAs-prop : (payload : List ℕ) (s : State) → IsProp (ReadsAs payload s)
ReadsAs-prop payload s = hlevel (props, Fit-prop, PendingOk-prop, MarkOk-prop, spelled_prop payload s)

pub IsHeld-prop : (count : ℕ) (s : Option State) (o : Option Held) → IsProp (IsHeld count s o)
IsHeld-prop count None None = hlevel props
IsHeld-prop count (Some s) None = absurd_prop
  where
    absurd_prop : IsProp (◌≡◌ {A = Option State} (Some s) None)
    absurd_prop a b = absurd (cc)
IsHeld-prop count None (Some held) = hlevel props
IsHeld-prop count (Some s) (Some held) = hlevel (props, ReadsAs-prop held.1 s)
