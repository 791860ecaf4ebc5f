-- What is left of a source that is read piece by piece, and why an image wasn't read.
use Rattle.std.proofs.Common.{◌≡◌, inl, inr, ℕ, ◌+◌, ◌*◌, ◌<◌, ◌≤◌, List, [], length, take, Option, Some, None, Result, Ok, Err, OnErr, ◌∙◌, ap, arith}
use Rattle.std.proofs.lemmas.List.{length-append}
use Rattle.std.proofs.Math.Nat.{mul-le-mul_right}
use Rattle.std.specs.Io.KnownBytes.{Consumes, IsAtEnd}
use Rattle.bench_base.specs.Causes.{Rose}
use Rattle.trace_folder.specs.Sources.{HasFewer, IsUnread}

-- a source that ends after these bytes had fewer than so many
pub ended : (n : ℕ) (a b c : Option (List ℕ)) (front : List ℕ) → Consumes a b front → Consumes b c [] → IsAtEnd c → length front < n → HasFewer n a
ended n None b c front first next end short = tt
ended n (Some x) None c front first next end short = absurd first
ended n (Some x) (Some y) None front first next end short = absurd next
ended n (Some x) (Some y) (Some z) front first next end short =
    let long : length x ≡ length front + length y = ap (λ (l : List ℕ). length l) first ∙ length-append front y in
    let none : length y ≡ 0 = ap (λ (l : List ℕ). length l) (next ∙ end) in
    omega (arith, long, none, short)

-- one that had too few for a cell had too few for all of them
pub fewer : (n place size : ℕ) (a b : Option (List ℕ)) (front : List ℕ) → Consumes a b front → length front ≡ place * size → place < n → HasFewer size b → HasFewer (n * size) a
fewer n place size None b front taken is inside few = tt
fewer n place size (Some x) None front taken is inside few = absurd taken
fewer n place size (Some x) (Some y) front taken is inside few =
    let long : length x ≡ length front + length y = ap (λ (l : List ℕ). length l) taken ∙ length-append front y in
    let step : (place + 1) * size ≡ place * size + size = omega arith in
    let most : (place + 1) * size ≤ n * size = mul-le-mul_right {m = place + 1} {n = n} size (omega (arith, inside)) in
    omega (arith, long, is, few, step, most)

pub rose : (a b c : ℕ) → a ≤ b → Rose b c → Rose a c
rose a b c later up = omega (arith, later, up)

pub unread : (n place size fa fb fc : ℕ) (a b : Option (List ℕ)) (front : List ℕ) → Consumes a b front → length front ≡ place * size → place < n → fa ≤ fb → IsUnread size fb fc b
    → IsUnread (n * size) fa fc a
unread n place size fa fb fc a b front taken is inside later why = elim why [
  | inl up ↦ inl (rose fa fb fc later up)
  | inr few ↦ inr (fewer n place size a b front taken is inside few)
]

pub on_err : {T E : Type 0} (r : Result T E) (P : Type 0) → P → OnErr r P
on_err (Ok x) P is = tt
on_err (Err e) P is = is
