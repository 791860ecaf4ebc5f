-- The images of a moment.
use Rattle.std.proofs.Common.{Result, Err, ◌≡◌, ◌⊎◌, inl, inr, ℕ, ◌+◌, ◌-◌, ◌≤◌, ◌<◌, List, Bool, false, drop, get_or, sym, ◌∙◌, ap, subst, arith}
use Rattle.std.proofs.lemmas.List.{get_or-take, get_or-drop, ext_get_or}
use Rattle.std.proofs.lemmas.Bool.{cases_lt}
use Rattle.nv_model.specs.Bytes.{SameOutside}
use Rattle.nv_model.specs.Moments.{IsImage, RangeWritten, Unwritten, Writes}
use Rattle.std.specs.Result.{IsErrOf}
use Rattle.nv_model.specs.declared.{nv.NvFail.NvFail, nv.NvFail.TheVariants.Power, nv.NvFail.TheVariants.Fault}

-- a byte outside a changed range
pub byte_outside : (at n : ℕ) (old new : List ℕ) (i : ℕ) → SameOutside at n old new → (i < at) ⊎ (at + n ≤ i) → get_or new i 0 ≡ get_or old i 0
byte_outside at n old new i same (inl lt) = sym (get_or-take at new i 0 lt) ∙ ap (λ (l : List ℕ). get_or l i 0) same.before ∙ get_or-take at old i 0 lt
byte_outside at n old new i same (inr le) =
    let k = i - (at + n) in
    let at_k : (l : List ℕ) → get_or (drop (at + n) l) k 0 ≡ get_or l i 0 = λ l. get_or-drop (at + n) l k 0 ∙ ap (λ (j : ℕ). get_or l j 0) (omega arith) in
    sym (at_k new) ∙ ap (λ (l : List ℕ). get_or l k 0) same.after ∙ at_k old

-- a range that was written may hold any bytes
pub image_torn : (base : List ℕ) (written : ℕ → Bool) (at n : ℕ) (d c : List ℕ) → RangeWritten at n written → IsImage base written d → SameOutside at n d c → IsImage base written c
image_torn base written at n d c all image same = record {
  size = same.size ∙ image.size;
  same = λ i not. byte_outside at n d c i same (place i not) ∙ image.same i not;
}
  where
    place : (i : ℕ) → written i ≡ false → (i < at) ⊎ (at + n ≤ i)
    place i not = elim (cases_lt i at) [
      | inl lt ↦ inl lt
      | inr ge ↦ elim (cases_lt i (at + n)) [
        | inl lt ↦ absurd (cc (all i ge lt, not))
        | inr past ↦ inr past
      ]
    ]

-- with nothing written, the base is the only image
pub image_alone : (base c : List ℕ) (written : ℕ → Bool) → Unwritten written → IsImage base written c → c ≡ base
image_alone base c written none image = ext_get_or 0 c base image.size (λ i lt. image.same i (none i))

-- a range that was written stays written
pub range_stays : (at n o m : ℕ) (old new : ℕ → Bool) → Writes at n old new → RangeWritten o m old → RangeWritten o m new
range_stays at n o m old new writes was i le lt = elim (cases_lt i at) [
  | inl before ↦ writes.outside i (inl before) ∙ was i le lt
  | inr ge ↦ elim (cases_lt i (at + n)) [
    | inl inside ↦ writes.inside i ge inside
    | inr past ↦ writes.outside i (inr past) ∙ was i le lt
  ]
]

pub not_power : (r : Result (Unit {0}) NvFail) → r ≡ Err Fault → IsErrOf r Power → ⊥
not_power r is e = cc (subst (λ (q : Result (Unit {0}) NvFail). IsErrOf q Power) is e)
