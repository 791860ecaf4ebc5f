-- What is an image of a medium.
use Rattle.std.proofs.Common.{◌≡◌, inl, inr, ⊎_elim, ℕ, List, length, get_or, Bool, false, sym, ◌∙◌, ap, arith}
use Rattle.std.proofs.lemmas.List.{take_all}
use Rattle.std.proofs.lemmas.Bool.{or_parts}
use Rattle.nv_model.specs.Moments.{Times, Image, Nested, IsImage}
use Rattle.nv_model.specs.Replay.{Stand, replay, at_first, stood, marked, SinceMoment}
use Rattle.nv_model.specs.declared.step.Step.{Step}

module _ (bytes : List ℕ) (steps : List Step) (start : List ℕ) where
  abbrev stand : Stand
  stand = replay bytes steps (at_first start)

  abbrev times : List Bool → Times
  times marks = record { moment = length steps; since = λ t c. SinceMoment bytes steps start marks t c }

  end : stood bytes steps start (length steps) ≡ stand
  end = ap (λ (l : List Step). replay bytes l (at_first start)) (take_all (length steps) steps (omega arith))

  pub now_image : (marks : List Bool) (c : List ℕ) → IsImage stand.base (marked stand.written marks) c → Image (times marks) c
  now_image marks c image = inr (record { from = omega arith; image = image })

  pub image_now : (marks : List Bool) (c : List ℕ) → Image (times marks) c → IsImage stand.base (marked stand.written marks) c
  image_now marks c now = ⊎_elim (λ passed. absurd (omega (arith, passed.from, passed.passed))) (λ stands. stands.image) now

  pub content_image : (marks : List Bool) (c : List ℕ) → IsImage stand.base stand.written c → Image (times marks) c
  content_image marks c image = now_image marks c
      (record { size = image.size; same = λ i not. image.same i (or_parts (stand.written i) (get_or marks i false) not).0 })

  pub since_sized : (size : ℕ) (marks : List Bool) (t : ℕ) (c : List ℕ) → ((k : ℕ) → length (stood bytes steps start k).base ≡ size)
      → SinceMoment bytes steps start marks t c → length c ≡ size
  since_sized size marks t c all now = ⊎_elim
      (λ passed. passed.image.size ∙ all passed.k)
      (λ stands. stands.image.size ∙ sym (ap (λ (s : Stand). length s.base) end) ∙ all (length steps))
      now

  pub since_nested : (marks : List Bool) → Nested (times marks)
  since_nested marks t u c le now = ⊎_elim
      (λ passed. inl (record { k = passed.k; from = omega (arith, le, passed.from); passed = passed.passed; image = passed.image }))
      (λ stands. inr (record { from = omega (arith, le, stands.from); image = stands.image }))
      now
