-- What was read ahead, in front of what is left.
use Rattle.std.proofs.Common.{◌≡◌, ℕ, ◌+◌, ◌-◌, ◌≤◌, ◌<◌, min, List, [], ◌++◌, Option, Some, None, length, take, drop, sym, ap, subst, ◌∙◌, arith, append_assoc, take-append-drop}
use Rattle.std.proofs.lemmas.List.{drop-take, drop-drop, length-take, length-drop}
use Rattle.std.specs.Io.KnownBytes.{Keeps, Consumes, IsAtEnd, prepend_known}
use Rattle.std.proofs.KnownBytes.{Consumes-nil, Consumes-kept, Consumes-trans}

-- what is given from the prefix is taken off it
prefix_given : (n : ℕ) (prefix : List ℕ) (known : Option (List ℕ)) → Consumes (prepend_known prefix known) (prepend_known (drop n prefix) known) (take n prefix)
prefix_given n prefix None = tt
prefix_given n prefix (Some rest) = ap (λ (l : List ℕ). l ++ rest) (sym (take-append-drop n prefix)) ∙ append_assoc (take n prefix) (drop n prefix) rest

-- what is then in front comes after it in the buffer
prefix_left : (at n long : ℕ) (bytes : List ℕ) → n ≤ long → drop n (take long (drop at bytes)) ≡ take (long - n) (drop (at + n) bytes)
prefix_left at n long bytes within =
    let is : long ≡ n + (long - n) = omega arith in
    ap (λ (k : ℕ). drop n (take k (drop at bytes))) is ∙ drop-take n (long - n) (drop at bytes) ∙ ap (take (long - n)) (drop-drop n at bytes)

-- so many bytes of what was ahead are taken, and the others are left
pub passes : (at end n : ℕ) (bytes : List ℕ) (known : Option (List ℕ)) → n ≤ end - at
    → Consumes (prepend_known (take (end - at) (drop at bytes)) known) (prepend_known (take (end - (at + n)) (drop (at + n) bytes)) known) (take n (take (end - at) (drop at bytes)))
    × (take (end - (at + n)) (drop (at + n) bytes) ≡ drop n (take (end - at) (drop at bytes)))
passes at end n bytes known within =
    let prefix = take (end - at) (drop at bytes) in
    let sums : end - at - n ≡ end - (at + n) = omega arith in
    let left : drop n prefix ≡ take (end - (at + n)) (drop (at + n) bytes) = prefix_left at n (end - at) bytes within ∙ ap (λ (k : ℕ). take k (drop (at + n) bytes)) sums in
    (subst (λ (rest : List ℕ). Consumes (prepend_known prefix known) (prepend_known rest known) (take n prefix)) left (prefix_given n prefix known), sym left)

-- nothing in front of an end is an end
at_end : (known : Option (List ℕ)) → IsAtEnd known → IsAtEnd (prepend_known [] known)
at_end None h = tt
at_end (Some xs) h = h

module _ (old known : Option (List ℕ)) (at end n : ℕ) (bytes buf : List ℕ) where
  abbrev Left : ℕ → Option (List ℕ)
  Left k = prepend_known (take (end - k) (drop k bytes)) known

  -- a read gives what was ahead, and nothing only at the end
  pub gives : at ≤ end → end ≤ length bytes → Keeps old (Left at) → (at ≡ end → IsAtEnd known)
      → n ≡ min (length (take (end - at) (drop at bytes))) (length buf) → take n buf ≡ take n (take (end - at) (drop at bytes))
      → Consumes old (Left (at + n)) (take n buf) × (n ≡ 0 → 0 < length buf → IsAtEnd (Left (at + n)))
  gives ahead inside kept ended count copied =
      let prefix = take (end - at) (drop at bytes) in
      let long : length prefix ≡ end - at = omega (arith, length-take (end - at) (drop at bytes), length-drop at bytes) in
      let within : n ≤ end - at = omega arith in
      let sums : end - at - n ≡ end - (at + n) = omega arith in
      let left : drop n prefix ≡ take (end - (at + n)) (drop (at + n) bytes) = prefix_left at n (end - at) bytes within ∙ ap (λ (k : ℕ). take k (drop (at + n) bytes)) sums in
      let none : Consumes old (Left at) [] = Consumes-kept old old (Left at) [] (Consumes-nil old) kept in (
        subst (λ (bs : List ℕ). Consumes old (Left (at + n)) bs) (sym copied)
            (subst (λ (rest : List ℕ). Consumes old (prepend_known rest known) (take n prefix)) left
            (Consumes-trans old (Left at) (prepend_known (drop n prefix) known) [] (take n prefix) none (prefix_given n prefix known))),
        λ zero some.
            let same : at ≡ end = omega arith in
            let gone : end - (at + n) ≡ 0 = omega arith in
            subst (λ (k : ℕ). IsAtEnd (prepend_known (take k (drop (at + n) bytes)) known)) (sym gone) (at_end known (ended same)),
      )
