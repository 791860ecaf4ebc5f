-- Bytes that are put into a list or a set are among those that are kept, and no other that were not.
use Rattle.std.proofs.Common.{◌≡◌, ◌⊎◌, ◌↔◌, inl, inr, ℕ, ◌+◌, ◌<◌, List, [], ◌∷◌, ◌++◌, length, take, get_or, Bool, true, false, not, ◌||◌, IsTrue, MatchBool, IsPermutation, bytes_eq, refl, sym, ◌∙◌, ap, subst, true≢false}
use Rattle.std.proofs.lemmas.List.Folds.{list_any-append, list_any_at, list_any_more}
use Rattle.std.proofs.lemmas.List.Sorted.{list_any-IsPermutation}
use Rattle.std.proofs.lemmas.Slice.Eq.{bytes_eq-Decides}
use Rattle.trace_bench.specs.Known.{is_among}

module _ {K : Type 0} (items : K → List ℕ) where
  -- whether a key has these bytes
  abbrev among : List ℕ → List K → Bool
  among q keys = is_among items q keys

  -- a key that has not these bytes
  other : (k : K) (q : List ℕ) → false ≡ bytes_eq q (items k) → items k ≡ q → ⊥
  other k q is same = true≢false (sym ((bytes_eq-Decides q (items k)).1 (sym same)) ∙ sym is)

  either : (k : K) (q : List ℕ) (test was : Bool) → test ≡ bytes_eq q (items k) → IsTrue (test || was) ↔ ((items k ≡ q) ⊎ IsTrue was)
  either k q true was is = (λ has. inl (sym ((bytes_eq-Decides q (items k)).0 (sym is))), λ e. refl)
  either k q false was is = (λ has. inr has, λ e. elim e [ inl same ↦ absurd (other k q is same) | inr there ↦ there ])

  -- what is put into the set
  pub put_keys : (k : K) (old new : List K) (added : Bool) → added ≡ not (among (items k) old) → MatchBool added (IsPermutation (k ∷ old) new) (new ≡ old) → (q : List ℕ) → IsTrue (among q new) ↔ ((items k ≡ q) ⊎ IsTrue (among q old))
  put_keys k old new true is puts q =
      subst (λ (b : Bool). IsTrue b ↔ ((items k ≡ q) ⊎ IsTrue (among q old))) (list_any-IsPermutation (λ x. bytes_eq q (items x)) (k ∷ old) new puts)
      (either k q (bytes_eq q (items k)) (among q old) refl)
  put_keys k old new false is same q = (
    λ has. inr (subst (λ (keys : List K). IsTrue (among q keys)) same has),
    λ e. subst (λ (keys : List K). IsTrue (among q keys)) (sym same) (elim e [ inl one ↦ subst (λ (l : List ℕ). IsTrue (among l old)) one (there (among (items k) old) is) | inr was ↦ was ]),
  )
    where
      there : (b : Bool) → false ≡ not b → IsTrue b
      there true is = refl
      there false is = cc is

  last : (k : K) (q : List ℕ) (listed test found : Bool) → test ≡ bytes_eq q (items k) → IsTrue ((listed || (test || false)) || found) ↔ ((items k ≡ q) ⊎ IsTrue (listed || found))
  last k q true test found is = (λ has. inr refl, λ e. refl)
  last k q false true found is = (λ has. inl (sym ((bytes_eq-Decides q (items k)).0 (sym is))), λ e. refl)
  last k q false false found is = (λ has. inr has, λ e. elim e [ inl same ↦ absurd (other k q is same) | inr there ↦ there ])

  -- what is put at the end of the list
  pub put_last : (k : K) (old new : List K) (q : List ℕ) (found : Bool) → new ≡ old ++ k ∷ [] → IsTrue (among q new || found) ↔ ((items k ≡ q) ⊎ IsTrue (among q old || found))
  put_last k old new q found is =
      subst (λ (b : Bool). IsTrue (b || found) ↔ ((items k ≡ q) ⊎ IsTrue (among q old || found))) (sym (ap (among q) is ∙ list_any-append (λ x. bytes_eq q (items x)) old (k ∷ [])))
      (last k q (among q old) (bytes_eq q (items k)) found refl)

  -- one that is listed already is put into the set
  pub moved : (listed old new : Bool) (S : Type 0) → IsTrue new ↔ (S ⊎ IsTrue old) → (S → IsTrue listed) → IsTrue (listed || new) ↔ IsTrue (listed || old)
  moved true old new S puts there = (λ has. refl, λ has. refl)
  moved false old new S puts there = (λ has. elim (puts.0 has) [ inl s ↦ absurd (true≢false (sym (there s))) | inr was ↦ was ], λ was. puts.1 (inr was))

  -- the key at this place is among them
  pub at_place : (list : List K) (i : ℕ) (k : K) (q : List ℕ) → i < length list → items (get_or list i k) ≡ q → IsTrue (among q list)
  at_place list i k q inside is = list_any_at (λ x. bytes_eq q (items x)) list i k inside ((bytes_eq-Decides q (items (get_or list i k))).1 (sym is))

  in_either : (k : K) (q : List ℕ) (first test : Bool) (P : Type 0) → test ≡ bytes_eq q (items k) → (IsTrue first → P) → (items k ≡ q → P) → IsTrue (first || test) → P
  in_either k q true test P is before here has = before refl
  in_either k q false true P is before here has = here (sym ((bytes_eq-Decides q (items k)).0 (sym is)))
  in_either k q false false P is before here has = absurd (true≢false (sym has))

  -- those up to this place are among those before it, or it is that one
  pub up_to : (list : List K) (i : ℕ) (k : K) (q : List ℕ) (P : Type 0) → i < length list → (IsTrue (among q (take i list)) → P) → (items (get_or list i k) ≡ q → P) → IsTrue (among q (take (i + 1) list)) → P
  up_to list i k q P inside before here has =
      in_either (get_or list i k) q (among q (take i list)) (bytes_eq q (items (get_or list i k))) P refl before here
      (subst IsTrue (list_any_more (λ x. bytes_eq q (items x)) list i k inside) has)
