-- Entries in order: where a block is found among them, and one more that is put in its place.
use Rattle.std.proofs.Common.{◌≡◌, ◌⊎◌, inl, inr, ℕ, zero, suc, [], ◌∷◌, ◌+◌, ◌-◌, ◌<◌, ◌≤◌, ◌^◌, List, length, get_or, set, take, Option, Some, None, Bool, true, false, refl, sym, ap, ap₂, subst, ◌∙◌, arith, true≢false}
use Rattle.std.specs.Prelude.{◌==◌, if◌then◌else◌}
use Rattle.std.specs.List.{CopiedTo, SameBelow}
use Rattle.std.proofs.lemmas.Bool.{cases_eq, cases_lt, cases_Bool, eqb-true, eq-eqb, and_parts}
use Rattle.std.proofs.lemmas.List.{length-take, length-set, get_or-take, get_or_past, get_or-set_same, get_or-set_other}
use Rattle.verifier.specs.declared.index.Entry.{Entry}
use Rattle.verifier.specs.Index.{is_of, cell_in, with_cell, rank, rank_of, nothing, AreOrdered}

-- an entry of the block stands where the block does
ranked : (d b : ℕ) (e : Entry) → is_of d b e ≡ true → rank_of e ≡ rank d b
ranked d b e is =
    let parts = and_parts (e.device == d) (e.block == b) is in
    ap₂ (λ x y. rank x y) (eqb-true e.device d parts.0) (eqb-true e.block b parts.1)

pub of_block : (d b : ℕ) (e : Entry) → e.device ≡ d → e.block ≡ b → is_of d b e ≡ true
of_block d b e device block = rw (eq-eqb e.device d device, eq-eqb e.block b block) refl

pub not_less : (d b : ℕ) (e : Entry) → rank_of e < rank d b → is_of d b e ≡ false
not_less d b e lt = elim (cases_Bool (is_of d b e)) [ inl is ↦ absurd (omega (arith, lt, ranked d b e is)) | inr isnt ↦ isnt ]

pub not_more : (d b : ℕ) (e : Entry) → rank d b < rank_of e → is_of d b e ≡ false
not_more d b e lt = elim (cases_Bool (is_of d b e)) [ inl is ↦ absurd (omega (arith, lt, ranked d b e is)) | inr isnt ↦ isnt ]

-- == what is found ==

pub none_in : (es : List Entry) (d b : ℕ) → ((k : ℕ) → k < length es → is_of d b (get_or es k nothing) ≡ false) → cell_in es d b ≡ None
none_in [] d b none = refl
none_in (e ∷ es) d b none = rw (none 0 (omega arith)) (none_in es d b (λ k lt. none (suc k) (omega arith)))

pub found_in : (es : List Entry) (d b k : ℕ) → k < length es → is_of d b (get_or es k nothing) ≡ true → ((j : ℕ) → j < k → is_of d b (get_or es j nothing) ≡ false)
    → cell_in es d b ≡ Some (get_or es k nothing).cell
found_in [] d b k lt is before = absurd (omega arith)
found_in (e ∷ es) d b zero lt is before = rw is refl
found_in (e ∷ es) d b (suc k) lt is before = rw (before 0 (omega arith)) (found_in es d b k (omega arith) is (λ j less. before (suc j) (omega arith)))

-- an entry of a block that is not found is another's
pub not_found : (es : List Entry) (d b : ℕ) → cell_in es d b ≡ None → (k : ℕ) → k < length es → is_of d b (get_or es k nothing) ≡ false
not_found [] d b none k lt = absurd (omega arith)
not_found (e ∷ es) d b none k lt = elim (cases_Bool (is_of d b e)) [
  | inl is ↦ absurd (some_none (sym (ap (λ (t : Bool). if t then Some e.cell else cell_in es d b) is) ∙ none))
  | inr isnt ↦ by k lt isnt (λ i less. not_found es d b (sym (ap (λ (t : Bool). if t then Some e.cell else cell_in es d b) isnt) ∙ none) i less)
]
  where
    some_none : ◌≡◌ {A = Option ℕ} (Some e.cell) None → ⊥
    some_none h = cc

    by : (k : ℕ) → k < length (e ∷ es) → is_of d b e ≡ false → ((i : ℕ) → i < length es → is_of d b (get_or es i nothing) ≡ false) → is_of d b (get_or (e ∷ es) k nothing) ≡ false
    by zero lt isnt rest = isnt
    by (suc k) lt isnt rest = rest k (omega arith)

-- == one entry more ==

-- it is in this place, and those from there on are one further
pub record IsPut (es new : List Entry) (place : ℕ) (e : Entry) : Type 0 where
  pub long : length new ≡ length es + 1
  pub inside : place ≤ length es
  pub below : (k : ℕ) → k < place → get_or new k nothing ≡ get_or es k nothing
  pub here : get_or new place nothing ≡ e
  pub above : (k : ℕ) → place ≤ k → k < length es → get_or new (k + 1) nothing ≡ get_or es k nothing

-- the first entries of an array count; those from the place on are copied one further, and then the entry is written
pub copied_put : (xs ys : List Entry) (len place : ℕ) (e : Entry) → len < length xs → place ≤ len → length ys ≡ length xs → CopiedTo xs ys place (place + 1) (len - place) → SameBelow xs ys (place + 1)
    → IsPut (take len xs) (take (len + 1) (set ys place e)) place e
copied_put xs ys len place e room inside long copied same = record {
  long = omega (arith, length-take len xs, length-take (len + 1) (set ys place e), length-set ys place e);
  inside = omega (arith, length-take len xs);
  below = λ k lt.
      get_or-take (len + 1) (set ys place e) k nothing (omega arith) ∙ get_or-set_other ys place k e nothing (λ is. omega arith) ∙ same k nothing (omega arith)
      ∙ sym (get_or-take len xs k nothing (omega arith));
  here = get_or-take (len + 1) (set ys place e) place nothing (omega arith) ∙ get_or-set_same ys place e nothing (omega arith);
  above = λ k le lt.
      let less : k < len = omega (arith, length-take len xs) in
      get_or-take (len + 1) (set ys place e) (k + 1) nothing (omega arith) ∙ get_or-set_other ys place (k + 1) e nothing (λ is. omega arith)
      ∙ copied (k + 1) nothing (omega arith) (omega arith) ∙ ap (λ j. get_or xs j nothing) (omega arith)
      ∙ sym (get_or-take len xs k nothing less);
}

module _ (es new : List Entry) (place : ℕ) (e : Entry) (is : IsPut es new place e) where
  -- where an entry of the new list comes from
  from : (k : ℕ) → (k < place) ⊎ ((k ≡ place) ⊎ (place < k))
  from k = elim (cases_lt k place) [ inl lt ↦ inl lt | inr le ↦ elim (cases_eq k place) [ inl same ↦ inr (inl same) | inr other ↦ inr (inr (omega arith)) ] ]

  behind_is : (k : ℕ) → place < k → k < length new → get_or new k nothing ≡ get_or es (k - 1) nothing
  behind_is k lt inside = ap (λ j. get_or new j nothing) (omega arith) ∙ is.above (k - 1) (omega arith) (omega (arith, is.long))

  module _ (ordered : AreOrdered es) (before : (k : ℕ) → k < place → rank_of (get_or es k nothing) < rank_of e)
      (behind : (k : ℕ) → place ≤ k → k < length es → rank_of e < rank_of (get_or es k nothing)) (small : e.device < 2 ^ 32) where
    low : (i : ℕ) → i < place → rank_of (get_or new i nothing) ≡ rank_of (get_or es i nothing)
    low i lt = ap (λ (x : Entry). rank_of x) (is.below i lt)

    mid : rank_of (get_or new place nothing) ≡ rank_of e
    mid = ap (λ (x : Entry). rank_of x) is.here

    high : (i : ℕ) → place < i → i < length new → rank_of (get_or new i nothing) ≡ rank_of (get_or es (i - 1) nothing)
    high i lt inside = ap (λ (x : Entry). rank_of x) (behind_is i lt inside)

    rises : (i j : ℕ) → i < j → j < length new → rank_of (get_or new i nothing) < rank_of (get_or new j nothing)
    rises i j lt inside = elim (from i) [
      | inl i_low ↦ elim (from j) [
        | inl j_low ↦ omega (arith, low i i_low, low j j_low, ordered.rising i j lt (omega (arith, is.inside)))
        | inr (inl j_mid) ↦ subst (λ (k : ℕ). rank_of (get_or new i nothing) < rank_of (get_or new k nothing)) (sym j_mid) (omega (arith, low i i_low, mid, before i i_low))
        | inr (inr j_high) ↦ omega (arith, low i i_low, high j j_high inside, before i i_low, behind (j - 1) (omega arith) (omega (arith, is.long)))
      ]
      | inr (inl i_mid) ↦
          let j_high : place < j = omega arith in
          subst (λ (k : ℕ). rank_of (get_or new k nothing) < rank_of (get_or new j nothing)) (sym i_mid) (omega (arith, mid, high j j_high inside, behind (j - 1) (omega arith) (omega (arith, is.long))))
      | inr (inr i_high) ↦
          let j_high : place < j = omega arith in
          omega (arith, high i i_high (omega arith), high j j_high inside, ordered.rising (i - 1) (j - 1) (omega arith) (omega (arith, is.long)))
    ]

    words : (i : ℕ) → (get_or new i nothing).device < 2 ^ 32
    words i = elim (cases_lt i (length new)) [
      | inr past ↦ subst (λ (x : Entry). x.device < 2 ^ 32) (sym (get_or_past new i nothing past)) (omega arith)
      | inl inside ↦ elim (from i) [
        | inl i_low ↦ subst (λ (x : Entry). x.device < 2 ^ 32) (sym (is.below i i_low)) (ordered.words i)
        | inr (inl i_mid) ↦ subst (λ (k : ℕ). (get_or new k nothing).device < 2 ^ 32) (sym i_mid) (subst (λ (x : Entry). x.device < 2 ^ 32) (sym is.here) small)
        | inr (inr i_high) ↦ subst (λ (x : Entry). x.device < 2 ^ 32) (sym (behind_is i i_high inside)) (ordered.words (i - 1))
      ]
    ]

    pub put_ordered : AreOrdered new
    put_ordered = record { rising = rises; words = words }

  -- of the first entries of a list: one is the first of the block, or none is the block's
  search : (es : List Entry) (d b : ℕ) → ((k : ℕ) × ((k < length es) × ((is_of d b (get_or es k nothing) ≡ true) × ((j : ℕ) → j < k → is_of d b (get_or es j nothing) ≡ false))))
      ⊎ ((k : ℕ) → k < length es → is_of d b (get_or es k nothing) ≡ false)
  search [] d b = inr (λ k lt. absurd (omega arith))
  search (x ∷ es) d b = elim (cases_Bool (is_of d b x)) [
    | inl own ↦ inl (0, (omega arith, (own, λ j lt. absurd (omega arith))))
    | inr isnt ↦ elim (search es d b) [
      | inl f ↦ inl (suc f.0, (omega (arith, f.1.0), (f.1.1.0, λ j lt. front x es d b isnt f.0 f.1.1.1 j lt)))
      | inr none ↦ inr (λ k lt. all x es d b isnt none k lt)
    ]
  ]
    where
      front : (x : Entry) (es : List Entry) (d b : ℕ) → is_of d b x ≡ false → (k : ℕ) → ((j : ℕ) → j < k → is_of d b (get_or es j nothing) ≡ false)
          → (j : ℕ) → j < suc k → is_of d b (get_or (x ∷ es) j nothing) ≡ false
      front x es d b isnt k before zero lt = isnt
      front x es d b isnt k before (suc j) lt = before j (omega arith)

      all : (x : Entry) (es : List Entry) (d b : ℕ) → is_of d b x ≡ false → ((k : ℕ) → k < length es → is_of d b (get_or es k nothing) ≡ false)
          → (k : ℕ) → k < length (x ∷ es) → is_of d b (get_or (x ∷ es) k nothing) ≡ false
      all x es d b isnt none zero lt = isnt
      all x es d b isnt none (suc k) lt = none k (omega arith)

  -- a block that is not the entry's is found as before
  other_put : (d b : ℕ) → is_of d b e ≡ false → cell_in new d b ≡ cell_in es d b
  other_put d b other = elim (search es d b) [
    | inl f ↦ elim (cases_lt f.0 place) [
      | inl lt ↦
          found_in new d b f.0 (omega (arith, f.1.0, is.long)) (subst (λ (x : Entry). is_of d b x ≡ true) (sym (is.below f.0 lt)) f.1.1.0)
          (λ j less. subst (λ (x : Entry). is_of d b x ≡ false) (sym (is.below j (omega arith))) (f.1.1.1 j less))
          ∙ ap (λ (x : Entry). Some x.cell) (is.below f.0 lt) ∙ sym (found_in es d b f.0 f.1.0 f.1.1.0 f.1.1.1)
      | inr le ↦
          found_in new d b (f.0 + 1) (omega (arith, f.1.0, is.long)) (subst (λ (x : Entry). is_of d b x ≡ true) (sym (is.above f.0 le f.1.0)) f.1.1.0)
          (λ j less. not_before j (λ k le' at. f.1.1.1 k (omega arith)) (omega (arith, f.1.0, is.long)))
          ∙ ap (λ (x : Entry). Some x.cell) (is.above f.0 le f.1.0) ∙ sym (found_in es d b f.0 f.1.0 f.1.1.0 f.1.1.1)
    ]
    | inr none ↦ none_in new d b (λ k lt. not_before k (λ j le at. none j (omega (arith, is.long, is.inside))) lt) ∙ sym (none_in es d b none)
  ]
    where
      -- where those that it may come from are not the block's
      not_before : (j : ℕ) → ((k : ℕ) → k ≤ j → ((k ≡ j) × (j < place)) ⊎ (k + 1 ≡ j) → is_of d b (get_or es k nothing) ≡ false) → j < length new → is_of d b (get_or new j nothing) ≡ false
      not_before j none inside = elim (from j) [
        | inl lt ↦ subst (λ (x : Entry). is_of d b x ≡ false) (sym (is.below j lt)) (none j (omega arith) (inl (refl, lt)))
        | inr (inl same) ↦ subst (λ (k : ℕ). is_of d b (get_or new k nothing) ≡ false) (sym same) (subst (λ (x : Entry). is_of d b x ≡ false) (sym is.here) other)
        | inr (inr more) ↦ subst (λ (x : Entry). is_of d b x ≡ false) (sym (behind_is j more inside)) (none (j - 1) (omega arith) (inr (omega arith)))
      ]

  -- the entry is found, and every other block as before
  pub put_found : (before : (k : ℕ) → k < place → rank_of (get_or es k nothing) < rank_of e) → (d b : ℕ) → cell_in new d b ≡ with_cell e.device e.block e.cell es d b
  put_found before d b = elim (cases_Bool (is_of d b e)) [
    | inl own ↦
        (found_in new d b place (omega (arith, is.inside, is.long)) (subst (λ (x : Entry). is_of d b x ≡ true) (sym is.here) own)
        (λ j lt. subst (λ (x : Entry). is_of d b x ≡ false) (sym (is.below j lt)) (not_less d b (get_or es j nothing) (omega (arith, before j lt, ranked d b e own))))
        ∙ ap (λ (x : Entry). Some x.cell) is.here)
        ∙ sym (ap (λ (t : Bool). if t then Some e.cell else cell_in es d b) own)
    | inr isnt ↦ other_put d b isnt ∙ sym (ap (λ (t : Bool). if t then Some e.cell else cell_in es d b) isnt)
  ]

-- == by the place of a block in the order ==

module _ (es : List Entry) (d b place : ℕ) where
  -- the entry in its place is another's
  pub found_none : AreOrdered es → place < length es → is_of d b (get_or es place nothing) ≡ false → ((k : ℕ) → k < place → rank_of (get_or es k nothing) < rank d b)
      → ((k : ℕ) → place ≤ k → k < length es → rank d b ≤ rank_of (get_or es k nothing)) → cell_in es d b ≡ None
  found_none ordered inside other before behind = none_in es d b (λ k lt. elim (cases_lt k place) [
    | inl less ↦ not_less d b (get_or es k nothing) (before k less)
    | inr le ↦ elim (cases_eq k place) [
      | inl is ↦ subst (λ (j : ℕ). is_of d b (get_or es j nothing) ≡ false) (sym is) other
      | inr differs ↦ not_more d b (get_or es k nothing) (omega (arith, behind place (omega arith) inside, ordered.rising place k (omega arith) lt))
    ]
  ])

  -- all entries come before it
  pub none_past : length es ≤ place → ((k : ℕ) → k < place → rank_of (get_or es k nothing) < rank d b) → cell_in es d b ≡ None
  none_past past before = none_in es d b (λ k lt. not_less d b (get_or es k nothing) (before k (omega arith)))

-- if a block is not among the entries, those from its place on come after it
pub fresh_behind : (es : List Entry) (place : ℕ) (e : Entry) → AreOrdered es → cell_in es e.device e.block ≡ None → e.device < 2 ^ 32
    → ((k : ℕ) → place ≤ k → k < length es → rank e.device e.block ≤ rank_of (get_or es k nothing)) → (k : ℕ) → place ≤ k → k < length es → rank_of e < rank_of (get_or es k nothing)
fresh_behind es place e ordered none small behind k le lt = elim (cases_eq (rank_of e) (rank_of (get_or es k nothing))) [
  | inr differs ↦ omega (arith, behind k le lt, differs)
  | inl same ↦
      let x : Entry = get_or es k nothing in
      let words : x.device < 2 ^ 32 = ordered.words k in
      let device : x.device ≡ e.device = omega (arith, same, words, small) in
      let block : x.block ≡ e.block = omega (arith, same, words, small) in
      absurd (true≢false (sym (of_block e.device e.block x device block) ∙ not_found es e.device e.block none k lt))
]
