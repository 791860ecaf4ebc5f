-- Places of prints that are reached from others.
use Rattle.std.proofs.Common.{◌≡◌, ◌⊎◌, inl, inr, ℕ, zero, suc, ◌+◌, ◌≤◌, List, [], ◌∷◌, ◌++◌, length, take, drop, refl, sym, ◌∙◌, ap, subst, arith}
use Rattle.std.proofs.lemmas.Bool.{cases_lt}
use Rattle.std.proofs.lemmas.List.{take-append-drop, take_at, length-take, length-drop, drop-drop}
use Rattle.hex.specs.Hex.{encode_lower}
use Rattle.text_streams.specs.Texts.{print_line}
use Rattle.trace_runs.specs.Places.{Has, AreInside, Leads, IsLast, Adds, AreAfter}
use Rattle.trace_runs.specs.declared.{imprint.Printed.Printed, imprint.Printed.TheVariants.Whole, imprint.Printed.TheVariants.Part, places.Places.Places}
use Rattle.trace_runs.proofs.PrintParts.{ends_at}

-- == which places are among these ==

pub has_left : (a b : List Places) (t : ℕ) → Has a t → Has (a ++ b) t
has_left [] b t has = absurd has
has_left (p ∷ a) b t has = elim has [ inl here ↦ inl here | inr later ↦ inr (has_left a b t later) ]

pub has_right : (a b : List Places) (t : ℕ) → Has b t → Has (a ++ b) t
has_right [] b t has = has
has_right (p ∷ a) b t has = inr (has_right a b t has)

pub has_either : (a b : List Places) (t : ℕ) → Has (a ++ b) t → Has a t ⊎ Has b t
has_either [] b t has = inr has
has_either (p ∷ a) b t has = elim has [
  | inl here ↦ inl (inl here)
  | inr later ↦ elim (has_either a b t later) [ inl x ↦ inl (inr x) | inr y ↦ inr y ]
]

pub inside_push : (size : ℕ) (a : List Places) (p : Places) → AreInside size a → p.first ≤ p.last → p.last ≤ size → AreInside size (a ++ p ∷ [])
inside_push size [] p all some inside = (some, inside, tt)
inside_push size (q ∷ a) p all some inside = (all.0, all.1, inside_push size a p all.2 some inside)

pub inside_drop : (size : ℕ) (a : List Places) (n : ℕ) → AreInside size a → AreInside size (drop n a)
inside_drop size a zero all = all
inside_drop size [] (suc n) all = tt
inside_drop size (p ∷ a) (suc n) all = inside_drop size a n all.2

pub has_drop : (a : List Places) (n t : ℕ) → Has (drop n a) t → Has a t
has_drop a zero t has = has
has_drop [] (suc n) t has = absurd has
has_drop (p ∷ a) (suc n) t has = inr (has_drop a n t has)

pub has_inside : (size : ℕ) (a : List Places) (t : ℕ) → AreInside size a → Has a t → t ≤ size
has_inside size [] t all has = absurd has
has_inside size (p ∷ a) t all has = elim has [
  | inl here ↦ let few = all.1 in let upto = here.1 in omega (arith, few, upto)
  | inr later ↦ has_inside size a t all.2 later
]

-- == places that are added ==

module _ (taken : Printed) (mark prints : List ℕ) where
  pub adds_none : (n : ℕ) (old : List Places) → Adds taken mark prints n n old old
  adds_none n old = record {
    inside = λ all. all;
    kept = λ t has. has;
    sound = λ t has. inl has;
    complete = λ s t later before leads. absurd (omega (arith, later, before));
  }

  pub adds_more : (first mid next : ℕ) (a b c : List Places) → first ≤ mid → mid ≤ next → Adds taken mark prints first mid a b → Adds taken mark prints mid next b c → Adds taken mark prints first next a c
  adds_more first mid next a b c from upto x y = record {
    inside = λ all. y.inside (x.inside all);
    kept = λ t has. y.kept t (x.kept t has);
    sound = λ t has. elim (y.sound t has) [
      | inl before ↦ elim (x.sound t before) [
        | inl older ↦ inl older
        | inr w ↦ let less = w.2 in inr (w.0, w.1, omega (arith, less, upto), w.3)
      ]
      | inr w ↦ let more = w.1 in inr (w.0, omega (arith, more, from), w.2, w.3)
    ];
    complete = λ s t later before leads. elim (cases_lt s mid) [
      | inl less ↦ y.kept t (x.complete s t later less leads)
      | inr more ↦ y.complete s t more before leads
    ];
  }

-- == a whole line ==

module _ (mark prints : List ℕ) (place : ℕ) (long : length (print_line mark) ≡ 129) where
  begins_so : (t : ℕ) → Leads Whole mark prints place t → take 129 (drop place prints) ≡ print_line mark
  begins_so t leads =
      ap (λ (l : List ℕ). take 129 l) leads.between.is ∙ take_at leads.piece (drop t prints) 129 (ap (λ (l : List ℕ). length l) leads.took ∙ long) ∙ leads.took

  pub no_line : (take 129 (drop place prints) ≡ print_line mark → ⊥) → (old : List Places) → Adds Whole mark prints place (place + 1) old old
  no_line none old = record {
    inside = λ all. all;
    kept = λ t has. has;
    sound = λ t has. inl has;
    complete = λ s t later before leads.
        let here : s ≡ place = omega (arith, later, before) in
        absurd (none (begins_so t (subst (λ (i : ℕ). Leads Whole mark prints i t) here leads)));
  }

  module _ (is : take 129 (drop place prints) ≡ print_line mark) where
    pub room : place + 129 ≤ length prints
    room =
        let size : 129 ≡ _ = sym long ∙ ap (λ (l : List ℕ). length l) (sym is) ∙ length-take 129 (drop place prints) in
        let left = length-drop place prints in
        omega (arith, size, left)

    leads_on : Leads Whole mark prints place (place + 129)
    leads_on = record {
      piece = print_line mark;
      took = refl;
      between = record {
        inside = room;
        is = sym (take-append-drop 129 (drop place prints)) ∙ ap (λ (l : List ℕ). l ++ drop 129 (drop place prints)) is ∙ ap (λ (l : List ℕ). print_line mark ++ l) (drop-drop 129 place prints);
      };
    }

    leads_there : (t : ℕ) → Leads Whole mark prints place t → t ≡ place + 129
    leads_there t leads =
        let at = ends_at prints leads.piece place t (let r = room in omega (arith, r)) leads.between in
        let size : length leads.piece ≡ 129 = ap (λ (l : List ℕ). length l) leads.took ∙ long in
        omega (arith, at, size)

    pub had_line : (old : List Places) → Has old (place + 129) → Adds Whole mark prints place (place + 1) old old
    had_line old had = record {
      inside = λ all. all;
      kept = λ t has. has;
      sound = λ t has. inl has;
      complete = λ s t later before leads.
          let here : s ≡ place = omega (arith, later, before) in
          subst (λ (i : ℕ). Has old i) (sym (leads_there t (subst (λ (i : ℕ). Leads Whole mark prints i t) here leads))) had;
    }

    pub new_line : (old : List Places) (p : Places) → p.first ≡ place + 129 → p.last ≡ place + 129 → Adds Whole mark prints place (place + 1) old (old ++ p ∷ [])
    new_line old p first last = record {
      inside = λ all. inside_push (length prints) old p all (omega (arith, first, last)) (let r = room in omega (arith, r, last));
      kept = λ t has. has_left old (p ∷ []) t has;
      sound = λ t has. elim (has_either old (p ∷ []) t has) [
        | inl before ↦ inl before
        | inr (inl here) ↦
            let low = here.0 in
            let high = here.1 in
            let at : t ≡ place + 129 = omega (arith, low, high, first, last) in
            inr (place, omega arith, omega arith, subst (λ (i : ℕ). Leads Whole mark prints place i) (sym at) leads_on)
        | inr (inr later) ↦ absurd later
      ];
      complete = λ s t later before leads.
          let here : s ≡ place = omega (arith, later, before) in
          let at = leads_there t (subst (λ (i : ℕ). Leads Whole mark prints i t) here leads) in
          has_right old (p ∷ []) t (inl (omega (arith, at, first), omega (arith, at, last)));
    }

-- == a part of a line ==

pub part_added : (mark prints : List ℕ) (old : List Places) (p : Places) (this : ℕ) → p.first ≤ this → this ≤ length prints → this ≤ p.last → IsLast (encode_lower mark) prints p.first (this + 1) this p.last
    → Adds Part mark prints p.first (this + 1) old (old ++ p ∷ [])
part_added mark prints old p this some inside later l = record {
  inside = λ all. inside_push (length prints) old p all (omega (arith, some, later)) l.inside;
  kept = λ t has. has_left old (p ∷ []) t has;
  sound = λ t has. elim (has_either old (p ∷ []) t has) [
    | inl before ↦ inl before
    | inr (inl here) ↦
        let low = here.0 in
        elim (cases_lt this t) [
          | inl more ↦ let w = l.each t more here.1 in inr (w.0, w.1, w.2, record { piece = w.3; took = w.4; between = w.5 })
          | inr few ↦
              inr (t, low, omega (arith, few), record { piece = []; took = ([], (encode_lower mark, refl), inl refl); between = record { inside = omega (arith, few, inside); is = refl } })
        ]
    | inr (inr none) ↦ absurd none
  ];
  complete = λ s t from before leads.
      let few = l.none s t leads.piece from before leads.took leads.between in
      let at = ends_at prints leads.piece s t (omega (arith, before, inside)) leads.between in
      has_right old (p ∷ []) t (inl (omega (arith, at, from), few));
}

-- == from some places, one after another ==

-- so many of the places were gone through
pub record Going (taken : Printed) (mark prints : List ℕ) (all found : List Places) (at : ℕ) : Type 0 where
  pub inside : AreInside (length prints) found
  pub sound : (t : ℕ) → Has found t → (s : ℕ) × Has all s × Leads taken mark prints s t
  pub complete : (s t : ℕ) → Has all s → Leads taken mark prints s t → Has found t ⊎ Has (drop at all) s

module _ (taken : Printed) (mark prints : List ℕ) (all : List Places) where
  pub going : Going taken mark prints all [] 0
  going = record { inside = tt; sound = λ t has. absurd has; complete = λ s t has leads. inr has }

  pub goes_more : (found new : List Places) (at : ℕ) (p : Places) → Going taken mark prints all found at → drop at all ≡ p ∷ drop (at + 1) all
      → Adds taken mark prints p.first (p.last + 1) found new → Going taken mark prints all new (at + 1)
  goes_more found new at p g first adds = record {
    inside = adds.inside g.inside;
    sound = λ t has. elim (adds.sound t has) [
      | inl before ↦ g.sound t before
      | inr w ↦
          let less = w.2 in
          (w.0, has_drop all at w.0 (subst (λ (l : List Places). Has l w.0) (sym first) (inl (w.1, omega (arith, less)))), w.3)
    ];
    complete = λ s t has leads. elim (g.complete s t has leads) [
      | inl there ↦ inl (adds.kept t there)
      | inr left ↦ by s t leads (subst (λ (l : List Places). Has l s) first left)
    ];
  }
    where
      by : (s t : ℕ) → Leads taken mark prints s t → Has (p ∷ drop (at + 1) all) s → Has new t ⊎ Has (drop (at + 1) all) s
      by s t leads has = elim has [
        | inl here ↦ let upto = here.1 in inl (adds.complete s t here.0 (omega (arith, upto)) leads)
        | inr later ↦ inr later
      ]

  pub gone : (found : List Places) (at : ℕ) → Going taken mark prints all found at → drop at all ≡ [] → AreAfter taken mark prints all found
  gone found at g over = record {
    inside = g.inside;
    sound = g.sound;
    complete = λ s t has leads. elim (g.complete s t has leads) [
      | inl there ↦ there
      | inr left ↦ absurd (subst (λ (l : List Places). Has l s) over left)
    ];
  }

  -- a place is inside that comes next
  pub next_inside : (at : ℕ) (p : Places) → AreInside (length prints) all → drop at all ≡ p ∷ drop (at + 1) all → (p.first ≤ p.last) × (p.last ≤ length prints)
  next_inside at p inside first =
      let w : AreInside (length prints) (p ∷ drop (at + 1) all) = subst (λ (l : List Places). AreInside (length prints) l) first (inside_drop (length prints) all at inside) in
      (w.0, w.1)
