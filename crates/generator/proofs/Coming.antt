-- What is still to come, after an event and at a new turn.
use Rattle.std.proofs.Common.{◌≡◌, ℕ, zero, suc, ◌+◌, List, [], ◌∷◌, ◌++◌, drop, ap, ◌∙◌, sym, refl, arith, Some, slice_get, add-one}
use Rattle.bench_base.specs.declared.events.Event.{Event}
use Rattle.generator.specs.declared.{turns.Counts.Counts, turns.Turn.Turn, parts.Part.Part, parts.Part.TheVariants.Turning, parts.Place.Place}
use Rattle.generator.specs.Draws.{number_after}
use Rattle.generator.specs.Turns.{turn_from, draws_of, events_of, counted}
use Rattle.generator.specs.Events.{turns}
use Rattle.generator.specs.Parts.{part_events, part_counted, left_of_part, to_come}

-- what is left from an element on
drop_at : {X : Type 0} (xs : List X) (i : ℕ) (x : X) → slice_get xs i ≡ Some x → drop i xs ≡ x ∷ drop (suc i) xs
drop_at [] i x h = absurd (cc h)
drop_at (y ∷ xs) zero x h = grind arith
drop_at (y ∷ xs) (suc i) x h = drop_at xs i x h

-- after an event the others are to come
pub taken : (part : Part) (given : ℕ) (c : Counts) (x n : ℕ) (e : Event) → slice_get (part_events c part) given ≡ Some e
    → to_come (record { part = part; given = given; counts = c; number = x; turns = n }) ≡ e ∷ to_come (record { part = part; given = given + 1; counts = c; number = x; turns = n })
unfolding to_come
taken part given c x n e h =
    ap (λ l. l ++ turns n x (part_counted c part)) (drop_at (part_events c part) given e h)
    ∙ ap (λ k. e ∷ (drop k (part_events c part) ++ turns n x (part_counted c part))) (sym (add-one given))

-- at a new turn the same is to come as at the end of the part before it
pub begun : (p : Place) (t : Turn) (y n : ℕ) → left_of_part p ≡ [] → p.turns ≡ suc n → t ≡ turn_from p.number → y ≡ number_after (draws_of t) p.number
    → to_come (record { part = Turning t; given = 0; counts = part_counted p.counts p.part; number = y; turns = n }) ≡ to_come p
unfolding to_come
begun p t y n done more drawn after =
    let c : Counts = part_counted p.counts p.part in
    let same : events_of c t ++ turns n y (counted c t) ≡ turns (suc n) p.number c = rw after (rw drawn refl) in
    same ∙ ap (λ m. turns m p.number c) (sym more) ∙ ap (λ l. l ++ turns p.turns p.number c) (sym done)

-- at the end of the last turn nothing is
pub ended : (p : Place) → left_of_part p ≡ [] → p.turns ≡ 0 → to_come p ≡ []
unfolding to_come
ended p done last = ap (λ l. l ++ turns p.turns p.number (part_counted p.counts p.part)) done ∙ ap (λ m. turns m p.number (part_counted p.counts p.part)) last
