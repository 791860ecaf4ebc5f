-- Commits fill the slots of a ring in turn.
use Rattle.std.proofs.Common.{◌≡◌, ◌≢◌, inl, inr, ℕ, zero, suc, ◌+◌, ◌-◌, ◌*◌, ◌/◌, ◌%◌, ◌<◌, ◌≤◌, List, length, set, get_or, sum, sym, ◌∙◌, ap, subst, arith}
use Rattle.std.proofs.lemmas.Bool.{cases_eq, cases_order}
use Rattle.std.proofs.lemmas.Bool.Decides.{nat_tests}
use Rattle.std.proofs.lemmas.List.{get_or-set_same, get_or-set_other}
use Rattle.nv_store.specs.Cells.{next_of}
use Rattle.nv_store.specs.declared.head.Head.{Head}
use Rattle.nv_ring.specs.declared.wear.Wear.{Wear}
use Rattle.nv_ring.specs.Turns.{slot_after, fills_of, IsWearOf}

-- slot i was filled f times by n commits: the commits since it was last filled, and those before it was first filled, are the rest of rounds
Turn : ℕ → ℕ → ℕ → ℕ → Type 0
Turn start n i f = 16 * f + (start + n + 16 - i) % 16 + (i + 31 - start) % 16 ≡ n + 15

turn_here : (start n i f : ℕ) → start < 16 → i < 16 → i ≡ slot_after start (n + 1) → Turn start n i f → Turn start (n + 1) i (f + 1)
unfolding Turn
turn_here start n i f lt lt' is turn = omega (arith, lt, lt', is, turn)

turn_there : (start n i f : ℕ) → start < 16 → i < 16 → i ≢ slot_after start (n + 1) → Turn start n i f → Turn start (n + 1) i f
unfolding Turn
turn_there start n i f lt lt' differs turn = elim (cases_order i (slot_after start (n + 1))) [
  | inl is ↦ absurd (differs is)
  | inr (inl less) ↦ omega (arith, lt, lt', less, turn)
  | inr (inr more) ↦ omega (arith, lt, lt', more, turn)
]

turn_bound : (start n i f : ℕ) → Turn start n i f → f ≤ n / 16 + 1
unfolding Turn
turn_bound start n i f turn = omega (arith, turn)

turn_none : (start i : ℕ) → start < 16 → i < 16 → Turn start 0 i 0
unfolding Turn
turn_none start i lt lt' = omega (arith, lt, lt')

-- one commit more
fills_here : (start n i : ℕ) → i ≡ slot_after start (n + 1) → fills_of start (n + 1) i ≡ fills_of start n i + 1
fills_here start n i is = ap (λ (m : ℕ). fills_of start m i) more ∙ grind (arith, nat_tests)
  where
    more : n + 1 ≡ suc n
    more = omega arith

fills_there : (start n i : ℕ) → i ≢ slot_after start (n + 1) → fills_of start (n + 1) i ≡ fills_of start n i
fills_there start n i differs = ap (λ (m : ℕ). fills_of start m i) more ∙ grind (arith, nat_tests)
  where
    more : n + 1 ≡ suc n
    more = omega arith

fills_turn : (start n i : ℕ) → start < 16 → i < 16 → Turn start n i (fills_of start n i)
fills_turn start zero i lt lt' = turn_none start i lt lt'
fills_turn start (suc n) i lt lt' = elim (cases_eq i (slot_after start (n + 1))) [
  | inl is ↦ subst (λ (m : ℕ). Turn start m i (fills_of start m i)) more (subst (λ (f : ℕ). Turn start (n + 1) i f) (sym (fills_here start n i is)) (turn_here start n i (fills_of start n i) lt lt' is (fills_turn start n i lt lt')))
  | inr differs ↦ subst (λ (m : ℕ). Turn start m i (fills_of start m i)) more (subst (λ (f : ℕ). Turn start (n + 1) i f) (sym (fills_there start n i differs)) (turn_there start n i (fills_of start n i) lt lt' differs (fills_turn start n i lt lt')))
]
  where
    more : n + 1 ≡ suc n
    more = omega arith

-- a slot's share of n commits
pub fills_of_le : (start n i : ℕ) → start < 16 → i < 16 → fills_of start n i ≤ n / 16 + 1
fills_of_le start n i lt lt' = turn_bound start n i (fills_of start n i) (fills_turn start n i lt lt')

-- the next slot is the slot after n + 1 commits
next_turn : (start n count place : ℕ) → (0 < count → place ≡ slot_after start n) → (count ≡ 0 → (start ≡ 15) × (n ≡ 0)) → next_of count place 16 ≡ slot_after start (n + 1)
next_turn start n count place turn blank = elim (cases_eq count 0) [
  | inl none ↦ let b = blank none in let s : start ≡ 15 = b.0 in let z : n ≡ 0 = b.1 in grind (arith, nat_tests)
  | inr some ↦ picked (omega arith) ∙ omega (arith, turn (omega arith))
]
  where
    picked : 0 < count → next_of count place 16 ≡ (place + 1) % 16
    picked some = grind (arith, nat_tests)

module _ (wear : Wear) (before head : Head) (is : IsWearOf wear before) (next : head.count ≡ before.count + 1) (goes : head.place ≡ next_of before.count before.place 16) (long : length wear.fills ≡ 16) (inside : head.place < 16)
    (fills : List ℕ) (set_is : fills ≡ set wear.fills head.place (get_or wear.fills head.place 0 + 1)) (total : sum fills ≡ sum wear.fills + 1) where
  n : ℕ
  n = sum wear.fills

  turn : head.place ≡ slot_after wear.start (sum wear.fills + 1)
  turn = goes ∙ next_turn wear.start (sum wear.fills) before.count before.place is.place (λ none. (is.blank none, omega (arith, is.count, none)))

  each : (i : ℕ) → i < 16 → get_or fills i 0 ≡ fills_of wear.start (sum wear.fills + 1) i
  each i lt = elim (cases_eq i head.place) [
    | inl at ↦
        let room : head.place < length wear.fills = omega (arith, long, inside) in
        ap (λ (l : List ℕ). get_or l i 0) set_is ∙ ap (λ (k : ℕ). get_or (set wear.fills head.place (get_or wear.fills head.place 0 + 1)) k 0) at
        ∙ get_or-set_same wear.fills head.place (get_or wear.fills head.place 0 + 1) 0 room
        ∙ ap (λ (k : ℕ). get_or wear.fills k 0 + 1) (sym at) ∙ ap (λ (f : ℕ). f + 1) (is.fills i lt) ∙ sym (fills_here wear.start (sum wear.fills) i (at ∙ turn))
    | inr differs ↦
        ap (λ (l : List ℕ). get_or l i 0) set_is ∙ get_or-set_other wear.fills head.place i (get_or wear.fills head.place 0 + 1) 0 differs
        ∙ is.fills i lt ∙ sym (fills_there wear.start (sum wear.fills) i (λ e. differs (e ∙ sym turn)))
  ]

  pub wear_next : IsWearOf (record { first = wear.first; start = wear.start; fills = fills }) head
  wear_next = record {
    start = is.start;
    count = omega (arith, total, is.count, next);
    fills = λ i lt. each i lt ∙ ap (λ (m : ℕ). fills_of wear.start m i) (sym total);
    place = λ some. turn ∙ ap (λ (m : ℕ). slot_after wear.start m) (sym total);
    blank = λ none. absurd (omega (arith, none, next));
  }
