-- A row that is written is read again, and what is read is written so.
use Rattle.std.specs.Int.{w32, from_be_bytes, to_be_bytes}
use Rattle.std.proofs.Common.{◌≡◌, ℕ, zero, suc, [], ◌∷◌, ◌+◌, ◌*◌, ◌/◌, ◌%◌, ◌^◌, ◌<◌, ◌≤◌, List, ◌++◌, length, get_or, take, drop, replicate, sym, ap, ap₂, ◌∙◌, refl, arith, inl, inr, length-append, append_assoc}
use Rattle.std.proofs.lemmas.Bool.{cases_lt}
use Rattle.std.proofs.lemmas.List.{length-take, length-drop, get_or-drop, get_or-take, get_or_past, take-append-drop, drop-take, take-take, take_at, drop_at, drop-drop}
use Rattle.std.proofs.lemmas.Nat.{be_bytes_2, be_bytes_4, be_bytes_8, from_be_bytes-to_be_bytes_2, from_be_bytes-to_be_bytes_4, from_be_bytes-to_be_bytes_8}
use Rattle.bench_base.specs.Table.{Size, One, Two, Four, Five, Eight, bytes_in, spelled, number, IsNumber, room, row, values, Fit, IsBytes}

pub IsBytes-drop : (n : ℕ) (bytes : List ℕ) → IsBytes bytes → IsBytes (drop n bytes)
IsBytes-drop n bytes h i = rw get_or-drop (h (n + i))

pub IsBytes-take : (n : ℕ) (bytes : List ℕ) → IsBytes bytes → IsBytes (take n bytes)
IsBytes-take n bytes h i =
    elim (cases_lt i n) [
      | inl lt ↦ rw (get_or-take n bytes i 0 lt) (h i)
      | inr le ↦ rw (get_or_past (take n bytes) i 0 (omega (arith, length-take n bytes))) (omega arith)
    ]

pub IsBytes-append : (a b : List ℕ) → IsBytes a → IsBytes b → IsBytes (a ++ b)
IsBytes-append [] b h k i = k i
IsBytes-append (x ∷ a) b h k zero = h 0
IsBytes-append (x ∷ a) b h k (suc i) = IsBytes-append a b (λ j. h (suc j)) k i

pub IsBytes-zeros : (n : ℕ) → IsBytes (replicate n 0)
IsBytes-zeros zero i = omega arith
IsBytes-zeros (suc n) zero = omega arith
IsBytes-zeros (suc n) (suc i) = IsBytes-zeros n i

long_part : (at n : ℕ) (bytes : List ℕ) → at + n ≤ length bytes → length (take n (drop at bytes)) ≡ n
long_part at n bytes h = omega (arith, length-take n (drop at bytes), length-drop at bytes)

one_cell : (bytes : List ℕ) → length bytes ≡ 1 → get_or bytes 0 0 ∷ [] ≡ bytes
one_cell [] h = absurd (omega (arith, h))
one_cell (x ∷ []) h = refl
one_cell (x ∷ y ∷ rest) h = absurd (omega (arith, h))

-- five bytes are a byte and a number of four
five_bytes : (x : ℕ) (rest : List ℕ) → length rest ≡ 4 → IsBytes (x ∷ rest) → spelled Five (number Five (x ∷ rest)) ≡ x ∷ rest
unfolding spelled number
five_bytes x rest l h =
    let low : ℕ = from_be_bytes w32 rest in
    let under : low < 2 ^ 32 = omega (arith, h 1, h 2, h 3, h 4) in
    let high : (x * 2 ^ 32 + low) / 2 ^ 32 ≡ x = omega (arith, under) in
    let same : (x * 2 ^ 32 + low) % 2 ^ 32 ≡ low = omega (arith, under) in
    ap₂ (λ a b. a ∷ b) high (ap (to_be_bytes w32) same ∙ be_bytes_4 rest low l (λ i. h (suc i)) refl)

-- the bytes of the number of these bytes
pub spelled_number : (s : Size) (bytes : List ℕ) → length bytes ≡ bytes_in s → IsBytes bytes → spelled s (number s bytes) ≡ bytes
unfolding spelled number
spelled_number One bytes l h = one_cell bytes l
spelled_number Two bytes l h = be_bytes_2 bytes _ l h refl
spelled_number Four bytes l h = be_bytes_4 bytes _ l h refl
spelled_number Five [] l h = absurd (omega (arith, l))
spelled_number Five (x ∷ rest) l h = five_bytes x rest (omega (arith, l)) h
spelled_number Eight bytes l h = be_bytes_8 bytes _ l h refl

-- the number of the bytes of a number
pub number_spelled : (s : Size) (n : ℕ) → IsNumber s n → number s (spelled s n) ≡ n
unfolding spelled number
number_spelled One n h = refl
number_spelled Two n h = from_be_bytes-to_be_bytes_2 n h
number_spelled Four n h = from_be_bytes-to_be_bytes_4 n h
number_spelled Five n h =
    ap (λ r. n / 2 ^ 32 * 2 ^ 32 + r) (from_be_bytes-to_be_bytes_4 (n % 2 ^ 32) (omega arith)) ∙ omega arith
number_spelled Eight n h = from_be_bytes-to_be_bytes_8 n h

pub length_spelled : (s : Size) (n : ℕ) → length (spelled s n) ≡ bytes_in s
unfolding spelled
length_spelled One n = refl
length_spelled Two n = refl
length_spelled Four n = refl
length_spelled Five n = refl
length_spelled Eight n = refl

pub number_fits : (s : Size) (bytes : List ℕ) → IsBytes bytes → IsNumber s (number s bytes)
unfolding number
number_fits One bytes h = h 0
number_fits Two bytes h = omega (arith, h 0, h 1)
number_fits Four bytes h = omega (arith, h 0, h 1, h 2, h 3)
number_fits Five bytes h =
    let rest : IsBytes (drop 1 bytes) = IsBytes-drop 1 bytes h in
    omega (arith, h 0, rest 0, rest 1, rest 2, rest 3)
number_fits Eight bytes h = omega (arith, h 0, h 1, h 2, h 3, h 4, h 5, h 6, h 7)

pub length_row : (ss : List Size) (vs : List ℕ) → Fit ss vs → length (row ss vs) ≡ room ss
length_row [] vs h = refl
length_row (s ∷ ss) [] h = absurd h
length_row (s ∷ ss) (v ∷ vs) h = length-append (spelled s v) (row ss vs) ∙ ap₂ (λ a b. a + b) (length_spelled s v) (length_row ss vs h.1)

-- what is read at a place is a number for each field, and it fits
pub values_fit : (ss : List Size) (at : ℕ) (bytes : List ℕ) → IsBytes bytes → Fit ss (values at ss bytes)
values_fit [] at bytes h = tt
values_fit (s ∷ ss) at bytes h = (number_fits s (take (bytes_in s) (drop at bytes)) (IsBytes-take (bytes_in s) (drop at bytes) (IsBytes-drop at bytes h)), values_fit ss (at + bytes_in s) bytes h)

-- two parts that stand one after the other
pub joined : (at m n : ℕ) (bytes : List ℕ) → take m (drop at bytes) ++ take n (drop (at + m) bytes) ≡ take (m + n) (drop at bytes)
joined at m n bytes =
    let rest : List ℕ = drop at bytes in
    ap (λ x. take m rest ++ take n x) (sym (drop-drop m at bytes))
    ∙ ap (λ y. take m rest ++ y) (sym (drop-take m n rest))
    ∙ ap (λ y. y ++ drop m (take (m + n) rest)) (sym (take-take m (m + n) rest (omega arith)))
    ∙ take-append-drop m (take (m + n) rest)

-- THE FIRST LAW: what is read at a place is written there
pub row_values : (ss : List Size) (at : ℕ) (bytes : List ℕ) → at + room ss ≤ length bytes → IsBytes bytes → row ss (values at ss bytes) ≡ take (room ss) (drop at bytes)
row_values [] at bytes l h = refl
row_values (s ∷ ss) at bytes l h =
    ap₂ (λ a b. a ++ b)
    (spelled_number s (take (bytes_in s) (drop at bytes)) (long_part at (bytes_in s) bytes (omega arith)) (IsBytes-take (bytes_in s) (drop at bytes) (IsBytes-drop at bytes h)))
    (row_values ss (at + bytes_in s) bytes (omega arith) h)
    ∙ joined at (bytes_in s) (room ss) bytes

-- THE SECOND LAW: what is written at a place is read there
pub values_row : (ss : List Size) (vs front rest : List ℕ) (at : ℕ) → length front ≡ at → Fit ss vs → values at ss (front ++ (row ss vs ++ rest)) ≡ vs
values_row [] [] front rest at l h = refl
values_row [] (v ∷ vs) front rest at l h = absurd h
values_row (s ∷ ss) [] front rest at l h = absurd h
values_row (s ∷ ss) (v ∷ vs) front rest at l h =
    let text : List ℕ = front ++ ((spelled s v ++ row ss vs) ++ rest) in
    let regroup : text ≡ (front ++ spelled s v) ++ (row ss vs ++ rest) = simp append_assoc in
    let tail : drop at text ≡ (spelled s v ++ row ss vs) ++ rest = drop_at front ((spelled s v ++ row ss vs) ++ rest) at l in
    let part : take (bytes_in s) (drop at text) ≡ spelled s v =
    ap (take (bytes_in s)) (tail ∙ append_assoc (spelled s v) (row ss vs) rest) ∙ take_at (spelled s v) (row ss vs ++ rest) (bytes_in s) (length_spelled s v) in
    let first : number s (take (bytes_in s) (drop at text)) ≡ v = ap (number s) part ∙ number_spelled s v h.0 in
    let others : values (at + bytes_in s) ss text ≡ vs =
    ap (values (at + bytes_in s) ss) regroup
    ∙ values_row ss vs (front ++ spelled s v) rest (at + bytes_in s) (length-append front (spelled s v) ∙ ap₂ (λ a b. a + b) l (length_spelled s v)) h.1 in
    ap₂ (λ x xs. x ∷ xs) first others

-- the first two fields of a message are a byte each
pub first_number : (bytes : List ℕ) → number One (take 1 bytes) ≡ get_or bytes 0 0
unfolding number
first_number [] = refl
first_number (x ∷ bytes) = refl

pub second_number : (bytes : List ℕ) → number One (take 1 (drop 1 bytes)) ≡ get_or bytes 1 0
second_number [] = first_number []
second_number (x ∷ bytes) = first_number bytes

pub first_cell : (v : ℕ) (ss : List Size) (vs rest : List ℕ) → get_or (row (One ∷ ss) (v ∷ vs) ++ rest) 0 0 ≡ v
unfolding spelled
first_cell v ss vs rest = refl

pub second_cell : (v t : ℕ) (ss : List Size) (vs rest : List ℕ) → get_or (row (One ∷ One ∷ ss) (v ∷ t ∷ vs) ++ rest) 1 0 ≡ t
unfolding spelled
second_cell v t ss vs rest = refl
