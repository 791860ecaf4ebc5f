-- A read of a source in memory.
use Rattle.std.proofs.Common.{◌≡◌, ℕ, ◌+◌, ◌-◌, ◌≤◌, ◌<◌, min, List, [], ◌++◌, length, take, drop, sym, ap, ◌∙◌, arith, take-append-drop}
use Rattle.std.proofs.lemmas.List.{take_at, drop-drop, drop_all, length-drop, length-append}

-- what is left before a read is what it gave and what is left after it
pub split_left : (items left part over : List ℕ) (at n : ℕ) → drop at items ≡ left → part ≡ take (at + n - at) (drop at items) → length part ≡ n
    → left ≡ take n (part ++ over) ++ drop (at + n) items
split_left items left part over at n view is count =
    let same : at + n - at ≡ n = omega arith in
    let gave : part ≡ take n (drop at items) = is ∙ ap (λ k. take k (drop at items)) same in
    sym view ∙ sym (take-append-drop n (drop at items))
    ∙ ap (λ x. x ++ drop n (drop at items)) (sym gave ∙ sym (take_at part over n count))
    ∙ ap (λ x. take n (part ++ over) ++ x) (drop-drop n at items)

-- a read that gives nothing into some room is at the end
pub none_left : (items part old : List ℕ) (at n piece : ℕ) → n ≡ min (min (length old) piece) (length items - at) → length part ≡ n → 1 ≤ piece
    → n ≡ 0 → 0 < length (part ++ drop n old) → drop (at + n) items ≡ []
none_left items part old at n piece is count some zero room =
    let long = length-append part (drop n old) in
    let rest = length-drop n old in
    drop_all (at + n) items (omega (arith, is, count, some, zero, room, long, rest))
