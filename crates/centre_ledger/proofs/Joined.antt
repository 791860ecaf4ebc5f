-- Parts that are laid one after the other into zeros.
use Rattle.std.proofs.Common.{◌≡◌, ℕ, ◌+◌, ◌-◌, ◌≤◌, List, [], ◌++◌, length, take, drop, replicate, refl, sym, ap, ap₂, ◌∙◌, arith, length-append, append_assoc}
use Rattle.std.proofs.lemmas.List.{take_at, drop_at, drop-drop, drop-replicate, length-replicate, replicate-append-replicate}
use Rattle.centre_ledger.specs.Payload.{filled}

-- zeros after a front, and the next part laid into them
pub laid : (front part bytes new : List ℕ) (at n : ℕ) → length front ≡ at → bytes ≡ front ++ replicate n 0
    → new ≡ take at bytes ++ (part ++ drop (at + length part) bytes) → new ≡ (front ++ part) ++ replicate (n - length part) 0
laid front part bytes new at n l b e =
    let zeros : List ℕ = replicate n 0 in
    let first : take at bytes ≡ front = ap (take at) b ∙ take_at front zeros at l in
    let rest : drop (at + length part) bytes ≡ replicate (n - length part) 0 =
    sym (drop-drop (length part) at bytes) ∙ ap (λ x. drop (length part) (drop at x)) b ∙ ap (drop (length part)) (drop_at front zeros at l) ∙ drop-replicate (length part) n 0 in
    e ∙ ap₂ (λ x y. x ++ (part ++ y)) first rest ∙ sym (append_assoc front part (replicate (n - length part) 0))

-- some of the zeros after a part fill it
pub filling : (front part bytes : List ℕ) (size n : ℕ) → length part ≤ size → bytes ≡ (front ++ part) ++ replicate (size + n - length part) 0
    → bytes ≡ (front ++ filled size part) ++ replicate n 0
filling front part bytes size n h e =
    let more : List ℕ = replicate (size - length part) 0 in
    let count : size + n - length part ≡ size - length part + n = omega (arith, h) in
    let zeros : replicate (size + n - length part) 0 ≡ more ++ replicate n 0 =
    ap (λ k. replicate k 0) count ∙ sym (replicate-append-replicate (size - length part) n 0) in
    e ∙ ap (λ z. (front ++ part) ++ z) zeros ∙ sym (append_assoc (front ++ part) more (replicate n 0)) ∙ ap (λ x. x ++ replicate n 0) (append_assoc front part more)

-- five parts in a row
pub five : (a b c d e z : List ℕ) → ((((a ++ b) ++ c) ++ d) ++ e) ++ z ≡ a ++ (b ++ (c ++ (d ++ (e ++ z))))
five a b c d e z =
    append_assoc (((a ++ b) ++ c) ++ d) e z ∙ append_assoc ((a ++ b) ++ c) d (e ++ z) ∙ append_assoc (a ++ b) c (d ++ (e ++ z)) ∙ append_assoc a b (c ++ (d ++ (e ++ z)))

-- the five parts of a row, one laid after the other
pub row_laid : (head key sums request reply b1 b2 b3 b4 b5 : List ℕ) → length head ≡ 13 → length key ≡ 32 → length sums ≡ 24 → length request ≤ 55 → length reply ≤ 28
    → b1 ≡ take 0 (replicate 192 0) ++ (head ++ drop (0 + length head) (replicate 192 0))
    → b2 ≡ take 13 b1 ++ (key ++ drop (13 + length key) b1)
    → b3 ≡ take 45 b2 ++ (sums ++ drop (45 + length sums) b2)
    → b4 ≡ take 69 b3 ++ (request ++ drop (69 + length request) b3)
    → b5 ≡ take 124 b4 ++ (reply ++ drop (124 + length reply) b4)
    → b5 ≡ head ++ (key ++ (sums ++ (filled 55 request ++ (filled 28 reply ++ replicate 40 0))))
row_laid head key sums request reply b1 b2 b3 b4 b5 lh lk ls lq lp e1 e2 e3 e4 e5 =
    let n1 : length head ≡ 13 = lh in
    let n2 : length (head ++ key) ≡ 45 = omega (arith, lh, lk, length-append head key) in
    let n3 : length ((head ++ key) ++ sums) ≡ 69 = omega (arith, n2, ls, length-append (head ++ key) sums) in
    let n4 : length (((head ++ key) ++ sums) ++ filled 55 request) ≡ 124 =
    omega (arith, n3, lq, length-append ((head ++ key) ++ sums) (filled 55 request), length-append request (replicate (55 - length request) 0), length-replicate {A = ℕ} (55 - length request) 0) in
    let k1 : 192 - length head ≡ 179 = omega (arith, lh) in
    let k2 : 179 - length key ≡ 147 = omega (arith, lk) in
    let k3 : 147 - length sums ≡ 123 = omega (arith, ls) in
    let s1 : b1 ≡ head ++ replicate 179 0 = laid [] head (replicate 192 0) b1 0 192 refl refl e1 ∙ ap (λ n. head ++ replicate n 0) k1 in
    let s2 : b2 ≡ (head ++ key) ++ replicate 147 0 = laid head key b1 b2 13 179 n1 s1 e2 ∙ ap (λ n. (head ++ key) ++ replicate n 0) k2 in
    let s3 : b3 ≡ ((head ++ key) ++ sums) ++ replicate 123 0 = laid (head ++ key) sums b2 b3 45 147 n2 s2 e3 ∙ ap (λ n. ((head ++ key) ++ sums) ++ replicate n 0) k3 in
    let s4 = filling ((head ++ key) ++ sums) request b4 55 68 lq (laid ((head ++ key) ++ sums) request b3 b4 69 123 n3 s3 e4) in
    let s5 = filling (((head ++ key) ++ sums) ++ filled 55 request) reply b5 28 40 lp (laid (((head ++ key) ++ sums) ++ filled 55 request) reply b4 b5 124 68 n4 s4 e5) in
    s5 ∙ five head key sums (filled 55 request) (filled 28 reply) (replicate 40 0)
