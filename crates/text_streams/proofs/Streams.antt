-- Writes and reads of known bytes, joined.
use Rattle.std.proofs.Common.{◌≡◌, ℕ, ◌+◌, ◌-◌, ◌≤◌, List, ◌++◌, length, take, drop, Option, sym, ap, ◌∙◌, arith, subst, take-append-drop}
use Rattle.std.proofs.lemmas.List.{take-take, drop-take, length-take-le, take-append-le}
use lib.Seq.{take-append-add}
use Rattle.std.proofs.KnownBytes.{Appends-trans, Consumes-trans}
use Rattle.std.specs.Io.KnownBytes.{Appends, Consumes}
use borrow.Rule.Slice.PartMut.{put_mid}

take_parts : (xs : List ℕ) (a n : ℕ) → take (a + n) xs ≡ take a xs ++ take n (drop a xs)
take_parts xs a n =
    sym (take-append-drop a (take (a + n) xs))
    ∙ ap (λ t. t ++ drop a (take (a + n) xs)) (take-take a (a + n) xs (omega arith))
    ∙ ap (λ t. take a xs ++ t) (drop-take a n xs)

-- one write more
pub put_more : (a b c : Option (List ℕ)) (bytes : List ℕ) (at n : ℕ) → at + n ≤ length bytes → Appends a b (take at bytes)
    → Appends b c (take n (take (length bytes - at) (drop at bytes))) → Appends a c (take (at + n) bytes)
put_more a b c bytes at n fits first next =
    let short = take-take n (length bytes - at) (drop at bytes) (omega arith) in
    let whole = ap (λ t. take at bytes ++ t) short ∙ sym (take_parts bytes at n) in
    subst (Appends a c) whole (Appends-trans a b c _ _ first next)

-- what the prefix of the buffer has then
take_read : (buffer room : List ℕ) (at k n : ℕ) → at ≤ length buffer → n ≤ length room → take (at + n) (put_mid at k buffer room) ≡ take at buffer ++ take n room
take_read buffer room at k n inside fits =
    let prefix : length (take at buffer) ≡ at = length-take-le at buffer inside in
    ap (λ (i : ℕ). take (i + n) (put_mid at k buffer room)) (sym prefix)
    ∙ take-append-add (take at buffer) (room ++ drop k (drop at buffer)) n
    ∙ ap (λ t. take at buffer ++ t) (take-append-le n room (drop k (drop at buffer)) fits)

-- one read more, after what was read into the prefix of a buffer
pub take_more : (a b c : Option (List ℕ)) (buffer room : List ℕ) (at k n : ℕ) → at ≤ length buffer → n ≤ length room → Consumes a b (take at buffer)
    → Consumes b c (take n room) → Consumes a c (take (at + n) (put_mid at k buffer room))
take_more a b c buffer room at k n inside fits first next =
    subst (Consumes a c) (sym (take_read buffer room at k n inside fits)) (Consumes-trans a b c _ _ first next)
