-- Numbers of four bytes, one after the other: how they are read, written and replaced.
use Rattle.std.proofs.Common.{◌≡◌, ℕ, zero, suc, [], ◌∷◌, ◌+◌, ◌-◌, ◌*◌, ◌<◌, ◌≤◌, ◌^◌, List, ◌++◌, length, get_or, set, take, drop, replicate, refl, sym, ap, ap₂, ◌∙◌, arith, length-append, append_assoc}
use Rattle.std.specs.Int.{w32, to_be_bytes}
use Rattle.std.proofs.Math.Seq.{take-append-add}
use Rattle.std.proofs.lemmas.List.{take_at, drop_at, drop-drop, take-append-drop, length-take, length-drop, drop-replicate, take-replicate, replicate-append-replicate, nil_from_length}
use Rattle.bench_base.specs.Table.{Four, spelled, number, IsBytes}
use Rattle.bench_base.proofs.Tables.{IsBytes-drop, IsBytes-take, length_spelled, number_spelled, spelled_number, number_fits}
use Rattle.node_acts.specs.RowList.{listed}
use Rattle.node_acts.specs.RowLaws.{listed_same}
use Rattle.verifier.specs.Payload.{words, word_at}

pub length_words : (ns : List ℕ) → length (words ns) ≡ 4 * length ns
length_words [] = refl
length_words (n ∷ ns) = omega (arith, length-append (spelled Four n) (words ns), length_spelled Four n, length_words ns)

-- the numbers after the first
behind : (k : ℕ) (n : ℕ) (ns : List ℕ) → drop (4 + k) (words (n ∷ ns)) ≡ drop k (words ns)
behind k n ns = sym (drop-drop k 4 (words (n ∷ ns))) ∙ ap (drop k) (drop_at (spelled Four n) (words ns) 4 (length_spelled Four n))

four_more : (i : ℕ) → 4 * suc i ≡ 4 + 4 * i
four_more i = omega arith

-- == reading ==

-- what is written is read
pub word_words : (ns : List ℕ) (i : ℕ) → i < length ns → get_or ns i 0 < 2 ^ 32 → word_at i (words ns) ≡ get_or ns i 0
unfolding word_at
word_words [] i lt small = absurd (omega arith)
word_words (n ∷ ns) zero lt small = ap (λ x. number Four x) (take_at (spelled Four n) (words ns) 4 (length_spelled Four n)) ∙ number_spelled Four n small
word_words (n ∷ ns) (suc i) lt small =
    ap (λ k. number Four (take 4 (drop k (words (n ∷ ns))))) (four_more i)
    ∙ ap (λ x. number Four (take 4 x)) (behind (4 * i) n ns)
    ∙ word_words ns i (omega arith) small

pub word_next : (i : ℕ) (bytes : List ℕ) → word_at (suc i) bytes ≡ word_at i (drop 4 bytes)
unfolding word_at
word_next i bytes =
    ap (λ k. number Four (take 4 (drop k bytes))) (four_more i) ∙ ap (λ x. number Four (take 4 x)) (sym (drop-drop (4 * i) 4 bytes))

pub word_fits : (i : ℕ) (bytes : List ℕ) → IsBytes bytes → word_at i bytes < 2 ^ 32
unfolding word_at
word_fits i bytes h = number_fits Four (take 4 (drop (4 * i) bytes)) (IsBytes-take 4 (drop (4 * i) bytes) (IsBytes-drop (4 * i) bytes h))

first_word : (bytes : List ℕ) → 4 ≤ length bytes → IsBytes bytes → spelled Four (word_at 0 bytes) ≡ take 4 bytes
unfolding word_at
first_word bytes long h = spelled_number Four (take 4 bytes) (omega (arith, length-take 4 bytes)) (IsBytes-take 4 bytes h)

-- what is read is written
pub words_back : (n : ℕ) (bytes : List ℕ) → length bytes ≡ 4 * n → IsBytes bytes → words (listed n (λ i. word_at i bytes)) ≡ bytes
unfolding listed
words_back zero bytes long h = sym (nil_from_length bytes long)
words_back (suc n) bytes long h =
    ap₂ (λ x y. x ++ y)
    (first_word bytes (omega arith) h)
    (ap words (listed_same n (λ i. word_at (suc i) bytes) (λ i. word_at i (drop 4 bytes)) (λ i lt. word_next i bytes))
    ∙ words_back n (drop 4 bytes) (omega (arith, length-drop 4 bytes)) (IsBytes-drop 4 bytes h))
    ∙ take-append-drop 4 bytes

-- == zeros ==

pub zero_word : (i m : ℕ) → 4 * i + 4 ≤ m → word_at i (replicate m 0) ≡ 0
unfolding word_at number
zero_word i m le =
    ap (λ x. number Four (take 4 x)) (drop-replicate (4 * i) m 0) ∙ ap (λ x. number Four x) (take-replicate 4 (m - 4 * i) 0 (omega arith))

zero_four : spelled Four 0 ≡ replicate 4 0
unfolding spelled
zero_four = refl

pub words_zeros : (n : ℕ) → words (replicate n 0) ≡ replicate (4 * n) 0
words_zeros zero = refl
words_zeros (suc n) =
    ap₂ (λ x y. x ++ y) zero_four (words_zeros n) ∙ replicate-append-replicate 4 (4 * n) 0 ∙ ap (λ k. replicate k 0) (sym (four_more n))

-- numbers that are all 0
pub all_zeros : (ns : List ℕ) → ((j : ℕ) → get_or ns j 0 ≡ 0) → replicate (length ns) 0 ≡ ns
all_zeros [] none = refl
all_zeros (n ∷ ns) none = ap₂ (λ x y. x ∷ y) (sym (none 0)) (all_zeros ns (λ j. none (suc j)))

-- == one number more ==

-- a number that is put in its place
pub words_set : (ns : List ℕ) (i v : ℕ) → i < length ns → words (set ns i v) ≡ take (4 * i) (words ns) ++ (spelled Four v ++ drop (4 + 4 * i) (words ns))
words_set [] i v lt = absurd (omega arith)
words_set (n ∷ ns) zero v lt = ap (λ x. spelled Four v ++ x) (sym (drop_at (spelled Four n) (words ns) 4 (length_spelled Four n)))
words_set (n ∷ ns) (suc i) v lt =
    ap (λ x. spelled Four n ++ x) (words_set ns i v (omega arith))
    ∙ sym (append_assoc (spelled Four n) (take (4 * i) (words ns)) (spelled Four v ++ drop (4 + 4 * i) (words ns)))
    ∙ ap₂ (λ x y. x ++ (spelled Four v ++ y)) (sym front) (sym back)
  where
    front : take (4 * suc i) (words (n ∷ ns)) ≡ spelled Four n ++ take (4 * i) (words ns)
    front = ap (λ k. take k (words (n ∷ ns))) (four_more i ∙ ap (λ k. k + 4 * i) (sym (length_spelled Four n))) ∙ take-append-add (spelled Four n) (words ns) (4 * i)

    back : drop (4 + 4 * suc i) (words (n ∷ ns)) ≡ drop (4 + 4 * i) (words ns)
    back = ap (λ k. drop k (words (n ∷ ns))) (omega arith) ∙ behind (4 + 4 * i) n ns

pub put_word : (ns : List ℕ) (i v at : ℕ) (old new : List ℕ) → i < length ns → at ≡ 4 * i → words ns ≡ old
    → new ≡ (take at old ++ to_be_bytes w32 v) ++ drop (at + 4) old → new ≡ words (set ns i v)
unfolding spelled
put_word ns i v at old new lt place is made =
    made ∙ append_assoc (take at old) (to_be_bytes w32 v) (drop (at + 4) old)
    ∙ ap₂ (λ x y. x ++ (to_be_bytes w32 v ++ y))
    (ap₂ (λ k l. take k l) place (sym is))
    (ap₂ (λ k l. drop k l) (omega (arith, place)) (sym is))
    ∙ sym (words_set ns i v lt)
