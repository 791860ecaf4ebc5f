-- Ranges of a content after a change of one range.
use Rattle.std.proofs.Common.{◌≡◌, ◌⊎◌, inl, inr, ℕ, suc, ◌+◌, ◌-◌, ◌≤◌, ◌<◌, List, ◌∷◌, ◌++◌, length, take, drop, get_or, sym, ◌∙◌, ap, arith, refl, append_assoc, length-append, length-drop}
use Rattle.std.proofs.lemmas.List.{take-take, drop-take, drop-drop, drop_more, take_at, drop_at, length-take-le}
use Rattle.nv_model.specs.Bytes.{SameOutside, laid, range}

-- a range before the change
pub range_before : (at n : ℕ) (a b : List ℕ) (o m : ℕ) → SameOutside at n a b → o + m ≤ at → range b o m ≡ range a o m
range_before at n a b o m same le =
    let front : (l : List ℕ) → range l o m ≡ drop o (take (o + m) (take at l)) = λ l. sym (drop-take o m l) ∙ ap (λ (k : List ℕ). drop o k) (sym (take-take (o + m) at l le)) in
    front b ∙ ap (λ (l : List ℕ). drop o (take (o + m) l)) same.before ∙ sym (front a)

-- a range after the change
pub range_behind : (at n : ℕ) (a b : List ℕ) (o m : ℕ) → SameOutside at n a b → at + n ≤ o → range b o m ≡ range a o m
range_behind at n a b o m same le =
    let skip = o - (at + n) in
    let back : (l : List ℕ) → drop skip (drop (at + n) l) ≡ drop o l = λ l. drop-drop skip (at + n) l ∙ ap (λ (k : ℕ). drop k l) (omega arith) in
    ap (λ (l : List ℕ). take m l) (sym (back b) ∙ ap (λ (l : List ℕ). drop skip l) same.after ∙ back a)

pub range_apart : (at n : ℕ) (a b : List ℕ) (o m : ℕ) → SameOutside at n a b → (o + m ≤ at) ⊎ (at + n ≤ o) → range b o m ≡ range a o m
range_apart at n a b o m same (inl le) = range_before at n a b o m same le
range_apart at n a b o m same (inr le) = range_behind at n a b o m same le

-- the first byte of a range, and the rest
pub range_first : (c : List ℕ) (o m : ℕ) → o < length c → range c o (1 + m) ≡ get_or c o 0 ∷ range c (o + 1) m
range_first c o m lt = ap (λ (l : List ℕ). take (1 + m) l) (drop_more c o 0 lt) ∙ ap (λ (k : ℕ). take k (get_or c o 0 ∷ drop (o + 1) c)) one
  where
    one : 1 + m ≡ suc m
    one = omega arith

-- a change of a smaller range is one of the larger
pub outside_wider : (at n o m : ℕ) (a b : List ℕ) → SameOutside o m a b → at ≤ o → o + m ≤ at + n → SameOutside at n a b
outside_wider at n o m a b same le ge =
    let front : (l : List ℕ) → take at (take o l) ≡ take at l = λ l. take-take at o l le in
    let skip = at + n - (o + m) in
    let back : (l : List ℕ) → drop skip (drop (o + m) l) ≡ drop (at + n) l = λ l. drop-drop skip (o + m) l ∙ ap (λ (k : ℕ). drop k l) (omega arith) in
    record {
      size = same.size;
      before = sym (front b) ∙ ap (λ (l : List ℕ). take at l) same.before ∙ front a;
      after = sym (back b) ∙ ap (λ (l : List ℕ). drop skip l) same.after ∙ back a;
    }

-- what was laid over a range
pub laid_outside : (old : List ℕ) (at : ℕ) (bytes : List ℕ) → at + length bytes ≤ length old → SameOutside at (length bytes) old (laid old at bytes)
laid_outside old at bytes le =
    let front : length (take at old) ≡ at = length-take-le at old (omega arith) in
    let n = length bytes in
    let rest = drop (at + n) old in
    record {
      size = length-append (take at old ++ bytes) rest ∙ omega (arith, front, length-append (take at old) bytes, length-drop (at + n) old);
      before = ap (λ (l : List ℕ). take at l) (append_assoc (take at old) bytes rest) ∙ take_at (take at old) (bytes ++ rest) at front;
      after = drop_at (take at old ++ bytes) rest (at + n) (omega (arith, front, length-append (take at old) bytes));
    }

pub laid_range : (old : List ℕ) (at : ℕ) (bytes : List ℕ) → at + length bytes ≤ length old → range (laid old at bytes) at (length bytes) ≡ bytes
laid_range old at bytes le =
    let front : length (take at old) ≡ at = length-take-le at old (omega arith) in
    let rest = drop (at + length bytes) old in
    ap (λ (l : List ℕ). range l at (length bytes)) (append_assoc (take at old) bytes rest)
    ∙ ap (λ (l : List ℕ). take (length bytes) l) (drop_at (take at old) (bytes ++ rest) at front) ∙ take_at bytes rest (length bytes) refl
