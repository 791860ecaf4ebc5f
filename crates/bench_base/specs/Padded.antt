-- Bytes that are padded with zeros to a fixed size.
use Rattle.std.specs.Prelude.{◌≡◌, ℕ, ◌-◌, ◌≤◌, List, ◌++◌, length, take, drop, replicate, refl}
use Rattle.std.proofs.Common.{sym, ◌∙◌, ap, arith, take-append-drop, length-append}
use Rattle.std.proofs.lemmas.List.{length-take-le, drop-replicate, length-replicate, drop_at}

-- the first len bytes are free, and the rest zeros
pub record IsPadded (size len : ℕ) (bytes : List ℕ) : Type 0 where
  pub short : len ≤ size
  pub whole : length bytes ≡ size
  pub zeros : drop len bytes ≡ replicate (size - len) 0

-- == laws ==

-- the front and zeros are the bytes
pub refill : {A : Type 0} (size len : ℕ) (bytes : List ℕ) (make : List ℕ → ℕ → A) → IsPadded size len bytes
    → make (take len bytes ++ replicate (size - length (take len bytes)) 0) (length (take len bytes)) ≡ make bytes len
refill size len bytes make h =
    let fits : len ≤ length bytes = omega (arith, h.short, h.whole) in
    let count = length-take-le len bytes fits in
    let front = ap (λ n. take len bytes ++ replicate (size - n) 0) count in
    let rest = ap (λ r. take len bytes ++ r) (sym h.zeros) in
    ap (λ n. make (take len bytes ++ replicate (size - length (take len bytes)) 0) n) count
    ∙ ap (λ b. make b len) (front ∙ rest ∙ take-append-drop len bytes)

-- what a copy into the front of zeros leaves
pub padded_front : (size : ℕ) (bytes front : List ℕ) → length bytes ≤ size → front ≡ bytes
    → IsPadded size (length bytes) (front ++ drop (length bytes) (replicate size 0))
padded_front size bytes front short same =
    let rest = drop-replicate (length bytes) size 0 in
    let count = ap length rest ∙ length-replicate (size - length bytes) 0 in
    record {
      short = short;
      whole = length-append front (drop (length bytes) (replicate size 0)) ∙ omega (arith, count, ap length same);
      zeros = ap (λ f. drop (length bytes) (f ++ drop (length bytes) (replicate size 0))) same
          ∙ drop_at bytes (drop (length bytes) (replicate size 0)) (length bytes) refl ∙ rest;
    }
