-- The marks of a manifest, one after the other in its text.
use Rattle.std.proofs.Common.{◌≡◌, ℕ, zero, suc, ◌+◌, ◌*◌, ◌<◌, ◌≤◌, List, [], ◌∷◌, ◌++◌, length, take, drop, get_or, refl, sym, ap, ◌∙◌, arith, take-append-drop, add-one}
use Rattle.std.proofs.lemmas.List.{take_all, take-append-le, drop-append-le, length-drop}
use Rattle.std.proofs.Math.Seq.{drop-drop}
use Rattle.mail_manifest.specs.Listings.{marks_text}
use Rattle.mail_manifest.specs.Held.{marks_in}

pub marks_long : (n : ℕ) (bytes : List ℕ) → length (marks_in n bytes) ≡ n
marks_long zero bytes = refl
marks_long (suc n) bytes = ap suc (marks_long n (drop 64 bytes))

-- a mark more
added : (n : ℕ) (bytes mark : List ℕ) → length bytes ≡ 64 * n → length mark ≡ 64 → marks_in (suc n) (bytes ++ mark) ≡ marks_in n bytes ++ mark ∷ []
added zero [] mark long size = ap (λ (m : List ℕ). m ∷ []) (take_all 64 mark (omega (arith, size)))
added zero (b ∷ bytes) mark long size = absurd (omega (arith, long))
added (suc n) bytes mark long size =
    let le : 64 ≤ length bytes = omega (arith, long) in
    let rest : length (drop 64 bytes) ≡ 64 * n = length-drop 64 bytes ∙ omega (arith, long) in
    ap (λ (m : List ℕ). m ∷ marks_in (suc n) (drop 64 (bytes ++ mark))) (take-append-le 64 bytes mark le)
    ∙ ap (λ (l : List ℕ). take 64 bytes ∷ marks_in (suc n) l) (drop-append-le 64 bytes mark le)
    ∙ ap (λ (l : List (List ℕ)). take 64 bytes ∷ l) (added n (drop 64 bytes) mark rest size)

pub marks_added : (n : ℕ) (bytes mark : List ℕ) → length bytes ≡ 64 * n → length mark ≡ 64 → marks_in (n + 1) (bytes ++ mark) ≡ marks_in n bytes ++ mark ∷ []
marks_added n bytes mark long size = ap (λ (k : ℕ). marks_in k (bytes ++ mark)) (add-one n) ∙ added n bytes mark long size

-- one after the other they are the bytes again
pub marks_again : (n : ℕ) (bytes : List ℕ) → length bytes ≡ 64 * n → marks_text (marks_in n bytes) ≡ bytes
marks_again zero [] long = refl
marks_again zero (b ∷ bytes) long = absurd (omega (arith, long))
marks_again (suc n) bytes long =
    ap (λ (l : List ℕ). take 64 bytes ++ l) (marks_again n (drop 64 bytes) (length-drop 64 bytes ∙ omega (arith, long))) ∙ take-append-drop 64 bytes

-- the mark at a place
pub mark_is : (n at : ℕ) (bytes : List ℕ) → at < n → get_or (marks_in n bytes) at [] ≡ take 64 (drop (64 * at) bytes)
mark_is zero at bytes lt = absurd (omega (arith, lt))
mark_is (suc n) zero bytes lt = refl
mark_is (suc n) (suc at) bytes lt =
    let place : 64 + 64 * at ≡ 64 * suc at = omega arith in
    mark_is n at (drop 64 bytes) (omega (arith, lt)) ∙ ap (λ (l : List ℕ). take 64 l) (drop-drop (64 * at) 64 bytes ∙ ap (λ (k : ℕ). drop k bytes) place)

-- == in the text of a manifest, after what it was opened with ==

pub rest_long : (n : ℕ) (text : List ℕ) → length text ≡ 14 + 64 * n → length (drop 14 text) ≡ 64 * n
rest_long n text long = length-drop 14 text ∙ omega (arith, long)

module _ (n : ℕ) (text : List ℕ) (long : length text ≡ 14 + 64 * n) where
  -- a mark more in the text
  pub text_added : (mark : List ℕ) → length mark ≡ 64 → marks_in (n + 1) (drop 14 (text ++ mark)) ≡ marks_in n (drop 14 text) ++ mark ∷ []
  text_added mark size =
      ap (λ (l : List ℕ). marks_in (n + 1) l) (drop-append-le 14 text mark (omega (arith, long))) ∙ marks_added n (drop 14 text) mark (rest_long n text long) size

  pub head_stays : (mark : List ℕ) → take 14 (text ++ mark) ≡ take 14 text
  head_stays mark = take-append-le 14 text mark (omega (arith, long))

  pub text_again : (head : List ℕ) → take 14 text ≡ head → head ++ marks_text (marks_in n (drop 14 text)) ≡ text
  text_again head is =
      ap (λ (l : List ℕ). head ++ l) (marks_again n (drop 14 text) (rest_long n text long)) ∙ ap (λ (l : List ℕ). l ++ drop 14 text) (sym is) ∙ take-append-drop 14 text

  pub mark_within : (at : ℕ) → at < n → get_or (marks_in n (drop 14 text)) at [] ≡ take 64 (drop (14 + 64 * at) text)
  mark_within at lt = mark_is n at (drop 14 text) lt ∙ ap (λ (l : List ℕ). take 64 l) (drop-drop (64 * at) 14 text)
