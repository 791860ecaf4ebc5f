-- Words of lower-case hexadecimal digits.
use Rattle.std.proofs.Common.{◌≡◌, ◌≢◌, ℕ, zero, suc, ◌+◌, ◌-◌, ◌*◌, ◌/◌, ◌%◌, ◌≤◌, ◌<◌, List, [], ◌∷◌, ◌++◌, length, take, drop, slice_set, refl, sym, ap, ◌∙◌, arith, subst, inl, inr, append_assoc}
use Rattle.std.proofs.lemmas.List.{append-nil, drop_all, length-take-le, take-append-le, take_all, take_more_set}
use lib.Seq.{take-append-add}
use borrow.Rule.Slice.PartMut.{put_mid}
use Rattle.std.specs.Prelude.{slice_index, nat_lt, EachIndex, MatchBool, Bool, true, false}
use Rattle.std.proofs.lemmas.Bool.{cases_lt, ltb-true, ltb-false}
use Rattle.hex.specs.Hex.{lower_digits, encode_with, encode_lower}
use Rattle.hex.proofs.HexLemmas.{length-encode_with}
use Rattle.hex.proofs.Pairs.{drop-pair}
use Rattle.text_streams.proofs.LowerDigits.{glyph, letter_at}
use Rattle.bench_base.specs.Table.{IsBytes}
use Rattle.script_words.specs.Words.{IsLowerDigit, given_word}
use Rattle.script_words.proofs.Splits.{Printed}

abbrev pub AreLower : List ℕ → Type 0
AreLower [] = Unit {0}
AreLower (c ∷ cs) = IsLowerDigit c × AreLower cs

pub AreLower-at : (cs : List ℕ) → AreLower cs → EachIndex cs (λ k. IsLowerDigit (slice_index cs k))
AreLower-at [] h k lt = absurd (omega (arith, lt))
AreLower-at (c ∷ cs) h zero lt = h.0
AreLower-at (c ∷ cs) h (suc k) lt = AreLower-at cs h.1 k (omega (arith, lt))

lower_digit : (v : ℕ) → v < 16 → IsLowerDigit (slice_index lower_digits v)
lower_digit v h =
    elim (cases_lt v 10) [
      | inl low ↦ inl (omega (arith, glyph v low), omega (arith, glyph v low, low))
      | inr high ↦ inr (omega (arith, letter_at v high h), omega (arith, letter_at v high h, h, high))
    ]

pub AreLower-encode : (bytes : List ℕ) → IsBytes bytes → AreLower (encode_lower bytes)
unfolding encode_with
AreLower-encode [] h = tt
AreLower-encode (b ∷ bytes) h =
    let fits : b < 256 = h 0 in
    (lower_digit (b / 16) (omega (arith, fits)), (lower_digit (b % 16) (omega arith), AreLower-encode bytes (λ i. h (suc i))))

above_space : (c : ℕ) → IsLowerDigit c → 32 < c
above_space c (inl h) = omega (arith, h.0)
above_space c (inr h) = omega (arith, h.0)

pub Printed-are_lower : (cs : List ℕ) → AreLower cs → Printed cs
Printed-are_lower [] h = tt
Printed-are_lower (c ∷ cs) h = (above_space c h.0, Printed-are_lower cs h.1)

encode-snoc : (xs : List ℕ) (b : ℕ) → encode_lower (xs ++ b ∷ []) ≡ encode_lower xs ++ slice_index lower_digits (b / 16) ∷ slice_index lower_digits (b % 16) ∷ []
unfolding encode_with
encode-snoc [] b = refl
encode-snoc (x ∷ xs) b = ap (λ (digits : List ℕ). slice_index lower_digits (x / 16) ∷ slice_index lower_digits (x % 16) ∷ digits) (encode-snoc xs b)

-- Two digits more are read.
pub read_step : (word room : List ℕ) (i high low : ℕ) → 2 * i + 1 < length word → i < length room → low < 16
    → slice_index lower_digits high ≡ slice_index word (2 * i) → slice_index lower_digits low ≡ slice_index word (2 * i + 1)
    → encode_lower (take i room) ++ drop (2 * i) word ≡ word
    → encode_lower (take (i + 1) (slice_set room i (high * 16 + low))) ++ drop (2 * (i + 1)) word ≡ word
read_step word room i high low fits inside small is_high is_low before =
    let first : (high * 16 + low) / 16 ≡ high = omega (arith, small) in
    let second : (high * 16 + low) % 16 ≡ low = omega (arith, small) in
    let front = take_more_set room i (high * 16 + low) inside in
    let digits = encode-snoc (take i room) (high * 16 + low) in
    let pair = drop-pair word i fits in
    rw (front, digits, first, second, is_high, is_low, append_assoc) (rw pair at before)

-- All digits are read.
pub read_done : (word room : List ℕ) (i : ℕ) → length room ≤ i → length word ≤ 2 * i → encode_lower (take i room) ++ drop (2 * i) word ≡ word → word ≡ encode_lower room
read_done word room i most long read =
    let gone = drop_all (2 * i) word long in
    let all = take_all i room most in
    let whole : encode_lower room ≡ word = rw (gone, all, append-nil) at read in
    sym whole

IsBytes-snoc : (bytes : List ℕ) (b : ℕ) → IsBytes bytes → b < 256 → IsBytes (bytes ++ b ∷ [])
IsBytes-snoc [] b fits h zero = h
IsBytes-snoc [] b fits h (suc i) = omega arith
IsBytes-snoc (x ∷ bytes) b fits h zero = fits 0
IsBytes-snoc (x ∷ bytes) b fits h (suc i) = IsBytes-snoc bytes b (λ k. fits (suc k)) h i

pub bytes_step : (room : List ℕ) (i b : ℕ) → i < length room → b < 256 → IsBytes (take i room) → IsBytes (take (i + 1) (slice_set room i b))
bytes_step room i b inside small fits = subst IsBytes (sym (take_more_set room i b inside)) (IsBytes-snoc (take i room) b fits small)

pub no_lower : (text : List ℕ) → (AreLower text → ⊥) → (bytes : List ℕ) → IsBytes bytes → text ≢ encode_lower bytes
no_lower text none bytes fits e = none (subst AreLower (sym e) (AreLower-encode bytes fits))

-- a word of digits for some bytes is that of them as they are given
pub no_given : (w : List ℕ) (count : ℕ) → w ≢ 45 ∷ [] → count ≡ length w / 2 → (g : List ℕ) → ((1 ≤ length g) → length g ≡ count → w ≢ encode_lower g) → w ≢ given_word g
no_given w count dash half [] none e = dash e
no_given w count dash half (b ∷ g) none e =
    let long : length w ≡ 2 * length (b ∷ g) = ap length e ∙ length-encode_with lower_digits (b ∷ g) in
    none (omega arith) (omega (arith, long, half)) e

-- digits that are written after what is there
pub put_behind : (len n : ℕ) (bytes digits : List ℕ) → len ≤ length bytes → length digits ≡ n → take (len + n) (put_mid len (len + n - len) bytes digits) ≡ take len bytes ++ digits
put_behind len n bytes digits inside long =
    let rest : List ℕ = drop (len + n - len) (drop len bytes) in
    let front : length (take len bytes) ≡ len = length-take-le len bytes inside in
    ap (λ (i : ℕ). take (i + n) (take len bytes ++ (digits ++ rest))) (sym front)
    ∙ take-append-add (take len bytes) (digits ++ rest) n
    ∙ ap (λ (t : List ℕ). take len bytes ++ t) (take-append-le n digits rest (omega (arith, long)) ∙ take_all n digits (omega (arith, long)))

-- a word of another length
pub no_twice : (word : List ℕ) (n : ℕ) → (length word ≡ 2 * n → ⊥) → (bytes : List ℕ) → length bytes ≡ n → word ≢ encode_lower bytes
no_twice word n other bytes long same = other (ap (λ (l : List ℕ). length l) same ∙ length-encode_with lower_digits bytes ∙ omega (arith, long))

pub below : (n : ℕ) (P Q : Type 0) → (n < 16 → P) → (16 ≤ n → Q) → MatchBool (nat_lt n 16) P Q
below n P Q low high = by (nat_lt n 16) refl
  where
    by : (b : Bool) → nat_lt n 16 ≡ b → MatchBool b P Q
    by true is = low (ltb-true n 16 is)
    by false is = high (ltb-false n 16 is)

-- nothing is read yet
pub read_none : (word : List ℕ) → encode_lower [] ++ word ≡ word
unfolding encode_with
read_none word = refl
