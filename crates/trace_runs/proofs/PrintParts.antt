-- Parts of the line of a mark in the prints.
use Rattle.std.proofs.Common.{◌≡◌, ◌⊎◌, inl, inr, ℕ, ◌+◌, ◌-◌, ◌<◌, ◌≤◌, max, List, [], ◌∷◌, ◌++◌, length, take, drop, get_or, refl, sym, ◌∙◌, ap, subst, arith, append_assoc}
use Rattle.std.proofs.lemmas.Bool.{cases_lt}
use Rattle.std.proofs.lemmas.List.{take-append-drop, take-take, take_more, get_or_append_left, get_or_at, length-append, length-drop, drop-drop}
use Rattle.trace_bench.specs.Stopping.{IsPrefixOf}
use Rattle.trace_runs.specs.Prints.{IsPart}
use Rattle.trace_runs.specs.Places.{Between, IsLongest, IsLast}

long_of : (a b c : List ℕ) → a ≡ b ++ c → length a ≡ length b + length c
long_of a b c is = ap (λ (l : List ℕ). length l) is ∙ length-append b c

-- so many bytes of the two are alike, and no more
module _ (digits bytes : List ℕ) (n : ℕ) (within : n ≤ length digits) (inside : n ≤ length bytes) (alike : take n digits ≡ take n bytes)
    (most : n < length digits → n < length bytes → get_or digits n 0 ≡ get_or bytes n 0 → ⊥) where
  -- bytes with which both begin are no more than these
  no_more : (part x y : List ℕ) → digits ≡ part ++ x → bytes ≡ part ++ y → length part ≤ n
  no_more part x y of_digits of_bytes = elim (cases_lt n (length part)) [
    | inl more ↦
        let long = long_of digits part x of_digits in
        let long' = long_of bytes part y of_bytes in
        absurd (most (omega (arith, more, long)) (omega (arith, more, long'))
        (ap (λ (l : List ℕ). get_or l n 0) of_digits ∙ get_or_append_left part x 0 n more ∙ sym (ap (λ (l : List ℕ). get_or l n 0) of_bytes ∙ get_or_append_left part y 0 n more)))
    | inr few ↦ few
  ]

  begins : (k : ℕ) → k ≤ n → IsPrefixOf (take k bytes) digits
  begins k few = (
    drop k digits,
    sym (take-append-drop k digits)
        ∙ ap (λ (l : List ℕ). l ++ drop k digits) (sym (take-take k n digits few) ∙ ap (λ (l : List ℕ). take k l) alike ∙ take-take k n bytes few),
  )

  -- a part with its line end is one byte longer
  no_longer : (piece more : List ℕ) → bytes ≡ piece ++ more → IsPart digits piece → length piece ≤ n + 1
  no_longer piece more is (part, (x, of_digits), inl same) =
      let few = no_more part x more of_digits (is ∙ ap (λ (l : List ℕ). l ++ more) same) in
      let long : length piece ≡ length part = ap (λ (l : List ℕ). length l) same in
      omega (arith, few, long)
  no_longer piece more is (part, (x, of_digits), inr same) =
      let few = no_more part x (10 ∷ more) of_digits (is ∙ ap (λ (l : List ℕ). l ++ more) same ∙ append_assoc part (10 ∷ []) more) in
      let long = long_of piece part (10 ∷ []) same in
      omega (arith, few, long)

  pub line_ends : n < length bytes → get_or bytes n 0 ≡ 10 → IsLongest digits bytes (n + 1)
  line_ends more is = record {
    inside = omega (arith, more);
    each = λ k few. elim (cases_lt n k) [
      | inl past ↦
          let at : k ≡ n + 1 = omega (arith, past, few) in
          (take n bytes, begins n (omega arith), inr (ap (λ (i : ℕ). take i bytes) at ∙ take_more bytes n 0 more ∙ ap (λ (c : ℕ). take n bytes ++ c ∷ []) is))
      | inr less ↦ (take k bytes, begins k less, inl refl)
    ];
    none = no_longer;
  }

  pub goes_on : (n < length bytes → get_or bytes n 0 ≡ 10 → ⊥) → IsLongest digits bytes n
  goes_on other = record { inside = inside; each = λ k few. (take k bytes, begins k few, inl refl); none = no_part }
    where
      no_part : (piece more : List ℕ) → bytes ≡ piece ++ more → IsPart digits piece → length piece ≤ n
      no_part piece more is (part, (x, of_digits), inl same) =
          let few = no_more part x more of_digits (is ∙ ap (λ (l : List ℕ). l ++ more) same) in
          let long : length piece ≡ length part = ap (λ (l : List ℕ). length l) same in
          omega (arith, few, long)
      no_part piece more is (part, (x, of_digits), inr same) =
          let of_bytes : bytes ≡ part ++ 10 ∷ more = is ∙ ap (λ (l : List ℕ). l ++ more) same ∙ append_assoc part (10 ∷ []) more in
          let few = no_more part x (10 ∷ more) of_digits of_bytes in
          let long = long_of piece part (10 ∷ []) same in
          let all = long_of bytes part (10 ∷ more) of_bytes in
          elim (cases_lt (length part) n) [
            | inl less ↦ omega (arith, less, long)
            | inr no_less ↦
                let at : length part ≡ n = omega (arith, few, no_less) in
                absurd (other (omega (arith, at, all)) (ap (λ (l : List ℕ). get_or l n 0) of_bytes ∙ get_or_at part 10 more 0 n at))
          ]

-- == places ==

-- where a piece ends that begins at a place
pub ends_at : (prints piece : List ℕ) (s t : ℕ) → s ≤ length prints → Between prints piece s t → t ≡ s + length piece
ends_at prints piece s t inside b =
    let long = long_of (drop s prints) piece (drop t prints) b.is in
    let left = length-drop s prints in
    let left' = length-drop t prints in
    let size = b.inside in
    omega (arith, long, left, left', size, inside)

-- the first so many bytes from a place on
pub first_between : (prints : List ℕ) (s t : ℕ) → s ≤ t → t ≤ length prints → Between prints (take (t - s) (drop s prints)) s t
first_between prints s t after inside = record {
  inside = inside;
  is = sym (take-append-drop (t - s) (drop s prints))
      ∙ ap (λ (l : List ℕ). take (t - s) (drop s prints) ++ l) (drop-drop (t - s) s prints ∙ ap (λ (i : ℕ). drop i prints) (let same : s + (t - s) ≡ t = omega (arith, after) in same));
}

-- from no place before the first
pub last_none : (digits prints : List ℕ) (first this : ℕ) → this ≤ length prints → IsLast digits prints first first this this
last_none digits prints first this inside = record {
  inside = inside;
  each = λ t more few. absurd (omega (arith, more, few));
  none = λ s t piece later before part between. absurd (omega (arith, later, before));
}

pub last_more : (digits prints : List ℕ) (first next this last n later : ℕ) → IsLast digits prints first next this last → first ≤ next → next ≤ this → this ≤ length prints
    → IsLongest digits (drop next prints) n → last ≤ later → next + n ≤ later → (later ≡ last) ⊎ (later ≡ next + n) → IsLast digits prints first (next + 1) this later
last_more digits prints first next this last n later l from upto inside longest kept reached either = record {
  inside =
      let a = l.inside in
      let b = longest.inside in
      let left = length-drop next prints in
      elim either [ inl is ↦ omega (arith, is, a) | inr is ↦ omega (arith, is, b, left, upto, inside) ];
  each = λ t more few.
      elim (cases_lt last t) [
        | inl past ↦
            let within : t ≤ next + n = elim either [ inl is ↦ absurd (omega (arith, is, past, few)) | inr is ↦ omega (arith, is, few) ] in
            let b = longest.inside in
            let left = length-drop next prints in
            (next, from, omega arith, take (t - next) (drop next prints), longest.each (t - next) (omega (arith, within)), first_between prints next t (omega (arith, more, upto)) (omega (arith, within, b, left, upto, inside)))
        | inr before ↦ let w = l.each t more before in (w.0, w.1, let less = w.2 in omega (arith, less), w.3, w.4, w.5)
      ];
  none = λ s t piece later' before part between.
      elim (cases_lt s next) [
        | inl earlier ↦ let few = l.none s t piece later' earlier part between in omega (arith, few, kept)
        | inr no_earlier ↦
            let here : s ≡ next = omega (arith, before, no_earlier) in
            let b = subst (λ (i : ℕ). Between prints piece i t) here between in
            let few = longest.none piece (drop t prints) b.is part in
            let at = ends_at prints piece next t (omega (arith, upto, inside)) b in
            omega (arith, few, at, reached)
      ];
}

max_either : (a b m : ℕ) → m ≡ max a b → (a ≤ m) × (b ≤ m) × ((m ≡ a) ⊎ (m ≡ b))
max_either a b m is = (omega (arith, is), omega (arith, is), elim (cases_lt a b) [ inl less ↦ inr (omega (arith, is, less)) | inr more ↦ inl (omega (arith, is, more)) ])

-- the greater of the two
pub last_next : (digits prints : List ℕ) (first next this last n later : ℕ) → IsLast digits prints first next this last → first ≤ next → next ≤ this → this ≤ length prints → this ≤ last
    → IsLongest digits (drop next prints) n → later ≡ max last (next + n) → (this ≤ later) × IsLast digits prints first (next + 1) this later
last_next digits prints first next this last n later l from upto inside after longest is =
    let w = max_either last (next + n) later is in
    let kept = w.0 in
    (omega (arith, kept, after), last_more digits prints first next this last n later l from upto inside longest w.0 w.1 w.2)
