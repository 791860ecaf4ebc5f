-- A report that ends within the lines of an answer.
use Rattle.std.proofs.Common.{◌≡◌, ◌⊎◌, inl, inr, ℕ, zero, suc, ◌+◌, ◌-◌, ◌≤◌, List, [], ◌∷◌, ◌++◌, length, drop, slice_get, Option, Some, None, Bool, true, false, sym, ap, ◌∙◌, subst, arith, append-nil}
use Rattle.std.proofs.lemmas.List.{length-append}
use Rattle.std.proofs.lemmas.Option.{same_Some}
use Rattle.std.specs.Io.KnownBytes.{Consumes, IsAtEnd}
use Rattle.line_runs.specs.Lines.{IsOneLine, IsLineIn, ended}
use Rattle.trace_bench.specs.Stopping.{IsPrefixOf}
use Rattle.trace_extensions.specs.Exact.{HasNext}
use Rattle.trace_extensions.specs.Fits.{IsText}
use Rattle.trace_extensions.specs.FitsStopped.{IsCutOf}
use Rattle.trace_extensions.proofs.Lines.{known, not_one, one_front, prefix_of}
use Rattle.trace_extensions.proofs.Texts.{drop_at, past}

-- == bytes of lines ==

pub front_one : (text told : List ℕ) → IsOneLine text → IsPrefixOf told text → IsOneLine told
front_one text told one p = one_front told p.0 (subst (λ (l : List ℕ). IsOneLine l) p.1 one)

pub front_short : (text told : List ℕ) → IsPrefixOf told text → length told ≤ length text
front_short text told p = let sum = ap (λ (l : List ℕ). length l) p.1 ∙ length-append told p.0 in omega (arith, sum)

-- bytes without a line end begin the first line
pub cut_first : (t : List ℕ) (more : List (List ℕ)) (told : List ℕ) → IsOneLine told → IsCutOf told (t ∷ more) → IsPrefixOf told t
cut_first t more told one (inl p) = p.0
cut_first t more told one (inr w) = absurd (not_one t w.0 (subst (λ (l : List ℕ). IsOneLine l) w.1 one))

-- so long a line is none of them
pub not_long_cut : (texts : List (List ℕ)) (bytes rest : List ℕ) → IsOneLine bytes → length bytes ≡ 601 → IsCutOf (bytes ++ rest) texts → ⊥
not_long_cut [] bytes rest one long cut = cut
not_long_cut (t ∷ more) bytes rest one long (inl p) = let size = length-append bytes rest in let few = p.1.short in omega (arith, size, few, long)
not_long_cut (t ∷ more) bytes rest one long (inr w) =
    let p = prefix_of t w.0 bytes rest one (sym w.1) in
    let few = front_short t bytes p in
    let short = w.2.short in
    omega (arith, few, short, long)

pub none_long : (bytes rest : List ℕ) → bytes ++ rest ≡ [] → length bytes ≡ 601 → ⊥
none_long [] rest is long = omega (arith, long)
none_long (c ∷ bytes) rest is long = cc is

pub ended_some : (line told : List ℕ) → ended line ++ told ≡ [] → ⊥
ended_some [] told is = cc is
ended_some (c ∷ line) told is = cc is

-- == what was read of a report that is known ==

module _ (a b : Option (List ℕ)) (told : List ℕ) (has : a ≡ Some told) where
  at_end : (left : List ℕ) (o : Option (List ℕ)) → o ≡ Some left → IsAtEnd o → left ≡ []
  at_end left None is end = absurd (cc is)
  at_end left (Some x) is end = sym (same_Some x left is) ∙ end

  -- all of it
  pub all_read : (bytes : List ℕ) → Consumes a b bytes → IsAtEnd b → told ≡ bytes
  all_read bytes took end =
      let w = known a b bytes told took has in
      w.2 ∙ ap (λ (l : List ℕ). bytes ++ l) (at_end w.0 b w.1 end) ∙ append-nil bytes

  -- a line without its line end
  pub within_line : (is_ended : Bool) (line bytes : List ℕ) → is_ended ≡ false → IsLineIn is_ended line bytes (IsAtEnd b) → Consumes a b bytes → told ≡ line
  within_line true line bytes is inside took = absurd (cc is)
  within_line false line bytes is inside took = all_read bytes took inside.2 ∙ inside.0

  -- a line with its line end
  pub whole_line : (is_ended : Bool) (line bytes : List ℕ) → is_ended ≡ true → IsLineIn is_ended line bytes (IsAtEnd b) → Consumes a b bytes → (rest : List ℕ) × (b ≡ Some rest) × (told ≡ ended line ++ rest)
  whole_line true line bytes is inside took = let w = known a b bytes told took has in (w.0, w.1, w.2 ∙ ap (λ (l : List ℕ). l ++ w.0) inside)
  whole_line false line bytes is inside took = absurd (cc is)

  -- nothing
  pub none_left : (bytes : List ℕ) → bytes ≡ [] → IsAtEnd b → Consumes a b bytes → told ≡ []
  none_left bytes none end took = all_read bytes took end ∙ none

  pub not_whole : (is_ended : Bool) (line bytes : List ℕ) → is_ended ≡ true → IsLineIn is_ended line bytes (IsAtEnd b) → Consumes a b bytes → IsOneLine told → ⊥
  not_whole is_ended line bytes is inside took one =
      let w = whole_line is_ended line bytes is inside took in not_one line w.0 (subst (λ (l : List ℕ). IsOneLine l) w.2 one)

  -- the front of a line that is too long
  pub long_front : (bytes : List ℕ) → Consumes a b bytes → (rest : List ℕ) × (told ≡ bytes ++ rest)
  long_front bytes took = let w = known a b bytes told took has in (w.0, w.2)

  pub not_so_long : (bytes : List ℕ) → Consumes a b bytes → length bytes ≡ 601 → length told ≤ 600 → ⊥
  not_so_long bytes took long short =
      let w = long_front bytes took in
      let size = ap (λ (l : List ℕ). length l) w.1 ∙ length-append bytes w.0 in
      omega (arith, long, short, size)

-- == texts one after the other ==

-- the texts up to number n, from the second on, were read of a report that ends within them
abbrev pub CutFrom : List (List ℕ) → ℕ → Option (List ℕ) → Option (List ℕ) → Type 0
CutFrom texts n a b = (first : List ℕ) (more : List (List ℕ)) (told : List ℕ) → texts ≡ first ∷ more → IsCutOf told more → a ≡ Some told
    → (rest : List ℕ) × (b ≡ Some rest) × IsCutOf rest (drop (n - 1) more)

-- it ends within the next text, or goes on behind it
abbrev pub NextCut : List ℕ → List (List ℕ) → Option (List ℕ) → Type 0
NextCut t rest b = ((told : List ℕ) × (b ≡ Some told) × IsPrefixOf told t × IsText told) ⊎ ((told : List ℕ) × HasNext b t told × IsText t × IsCutOf told rest)

pub next_cut : (texts : List (List ℕ)) (n : ℕ) (t : List ℕ) (a b : Option (List ℕ)) → 1 ≤ n → slice_get texts n ≡ Some t → CutFrom texts n a b
    → (first : List ℕ) (more : List (List ℕ)) (told : List ℕ) → texts ≡ first ∷ more → IsCutOf told more → a ≡ Some told → NextCut t (drop n more) b
next_cut texts zero t a b some at from first more told are cut is = absurd (omega (arith, some))
next_cut texts (suc n) t a b some at from first more told are cut is =
    let here : slice_get more n ≡ Some t = subst (λ (l : List (List ℕ)). slice_get l (suc n) ≡ Some t) are at in
    let w = from first more told are cut is in
    let behind : suc n - 1 ≡ n = omega arith in
    let rest_is : drop (suc n - 1) more ≡ t ∷ drop (suc n) more = ap (λ (k : ℕ). drop k more) behind ∙ drop_at more n t here in
    by w.0 w.1 (subst (λ (l : List (List ℕ)). IsCutOf w.0 l) rest_is w.2)
  where
    by : (rest : List ℕ) → b ≡ Some rest → IsCutOf rest (t ∷ drop (suc n) more) → NextCut t (drop (suc n) more) b
    by rest is (inl p) = inl (rest, is, p.0, p.1)
    by rest is (inr so) = inr (so.0, is ∙ ap (λ (l : List ℕ). Some l) so.1, so.2, so.3)

pub cut_more : (texts : List (List ℕ)) (n : ℕ) (a b : Option (List ℕ)) → ((first : List ℕ) (more : List (List ℕ)) (told : List ℕ) → texts ≡ first ∷ more → IsCutOf told more → a ≡ Some told
    → (rest : List ℕ) × (b ≡ Some rest) × IsCutOf rest (drop n more)) → CutFrom texts (n + 1) a b
cut_more texts n a b so = λ first more told are cut is.
    let w = so first more told are cut is in
    (w.0, w.1, subst (λ (k : ℕ). IsCutOf w.0 (drop k more)) (omega arith) w.2)

-- all were read, so it doesn't end within them
pub cut_all : (texts : List (List ℕ)) (n : ℕ) (a b : Option (List ℕ)) → length texts ≤ n → CutFrom texts n a b
    → (first : List ℕ) (more : List (List ℕ)) (told : List ℕ) → texts ≡ first ∷ more → IsCutOf told more → a ≡ Some told → ⊥
cut_all texts n a b all from first more told are cut is =
    let long : length texts ≡ length more + 1 = ap (λ (l : List (List ℕ)). length l) are ∙ omega arith in
    let w = from first more told are cut is in
    subst (λ (l : List (List ℕ)). IsCutOf w.0 l) (past more (n - 1) (omega (arith, long, all))) w.2
