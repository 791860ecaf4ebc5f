-- Texts of an answer, one after the other, beside what is left of the report.
use Rattle.std.proofs.Common.{◌≡◌, ℕ, zero, suc, ◌+◌, ◌-◌, ◌≤◌, List, [], ◌∷◌, ◌++◌, length, take, drop, flat_map, Bool, true, false, true≢false, Option, Some, refl, sym, ◌∙◌, ap, subst, arith, append_assoc}
use Rattle.std.specs.Prelude.{slice_get, not, Decides}
use Rattle.std.specs.List.{AllByRecursion}
use Rattle.line_runs.specs.Lines.{ended}
use Rattle.trace_extensions.specs.Exact.{HasNext}
use Rattle.trace_extensions.specs.Fits.{IsText}

pub drop_at : (l : List (List ℕ)) (n : ℕ) (t : List ℕ) → slice_get l n ≡ Some t → drop n l ≡ t ∷ drop (suc n) l
drop_at [] n t at = absurd (cc at)
drop_at (x ∷ l) zero t at = cc at
drop_at (x ∷ l) (suc n) t at = drop_at l n t at

pub text_at : (l : List (List ℕ)) (n : ℕ) (t : List ℕ) → slice_get l n ≡ Some t → AllByRecursion IsText l → IsText t
text_at [] n t at each = absurd (cc at)
text_at (x ∷ l) zero t at each = let same : x ≡ t = cc at in subst (λ (y : List ℕ). IsText y) same each.0
text_at (x ∷ l) (suc n) t at each = text_at l n t at each.1

pub past : (l : List (List ℕ)) (n : ℕ) → length l ≤ n → drop n l ≡ []
past [] zero long = refl
past [] (suc n) long = refl
past (x ∷ l) zero long = absurd (omega (arith, long))
past (x ∷ l) (suc n) long = past l n (omega (arith, long))

-- the texts up to number n, from the second on, were read of a report that had them all
abbrev pub LeftFrom : List (List ℕ) → ℕ → Option (List ℕ) → Option (List ℕ) → Type 0
LeftFrom texts n a b = (first : List ℕ) (more : List (List ℕ)) (told : List ℕ) → texts ≡ first ∷ more → AllByRecursion IsText more → a ≡ Some (flat_map ended more ++ told)
    → b ≡ Some (flat_map ended (drop (n - 1) more) ++ told)

-- the text of the next number is next
pub record NextText (more : List (List ℕ)) (n : ℕ) (t told : List ℕ) (b : Option (List ℕ)) : Type 0 where
  pub is : IsText t
  pub next : HasNext b t (flat_map ended (drop n more) ++ told)

pub next_text : (texts : List (List ℕ)) (n : ℕ) (t : List ℕ) (a b : Option (List ℕ)) → 1 ≤ n → slice_get texts n ≡ Some t → LeftFrom texts n a b
    → (first : List ℕ) (more : List (List ℕ)) (told : List ℕ) → texts ≡ first ∷ more → AllByRecursion IsText more → a ≡ Some (flat_map ended more ++ told) → NextText more n t told b
next_text texts zero t a b some at left first more told are each is = absurd (omega (arith, some))
next_text texts (suc n) t a b some at left first more told are each is =
    let here : slice_get more n ≡ Some t = subst (λ (l : List (List ℕ)). slice_get l (suc n) ≡ Some t) are at in
    let at_n = drop_at more n t here in
    let behind : suc n - 1 ≡ n = omega arith in
    record {
      is = text_at more n t here each;
      next = left first more told are each is ∙ ap (λ (k : ℕ). Some (flat_map ended (drop k more) ++ told)) behind ∙ ap (λ (l : List (List ℕ)). Some (flat_map ended l ++ told)) at_n
          ∙ ap (λ (l : List ℕ). Some l) (append_assoc (ended t) (flat_map ended (drop (suc n) more)) told);
    }

pub left_more : (texts : List (List ℕ)) (n : ℕ) (a b : Option (List ℕ)) → ((first : List ℕ) (more : List (List ℕ)) (told : List ℕ) → texts ≡ first ∷ more → AllByRecursion IsText more → a ≡ Some (flat_map ended more ++ told)
    → b ≡ Some (flat_map ended (drop n more) ++ told)) → LeftFrom texts (n + 1) a b
left_more texts n a b so = λ first more told are each is.
    so first more told are each is ∙ ap (λ (k : ℕ). Some (flat_map ended (drop k more) ++ told)) (omega arith)

-- all were read
pub left_all : (texts : List (List ℕ)) (n : ℕ) (a b : Option (List ℕ)) → length texts ≤ n → LeftFrom texts n a b
    → (first : List ℕ) (more : List (List ℕ)) (told : List ℕ) → texts ≡ first ∷ more → AllByRecursion IsText more → a ≡ Some (flat_map ended more ++ told) → b ≡ Some told
left_all texts n a b all left first more told are each is =
    let long : length texts ≡ length more + 1 = ap (λ (l : List (List ℕ)). length l) are ∙ omega arith in
    left first more told are each is ∙ ap (λ (l : List (List ℕ)). Some (flat_map ended l ++ told)) (past more (n - 1) (omega (arith, long, all)))

-- == texts that were compared are lines ==

all_more : (l : List (List ℕ)) (n : ℕ) (t : List ℕ) → slice_get l n ≡ Some t → IsText t → AllByRecursion IsText (take n l) → AllByRecursion IsText (take (suc n) l)
all_more [] n t at is each = absurd (cc at)
all_more (x ∷ l) zero t at is each = let same : x ≡ t = cc at in (subst (λ (y : List ℕ). IsText y) (sym same) is, tt)
all_more (x ∷ l) (suc n) t at is each = (each.0, all_more l n t at is each.1)

-- the texts up to number n, from the second on, are lines
abbrev pub AreLines : List (List ℕ) → ℕ → Type 0
AreLines texts n = (first : List ℕ) (more : List (List ℕ)) → texts ≡ first ∷ more → AllByRecursion IsText (take (n - 1) more)

pub lines_more : (texts : List (List ℕ)) (n : ℕ) (t : List ℕ) → 1 ≤ n → slice_get texts n ≡ Some t → IsText t → AreLines texts n → AreLines texts (n + 1)
lines_more texts zero t some at is lines = absurd (omega (arith, some))
lines_more texts (suc n) t some at is lines = λ first more are.
    let here : slice_get more n ≡ Some t = subst (λ (l : List (List ℕ)). slice_get l (suc n) ≡ Some t) are at in
    let before : suc n - 1 ≡ n = omega arith in
    let behind : suc n ≡ suc n + 1 - 1 = omega arith in
    subst (λ (k : ℕ). AllByRecursion IsText (take k more)) behind (all_more more n t here is (subst (λ (k : ℕ). AllByRecursion IsText (take k more)) before (lines first more are)))

whole_take : (l : List (List ℕ)) (n : ℕ) → length l ≤ n → AllByRecursion IsText (take n l) → AllByRecursion IsText l
whole_take [] n long each = tt
whole_take (x ∷ l) zero long each = absurd (omega (arith, long))
whole_take (x ∷ l) (suc n) long each = (each.0, whole_take l n (omega (arith, long)) each.1)

pub lines_all : (texts : List (List ℕ)) (n : ℕ) → length texts ≤ n → AreLines texts n → (first : List ℕ) (more : List (List ℕ)) → texts ≡ first ∷ more → AllByRecursion IsText more
lines_all texts n all lines first more are =
    let long : length texts ≡ length more + 1 = ap (λ (l : List (List ℕ)). length l) are ∙ omega arith in
    whole_take more (n - 1) (omega (arith, long, all)) (lines first more are)

-- the first and those after it
pub lines_first : (texts : List (List ℕ)) (t line : List ℕ) → slice_get texts 0 ≡ Some t → t ≡ line → IsText line → ((first : List ℕ) (more : List (List ℕ)) → texts ≡ first ∷ more → AllByRecursion IsText more) → AllByRecursion IsText texts
lines_first [] t line at same is rest = tt
lines_first (x ∷ texts) t line at same is rest = let first : line ≡ x = cc (at, same) in (subst (λ (l : List ℕ). IsText l) first is, rest x texts refl)

pub not_empty : (texts : List (List ℕ)) (first : List ℕ) (more : List (List ℕ)) → texts ≡ first ∷ more → length texts ≡ 0 → ⊥
not_empty [] first more are none = cc (are)
not_empty (x ∷ texts) first more are none = omega (arith, none)

pub first_text : (texts : List (List ℕ)) (t first : List ℕ) (more : List (List ℕ)) → slice_get texts 0 ≡ Some t → texts ≡ first ∷ more → t ≡ first
first_text [] t first more at are = absurd (cc (are))
first_text (x ∷ texts) t first more at are = cc (at, are)

-- == whether two texts differ ==

pub differ_not : (P : Type 0) (p r : Bool) → Decides p P → r ≡ not p → r ≡ true → P → ⊥
differ_not P true r d is differs same = true≢false (sym differs ∙ is)
differ_not P false r d is differs same = true≢false (sym (d.1 same))

pub no_difference : (P : Type 0) (p r : Bool) → Decides p P → r ≡ not p → r ≡ false → P
no_difference P true r d is none = d.0 refl
no_difference P false r d is none = absurd (true≢false (sym is ∙ none))
