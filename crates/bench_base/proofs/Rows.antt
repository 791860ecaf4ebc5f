-- Tables of rows that take the first row that holds, and a choice between two.
use Rattle.std.proofs.Common.{◌≡◌, Bool, true, false, List, [], ◌∷◌, cond, IsErr, Result, Ok, Err, refl, sym, true≢false}
use Rattle.std.specs.Prelude.{if◌then◌else◌}
use Rattle.bench_base.specs.Rows.{first_holding}
use Rattle.bench_base.proofs.Facts.{err_ok}

-- one way of a choice, or the other
pub chosen : {A : Type 0} (P : A → Type 0) (t : Bool) (a b : A) → (t ≡ true → P a) → (t ≡ false → P b) → P (cond t a b)
chosen P true a b one other = one refl
chosen P false a b one other = other refl

-- no row holds
abbrev pub AllFalse : {A : Type 0} → List (Bool × A) → Type 0
AllFalse [] = Unit {0}
AllFalse (row ∷ rows) = (row.0 ≡ false) × AllFalse rows

abbrev pub AllRows : {A : Type 0} → (A → Type 0) → List (Bool × A) → Type 0
AllRows P [] = Unit {0}
AllRows P (row ∷ rows) = P row.1 × AllRows P rows

-- what holds of each row, and of the last value where no row holds, holds of the first that holds
pub first : {A : Type 0} (P : A → Type 0) (rows : List (Bool × A)) (a : A) → AllRows P rows → (AllFalse rows → P a) → P (first_holding rows a)
first P [] a each last = last tt
first P (row ∷ rows) a each last = chosen P row.0 row.1 (first_holding rows a) (λ _. each.0) (λ e. first P rows a each.1 (λ h. last (e, h)))

-- the same, if P is needed only of the rows that hold
abbrev pub RowsHold : {A : Type 0} → (A → Type 0) → List (Bool × A) → Type 0
RowsHold P [] = Unit {0}
RowsHold P (row ∷ rows) = (row.0 ≡ true → P row.1) × RowsHold P rows

pub first_that : {A : Type 0} (P : A → Type 0) (rows : List (Bool × A)) (a : A) → RowsHold P rows → (AllFalse rows → P a) → P (first_holding rows a)
first_that P [] a each last = last tt
first_that P (row ∷ rows) a each last = chosen P row.0 row.1 (first_holding rows a) (λ t. each.0 t) (λ e. first_that P rows a each.1 (λ h. last (e, h)))

pub none_holds : {A : Type 0} (rows : List (Bool × A)) (a : A) → AllFalse rows → first_holding rows a ≡ a
none_holds [] a h = refl
none_holds (row ∷ rows) a h = rw h.0 (none_holds rows a h.1)

-- == rows that refuse ==

err_not : {A F : Type 0} (r : Result A F) (y : A) → IsErr r → r ≡ Ok y → ⊥
err_not (Err e) y h k = err_ok k
err_not (Ok x) y h k = true≢false (sym h)

passed : {A F : Type 0} (b : Bool) (x rest : Result A F) (y : A) → IsErr x → (if b then x else rest) ≡ Ok y → (b ≡ false) × (rest ≡ Ok y)
passed true x rest y h e = absurd (err_not x y h e)
passed false x rest y h e = (refl, e)

-- where each row refuses and the answer is no refusal, no row holds
pub passes : {A F : Type 0} (rows : List (Bool × Result A F)) (x : Result A F) (y : A) → AllRows IsErr rows → first_holding rows x ≡ Ok y → AllFalse rows × (x ≡ Ok y)
passes [] x y r e = (tt, e)
passes (row ∷ rows) x y r e =
    let here = passed row.0 row.1 (first_holding rows x) y r.0 e in
    let rest = passes rows x y r.1 here.1 in
    ((here.0, rest.0), rest.1)
