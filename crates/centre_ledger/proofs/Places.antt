-- What a place has after a row is put into one, and what holds of all rows by their places.
use Rattle.std.proofs.Common.{◌≡◌, ℕ, ◌+◌, ◌-◌, ◌<◌, ◌≤◌, List, length, get_or, set, Option, Some, None, cond, sym, ap, subst, ◌∙◌, ⊎_elim, arith}
use Rattle.std.specs.Prelude.{All}
use Rattle.std.proofs.lemmas.Bool.{cases_eq, cases_lt, ne_eqb, eq-eqb}
use Rattle.std.proofs.lemmas.List.{get_or-set_same, get_or-set_other, get_or_past}
use Rattle.std.proofs.lemmas.List.Elements.{All-get_or, All-from_get_or}
use Rattle.centre_ledger.specs.Books.{place_of}

-- a place that is counted from 1
pub place_from_1 : {R : Type 0} (rows : List (Option R)) (n : ℕ) → 1 ≤ n → place_of rows n ≡ get_or rows (n - 1) None
place_from_1 rows n h = ap (λ b. cond b None (get_or rows (n - 1) None)) (ne_eqb n 0 (λ e. omega arith))

pub place_next : {R : Type 0} (rows : List (Option R)) (k : ℕ) → place_of rows (k + 1) ≡ get_or rows k None
place_next rows k = place_from_1 rows (k + 1) (omega arith) ∙ ap (λ j. get_or rows j None) (omega arith)

pub put_same : {R : Type 0} (rows : List (Option R)) (n : ℕ) (o : Option R) → 1 ≤ n → n ≤ length rows → place_of (set rows (n - 1) o) n ≡ o
put_same rows n o from_1 most = place_from_1 (set rows (n - 1) o) n from_1 ∙ get_or-set_same rows (n - 1) o None (omega arith)

pub put_other : {R : Type 0} (rows : List (Option R)) (n m : ℕ) (o : Option R) → 1 ≤ n → (m ≡ n → ⊥) → place_of (set rows (n - 1) o) m ≡ place_of rows m
put_other rows n m o from_1 other = ⊎_elim
    (λ (zero : m ≡ 0). ap (λ b. cond b None (get_or (set rows (n - 1) o) (m - 1) None)) (eq-eqb m 0 zero) ∙ sym (ap (λ b. cond b None (get_or rows (m - 1) None)) (eq-eqb m 0 zero)))
    (λ (more : m ≡ 0 → ⊥).
    let from : 1 ≤ m = omega arith in
    place_from_1 (set rows (n - 1) o) m from ∙ get_or-set_other rows (n - 1) (m - 1) o None (λ e. other (omega arith)) ∙ sym (place_from_1 rows m from))
    (cases_eq m 0)

-- what holds of each row, and of none, holds in each place
pub in_place : {R : Type 0} (P : Option R → Type 0) (rows : List (Option R)) (n : ℕ) → P None → All P rows → P (place_of rows n)
in_place P rows n none all = ⊎_elim
    (λ (zero : n ≡ 0). subst (λ b. P (cond b None (get_or rows (n - 1) None))) (sym (eq-eqb n 0 zero)) none)
    (λ (more : n ≡ 0 → ⊥).
    let from : 1 ≤ n = omega arith in
    subst P (sym (place_from_1 rows n from)) (⊎_elim
    (λ (within : n - 1 < length rows). All-get_or P rows (n - 1) None within all)
    (λ (past : length rows ≤ n - 1). subst P (sym (get_or_past rows (n - 1) None past)) none)
    (cases_lt (n - 1) (length rows))))
    (cases_eq n 0)

-- and the other way round
pub from_places : {R : Type 0} (P : Option R → Type 0) (rows : List (Option R)) → ((n : ℕ) → P (place_of rows n)) → All P rows
from_places P rows each = All-from_get_or P rows None (λ k within. subst P (place_next rows k) (each (k + 1)))

-- a place with a row is one of them
pub some_within : {R : Type 0} (rows : List (Option R)) (n : ℕ) (r : R) → place_of rows n ≡ Some r → (1 ≤ n) × (n ≤ length rows)
some_within {R} rows n r h = ⊎_elim
    (λ (zero : n ≡ 0). let none : None ≡ Some r = sym (ap (λ b. cond b None (get_or rows (n - 1) None)) (eq-eqb n 0 zero)) ∙ h in absurd (cc))
    (λ (more : n ≡ 0 → ⊥).
    let from : 1 ≤ n = omega arith in
    ⊎_elim
    (λ (within : n - 1 < length rows). (from, omega arith))
    (λ (past : length rows ≤ n - 1). let none : None ≡ Some r = sym (get_or_past rows (n - 1) None past) ∙ sym (place_from_1 rows n from) ∙ h in absurd (cc))
    (cases_lt (n - 1) (length rows)))
    (cases_eq n 0)
