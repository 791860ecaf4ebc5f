-- The 12 bytes of a cell: what they read as, and what is written.
use Rattle.std.proofs.Common.{◌≡◌, inl, inr, ℕ, ◌+◌, ◌<◌, ◌≤◌, List, [], ◌∷◌, Some, None, Bool, true, false, ◌==◌, ◌&&◌, refl, sym, ap, ◌∙◌, subst, arith}
use Rattle.std.specs.Prelude.{get_or, nat_lt, nat_le, if◌then◌else◌}
use Rattle.std.proofs.lemmas.Bool.Decides.{nat_tests}
use Rattle.std.proofs.lemmas.Bool.{cases_Bool}
use Rattle.std.proofs.lemmas.List.{append-nil}
use Rattle.bench_base.specs.Ranges.{IsPostage}
use Rattle.bench_base.specs.Table.{values, row, Fit}
use Rattle.bench_base.proofs.Tables.{values_row}
use Rattle.host_departments.specs.Payload.{cell_table, cell_bytes, quota_from, job_from, row_from, decoded, IsFit}
use Rattle.host_departments.specs.Rows.{department_of}
use Rattle.host_departments.specs.declared.{row.DepartmentRow.DepartmentRow, row.DepartmentRow.TheVariants.Quota, row.DepartmentRow.TheVariants.Job, row.TheConstants.MOST_POSTAGE}

same : (n : ℕ) → (n == n) ≡ true
same n = grind (arith, nat_tests)

below : (k n : ℕ) → k < n → nat_lt k n ≡ true
below k n lt = grind (arith, nat_tests)

not_below : (k n : ℕ) → n ≤ k → nat_lt k n ≡ false
not_below k n le = grind (arith, nat_tests)

is_below : (k n : ℕ) → nat_lt k n ≡ true → k < n
is_below k n is = grind (arith, nat_tests)

is_not_below : (k n : ℕ) → nat_lt k n ≡ false → n ≤ k
is_not_below k n is = grind (arith, nat_tests)

in_range : (j p most : ℕ) → 1 ≤ j → 1 ≤ p → p ≤ most → (nat_le 1 j && (nat_le 1 p && nat_le p most)) ≡ true
in_range j p most one first last = grind (arith, nat_tests)

abbrev IsPostageTo : ℕ → ℕ → Type 0
IsPostageTo most p = (1 ≤ p) × (p ≤ most)

is_in_range : (j p most : ℕ) → (nat_le 1 j && (nat_le 1 p && nat_le p most)) ≡ true → (1 ≤ j) × IsPostageTo most p
is_in_range j p most is = (grind (arith, nat_tests), (grind (arith, nat_tests), grind (arith, nat_tests)))

-- == what is written ==

numbers_back : (a b c : ℕ) → Fit cell_table (a ∷ b ∷ c ∷ []) → (bytes : List ℕ) → bytes ≡ cell_bytes a b c → values 0 cell_table bytes ≡ a ∷ b ∷ c ∷ []
unfolding cell_bytes
numbers_back a b c fit bytes is =
    ap (values 0 cell_table) (is ∙ sym (append-nil (row cell_table (a ∷ b ∷ c ∷ [])))) ∙ values_row cell_table (a ∷ b ∷ c ∷ []) [] [] 0 refl fit

quota_back : (k q : ℕ) → quota_from k ((k + 1) ∷ q ∷ 0 ∷ []) ≡ Some (Quota q)
unfolding quota_from
quota_back k q = ap (λ (t : Bool). if t then Some (Quota q) else None) (same (k + 1))

job_back : (k j p : ℕ) → 1 ≤ j → IsPostage p → job_from k (j ∷ department_of k ∷ p ∷ []) ≡ Some (Job j p)
unfolding job_from
job_back k j p one postage =
    ap (λ (t : Bool). if t then (if nat_le 1 j && (nat_le 1 p && nat_le p MOST_POSTAGE) then Some (Job j p) else None) else None) (same (department_of k))
    ∙ ap (λ (t : Bool). if t then Some (Job j p) else None) (in_range j p MOST_POSTAGE one postage.0 postage.1)

-- a quota that is written reads as it
pub quota_written : (k q : ℕ) → k < 16 → Fit cell_table ((k + 1) ∷ q ∷ 0 ∷ []) → (bytes : List ℕ) → bytes ≡ cell_bytes (k + 1) q 0 → decoded k bytes ≡ Some (Quota q)
unfolding decoded
quota_written k q lt fit bytes is =
    ap (λ (vs : List ℕ). row_from k vs) (numbers_back (k + 1) q 0 fit bytes is)
    ∙ ap (λ (t : Bool). if t then quota_from k ((k + 1) ∷ q ∷ 0 ∷ []) else job_from k ((k + 1) ∷ q ∷ 0 ∷ [])) (below k 16 lt) ∙ quota_back k q

-- and so does a job
pub job_written : (k j p : ℕ) → 16 ≤ k → 1 ≤ j → IsPostage p → Fit cell_table (j ∷ department_of k ∷ p ∷ []) → (bytes : List ℕ) → bytes ≡ cell_bytes j (department_of k) p
    → decoded k bytes ≡ Some (Job j p)
unfolding decoded
job_written k j p le one postage fit bytes is =
    ap (λ (vs : List ℕ). row_from k vs) (numbers_back j (department_of k) p fit bytes is)
    ∙ ap (λ (t : Bool). if t then quota_from k (j ∷ department_of k ∷ p ∷ []) else job_from k (j ∷ department_of k ∷ p ∷ [])) (not_below k 16 le) ∙ job_back k j p one postage

-- == what is read ==

both_tests : {A : Type 0} (one two : Bool) (a x : A) → (if one then (if two then Some a else None) else None) ≡ Some x → (two ≡ true) × (a ≡ x)
both_tests true true a x is = (refl, cc)
both_tests true false a x is = cc
both_tests false two a x is = cc

quota_fits : (k : ℕ) (vs : List ℕ) (x : DepartmentRow) → k < 16 → quota_from k vs ≡ Some x → IsFit k x
unfolding quota_from
quota_fits k vs x lt is = subst (λ (y : DepartmentRow). IsFit k y) (both_tests (get_or vs 0 0 == k + 1) (get_or vs 2 0 == 0) (Quota (get_or vs 1 0)) x is).1 lt

in_place : {A B C : Type 0} → A → B × C → A × B × C
in_place a more = (a, more.0, more.1)

job_fits : (k : ℕ) (vs : List ℕ) (x : DepartmentRow) → 16 ≤ k → job_from k vs ≡ Some x → IsFit k x
unfolding job_from
job_fits k vs x le is =
    let tests = both_tests (get_or vs 1 0 == department_of k) (nat_le 1 (get_or vs 0 0) && (nat_le 1 (get_or vs 2 0) && nat_le (get_or vs 2 0) MOST_POSTAGE)) (Job (get_or vs 0 0) (get_or vs 2 0)) x is in
    subst (λ (y : DepartmentRow). IsFit k y) tests.1 (in_place le (is_in_range (get_or vs 0 0) (get_or vs 2 0) MOST_POSTAGE tests.0))

row_fits : (k : ℕ) (vs : List ℕ) (x : DepartmentRow) → row_from k vs ≡ Some x → IsFit k x
row_fits k vs x is = elim (cases_Bool (nat_lt k 16)) [
  | inl prefix ↦ quota_fits k vs x (is_below k 16 prefix) (sym (ap (λ (t : Bool). if t then quota_from k vs else job_from k vs) prefix) ∙ is)
  | inr behind ↦ job_fits k vs x (is_not_below k 16 behind) (sym (ap (λ (t : Bool). if t then quota_from k vs else job_from k vs) behind) ∙ is)
]

-- what a payload reads as fits its cell
pub decoded_fits : (k : ℕ) (payload : List ℕ) (x : DepartmentRow) → decoded k payload ≡ Some x → IsFit k x
unfolding decoded
decoded_fits k payload x is = row_fits k (values 0 cell_table payload) x is
