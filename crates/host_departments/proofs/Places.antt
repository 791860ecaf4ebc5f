-- Departments and the cells of their jobs.
use Rattle.std.proofs.Common.{◌≡◌, ◌≢◌, inl, inr, ℕ, zero, suc, ◌+◌, ◌-◌, ◌*◌, ◌/◌, ◌%◌, ◌<◌, ◌≤◌, Option, false, sym, ap, ◌∙◌, subst, arith, true≢false}
use Rattle.std.specs.Prelude.{IsSome, is_some}
use Rattle.std.proofs.lemmas.Bool.{cases_Bool, cases_lt}
use Rattle.std.proofs.lemmas.Nat.{div-add-mod', div_below, mod_below}
use Rattle.host_departments.specs.Rows.{Rows, row_in, first_cell, department_of, Keeps, Has, HasJobs, AreInOrder, IsDepartment, IsSound}
use Rattle.host_departments.specs.declared.row.DepartmentRow.{DepartmentRow}

-- the parts of a cell after the quotas
place_of : (k q r d : ℕ) → q * 64 + r ≡ k - 16 → 16 ≤ k → d ≡ q + 1 → k ≡ first_cell d + r
place_of k q r d parts behind is = omega (arith, parts, behind, is)

-- the department of a cell has the job that it keeps
pub owner : (rows : Rows) (k j d : ℕ) → 16 ≤ k → k < 1040 → Keeps rows k j → d ≡ department_of k → IsDepartment d × Has rows d j
owner rows k j d behind few keeps is =
    let cell : k ≡ first_cell d + (k - 16) % 64 = place_of k ((k - 16) / 64) ((k - 16) % 64) d (div-add-mod' (k - 16) 64) behind is in
    let last : (k - 16) / 64 < 16 = div_below (k - 16) 64 16 (omega arith) (omega (arith, few)) in (
      (omega (arith, is), omega (arith, is, last)),
      record { place = (k - 16) % 64; inside = mod_below (k - 16) 64 (omega arith); kept = subst (λ (n : ℕ). Keeps rows n j) cell keeps },
    )

same_department : (d e a b : ℕ) → 1 ≤ d → 1 ≤ e → a < 64 → b < 64 → first_cell d + a ≡ first_cell e + b → d ≡ e
same_department d e a b d_first e_first a_few b_few is = omega (arith, d_first, e_first, a_few, b_few, is)

-- a job is of at most one department
pub one_department : (rows : Rows) → IsSound rows → (d e j : ℕ) → IsDepartment d → IsDepartment e → Has rows d j → Has rows e j → d ≡ e
one_department rows sound d e j is_d is_e has has' =
    same_department d e has.place has'.place is_d.0 is_e.0 has.inside has'.inside (sound.once j (first_cell d + has.place) (first_cell e + has'.place) has.kept has'.kept)

module _ (rows : Rows) (d : ℕ) (ordered : AreInOrder rows d) where
  -- before a job there are jobs
  all_before : (more i : ℕ) → i + more < 64 → IsSome (row_in rows (first_cell d + (i + more))) → IsSome (row_in rows (first_cell d + i))
  all_before zero i lt some = subst (λ (n : ℕ). IsSome (row_in rows (first_cell d + n))) (nothing i) some
    where
      nothing : (n : ℕ) → n + 0 ≡ n
      nothing n = omega arith
  all_before (suc more) i lt some =
      let next : i + suc more ≡ i + more + 1 = omega arith in
      all_before more i (omega (arith, lt)) (ordered (i + more) (omega (arith, lt)) (subst (λ (n : ℕ). IsSome (row_in rows (first_cell d + n))) next some))

  -- where there is room, the last cell is blank
  pub last_blank : (n : ℕ) → HasJobs rows d n → n ≢ 64 → is_some (row_in rows (first_cell d + 63)) ≡ false
  last_blank n jobs room = elim (cases_Bool (is_some (row_in rows (first_cell d + 63)))) [
    | inl some ↦
        let lt : n < 64 = omega (arith, jobs.few, room) in
        let last : 63 ≡ n + (63 - n) = omega (arith, lt) in
        let filled : IsSome (row_in rows (first_cell d + n)) = all_before (63 - n) n (omega (arith, lt)) (subst (λ (m : ℕ). IsSome (row_in rows (first_cell d + m))) last some) in
        absurd (true≢false (sym filled ∙ ap (λ (o : Option DepartmentRow). is_some o) (jobs.blank lt)))
    | inr none ↦ none
  ]

-- and where the last cell is blank, there is room
pub some_room : (rows : Rows) (d n : ℕ) → HasJobs rows d n → is_some (row_in rows (first_cell d + 63)) ≡ false → n < 64
some_room rows d n jobs blank = elim (cases_lt n 64) [
  | inl lt ↦ lt
  | inr past ↦ absurd (true≢false (sym (jobs.filled 63 (omega (arith, past))) ∙ blank))
]

-- a department has n jobs for one n
pub one_count : (rows : Rows) (d m n : ℕ) → HasJobs rows d m → HasJobs rows d n → m < n → ⊥
one_count rows d m n jobs jobs' lt =
    let blank = jobs.blank (omega (arith, lt, jobs'.few)) in
    true≢false (sym (jobs'.filled m lt) ∙ ap (λ (o : Option DepartmentRow). is_some o) blank)
