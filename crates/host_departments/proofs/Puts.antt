-- Rows that agree still agree after a commit.
use Rattle.std.proofs.Common.{◌≡◌, ◌≢◌, ◌⊎◌, inl, inr, ℕ, ◌+◌, ◌-◌, ◌<◌, ◌≤◌, length, Option, Some, None, refl, sym, ap, ◌∙◌, subst, arith}
use Rattle.std.specs.Prelude.{IsSome, is_some}
use Rattle.std.proofs.lemmas.Bool.{cases_eq, cases_lt}
use Rattle.std.proofs.lemmas.List.{set_past}
use Rattle.std.proofs.lemmas.Option.{same_Some}
use Rattle.node_acts.specs.RowList.{put, row_of, row_at, commits_at}
use Rattle.node_acts.specs.RowLaws.{put_here, put_other}
use Rattle.host_departments.specs.Rows.{Rows, row_in, quota, quota_in, or_zero, spent, postage_at, postage_in, job_in, first_cell, Keeps, HasJobs, AreInOrder, IsDepartment, IsSound}
use Rattle.host_departments.specs.declared.{row.DepartmentRow.DepartmentRow, row.DepartmentRow.TheVariants.Quota, row.DepartmentRow.TheVariants.Job}
use Rattle.host_departments.proofs.Sums.{sum_same, sum_more}

module _ (rows : Rows) (cell : ℕ) (x : DepartmentRow) where
  pub row_put : cell < length rows → row_in (put rows cell x) cell ≡ Some x
  row_put lt = ap (λ o. row_of o) (put_here rows cell x lt)

  pub row_else : (k : ℕ) → k ≢ cell → row_in (put rows cell x) k ≡ row_in rows k
  row_else k differs = ap (λ o. row_of o) (put_other rows cell x k differs)

-- what a cell keeps after a commit is what was committed or was there before
pub put_row : (rows : Rows) (k : ℕ) (x y : DepartmentRow) (l : ℕ) → row_in (put rows k x) l ≡ Some y → (x ≡ y) ⊎ (row_in rows l ≡ Some y)
put_row rows k x y l is = elim (cases_eq l k) [
  | inl same ↦ elim (cases_lt k (length rows)) [
    | inl lt ↦ inl (same_Some x y (sym (row_put rows k x lt) ∙ (ap (λ (j : ℕ). row_in (put rows k x) j) (sym same) ∙ is)))
    | inr past ↦ inr (subst (λ (r : Rows). row_in r l ≡ Some y) (set_past rows k (Some (commits_at (row_at rows k) + 1, x)) past) is)
  ]
  | inr differs ↦ inr (sym (row_else rows k x l differs) ∙ is)
]

some_of : (o p : Option DepartmentRow) → o ≡ p → IsSome p → IsSome o
some_of o p is some = ap (λ (x : Option DepartmentRow). is_some x) is ∙ some

-- == a quota ==

module _ (rows : Rows) (d q : ℕ) (is_d : IsDepartment d) (inside : d - 1 < length rows) where
  abbrev with_quota : Rows
  with_quota = put rows (d - 1) (Quota q)

  jobs_stay : (e i : ℕ) → row_in with_quota (first_cell e + i) ≡ row_in rows (first_cell e + i)
  jobs_stay e i = row_else rows (d - 1) (Quota q) (first_cell e + i) (λ is. omega (arith, is, is_d.1))

  spent_stays : (e : ℕ) → spent with_quota e ≡ spent rows e
  spent_stays e = sum_same 64 (postage_at with_quota e) (postage_at rows e) (λ i lt. ap (λ (o : Option DepartmentRow). postage_in o) (jobs_stay e i))

  quota_now : quota with_quota d ≡ Some q
  quota_now = ap (λ (o : Option DepartmentRow). quota_in o) (row_put rows (d - 1) (Quota q) inside)

  quota_else : (e : ℕ) → IsDepartment e → e ≢ d → quota with_quota e ≡ quota rows e
  quota_else e is_e differs =
      ap (λ (o : Option DepartmentRow). quota_in o) (row_else rows (d - 1) (Quota q) (e - 1) (λ is. differs (omega (arith, is, is_d.0, is_e.0))))

  pub keeps_before : (k j : ℕ) → Keeps with_quota k j → Keeps rows k j
  keeps_before k j keeps = elim (cases_eq k (d - 1)) [
    | inl is ↦
        let wrong : None ≡ Some j =
        sym (ap (λ (o : Option DepartmentRow). job_in o) (ap (λ (n : ℕ). row_in with_quota n) is ∙ row_put rows (d - 1) (Quota q) inside)) ∙ keeps in
        cc
    | inr differs ↦ sym (ap (λ (o : Option DepartmentRow). job_in o) (row_else rows (d - 1) (Quota q) k differs)) ∙ keeps
  ]

  -- a quota that is not below what was spent
  pub quota_sound : IsSound rows → spent rows d ≤ q → IsSound with_quota
  quota_sound sound enough = record {
    each = λ e is_e. (
      λ i lt some. some_of _ _ (jobs_stay e i) ((sound.each e is_e).0 i lt (some_of _ _ (sym (jobs_stay e (i + 1))) some)),
      within e is_e,
    );
    once = λ j k l at at'. sound.once j k l (keeps_before k j at) (keeps_before l j at');
  }
    where
      within : (e : ℕ) → IsDepartment e → spent with_quota e ≤ or_zero (quota with_quota e)
      within e is_e = elim (cases_eq e d) [
        | inl is ↦
            let limit : or_zero (quota with_quota e) ≡ q = ap (λ (n : ℕ). or_zero (quota with_quota n)) is ∙ ap (λ (o : Option ℕ). or_zero o) quota_now in
            let sum : spent with_quota e ≡ spent rows d = spent_stays e ∙ ap (λ (n : ℕ). spent rows n) is in
            omega (arith, limit, sum, enough)
        | inr differs ↦
            let limit : or_zero (quota with_quota e) ≡ or_zero (quota rows e) = ap (λ (o : Option ℕ). or_zero o) (quota_else e is_e differs) in
            let sum = spent_stays e in
            let before = (sound.each e is_e).1 in
            omega (arith, limit, sum, before)
      ]

-- == a job ==

module _ (rows : Rows) (d n j p : ℕ) (is_d : IsDepartment d) (jobs : HasJobs rows d n) (room : n < 64) (inside : first_cell d + n < length rows) where
  abbrev with_job : Rows
  with_job = put rows (first_cell d + n) (Job j p)

  job_now : row_in with_job (first_cell d + n) ≡ Some (Job j p)
  job_now = row_put rows (first_cell d + n) (Job j p) inside

  pub quotas_stay : (e : ℕ) → IsDepartment e → quota with_job e ≡ quota rows e
  quotas_stay e is_e = ap (λ (o : Option DepartmentRow). quota_in o) (row_else rows (first_cell d + n) (Job j p) (e - 1) (λ is. omega (arith, is, is_e.1)))

  -- the other cells
  other_place : (i : ℕ) → i ≢ n → row_in with_job (first_cell d + i) ≡ row_in rows (first_cell d + i)
  other_place i differs = row_else rows (first_cell d + n) (Job j p) (first_cell d + i) (λ is. differs (omega (arith, is)))

  other_department : (e i : ℕ) → IsDepartment e → e ≢ d → i < 64 → row_in with_job (first_cell e + i) ≡ row_in rows (first_cell e + i)
  other_department e i is_e differs lt =
      row_else rows (first_cell d + n) (Job j p) (first_cell e + i) (λ is. differs (omega (arith, is, is_d.0, is_e.0, lt, room)))

  pub spent_more : spent with_job d ≡ spent rows d + p
  spent_more =
      sum_more 64 n p (postage_at rows d) (postage_at with_job d) room (ap (λ (o : Option DepartmentRow). postage_in o) (jobs.blank room))
      (ap (λ (o : Option DepartmentRow). postage_in o) job_now) (λ i differs. ap (λ (o : Option DepartmentRow). postage_in o) (other_place i differs))

  spent_else : (e : ℕ) → IsDepartment e → e ≢ d → spent with_job e ≡ spent rows e
  spent_else e is_e differs =
      sum_same 64 (postage_at with_job e) (postage_at rows e) (λ i lt. ap (λ (o : Option DepartmentRow). postage_in o) (other_department e i is_e differs lt))

  job_at : (k i : ℕ) → k ≡ first_cell d + n → Keeps with_job k i → j ≡ i
  job_at k i is keeps =
      let here : Some j ≡ Some i = sym (ap (λ (o : Option DepartmentRow). job_in o) (ap (λ (m : ℕ). row_in with_job m) is ∙ job_now)) ∙ keeps in cc

  pub kept_else : (k i : ℕ) → k ≢ first_cell d + n → Keeps with_job k i → Keeps rows k i
  kept_else k i differs keeps = sym (ap (λ (o : Option DepartmentRow). job_in o) (row_else rows (first_cell d + n) (Job j p) k differs)) ∙ keeps

  mine_ordered : AreInOrder rows d → AreInOrder with_job d
  mine_ordered ordered i lt some = elim (cases_eq i n) [
    | inl is ↦ some_of _ _ (ap (λ (m : ℕ). row_in with_job (first_cell d + m)) is ∙ job_now) refl
    | inr differs ↦ some_of _ _ (other_place i differs) (elim (cases_eq (i + 1) n) [
      | inl next ↦ jobs.filled i (omega (arith, next))
      | inr apart ↦ ordered i lt (some_of _ _ (sym (other_place (i + 1) apart)) some)
    ])
  ]

  other_ordered : (e : ℕ) → IsDepartment e → e ≢ d → AreInOrder rows e → AreInOrder with_job e
  other_ordered e is_e differs ordered i lt some =
      some_of _ _ (other_department e i is_e differs (omega (arith, lt))) (ordered i lt (some_of _ _ (sym (other_department e (i + 1) is_e differs lt)) some))

  -- a job that no cell keeps, within what is left
  pub job_sound : IsSound rows → ((k : ℕ) → Keeps rows k j → ⊥) → spent rows d + p ≤ or_zero (quota rows d) → IsSound with_job
  job_sound sound free enough = record { each = λ e is_e. (ordered e is_e, within e is_e); once = once }
    where
      ordered : (e : ℕ) → IsDepartment e → AreInOrder with_job e
      ordered e is_e = elim (cases_eq e d) [
        | inl is ↦ subst (λ (m : ℕ). AreInOrder with_job m) (sym is) (mine_ordered (sound.each d is_d).0)
        | inr differs ↦ other_ordered e is_e differs (sound.each e is_e).0
      ]

      within : (e : ℕ) → IsDepartment e → spent with_job e ≤ or_zero (quota with_job e)
      within e is_e =
          let limit : or_zero (quota with_job e) ≡ or_zero (quota rows e) = ap (λ (o : Option ℕ). or_zero o) (quotas_stay e is_e) in
          elim (cases_eq e d) [
            | inl is ↦
                let sum : spent with_job e ≡ spent rows d + p = ap (λ (m : ℕ). spent with_job m) is ∙ spent_more in
                let mine : or_zero (quota rows e) ≡ or_zero (quota rows d) = ap (λ (m : ℕ). or_zero (quota rows m)) is in
                omega (arith, limit, sum, mine, enough)
            | inr differs ↦
                let sum = spent_else e is_e differs in
                let before = (sound.each e is_e).1 in
                omega (arith, limit, sum, before)
          ]

      once : (i k l : ℕ) → Keeps with_job k i → Keeps with_job l i → k ≡ l
      once i k l at at' = elim (cases_eq k (first_cell d + n)) [
        | inl is ↦ elim (cases_eq l (first_cell d + n)) [
          | inl is' ↦ is ∙ sym is'
          | inr differs ↦ absurd (free l (subst (λ (m : ℕ). Keeps rows l m) (sym (job_at k i is at)) (kept_else l i differs at')))
        ]
        | inr apart ↦ elim (cases_eq l (first_cell d + n)) [
          | inl is' ↦ absurd (free k (subst (λ (m : ℕ). Keeps rows k m) (sym (job_at l i is' at')) (kept_else k i apart at)))
          | inr differs ↦ sound.once i k l (kept_else k i apart at) (kept_else l i differs at')
        ]
      ]
