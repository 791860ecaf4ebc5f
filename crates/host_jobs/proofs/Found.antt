-- What the cells of sound rows hold.
use Rattle.std.proofs.Common.{◌≡◌, ◌≢◌, ℕ, ◌+◌, ◌-◌, ◌<◌, ◌≤◌, Bool, true, false, length, get_or, Option, Some, None, refl, sym, ap, subst, ◌∙◌, ⊎_elim, arith}
use Rattle.std.specs.Prelude.{◌==◌, ◌&&◌, IfSome, IsSome}
use Rattle.std.proofs.lemmas.Bool.{cases_Bool, cases_lt, eqb-true, eq-eqb, ne_eqb, and_parts}
use Rattle.std.proofs.lemmas.List.{get_or_past}
use Rattle.std.proofs.lemmas.Option.{same_Some, none-some}
use Rattle.bench_base.specs.Jobs.{cell_of}
use Rattle.bench_base.specs.Ranges.{IsDevice}
use Rattle.bench_base.proofs.Facts.{some_by, not_none}
use Rattle.host_jobs.specs.declared.rows.JobRow.{JobRow}
use Rattle.host_jobs.specs.Rows.{Jobs, number_in, top_at, is_ordered, waiting, row_in, if_job, job_row, last_in, top_in, open_in, tops_in}
use Rattle.host_jobs.specs.Soundness.{IsJobAt, ArePlaced, AreSound}
use Rattle.node_acts.specs.RowLaws.{listed_at}
use Rattle.host_jobs.proofs.Lists.{greatest_le, found_none, found_at, found_one}
use Rattle.host_jobs.proofs.Cells.{later}

-- a row that is of the job
pub if_job_some : (j : ℕ) (o : Option JobRow) (r : JobRow) → if_job j o ≡ Some r → (o ≡ Some r) × (r.job ≡ j)
if_job_some j None r h = absurd (none-some _ h)
if_job_some j (Some x) r h = ⊎_elim
    (λ (t : (x.job == j) ≡ true). let same : x ≡ r = same_Some _ _ (rw t at h) in (ap (λ (y : JobRow). Some y) same, ap (λ (y : JobRow). y.job) (sym same) ∙ eqb-true x.job j t))
    (λ (t : (x.job == j) ≡ false). absurd (none-some _ (rw t at h)))
    (cases_Bool (x.job == j))

pub if_job_is : (j : ℕ) (o : Option JobRow) (r : JobRow) → o ≡ Some r → r.job ≡ j → if_job j o ≡ Some r
if_job_is j o r is same = ap (if_job j) is ∙ (rw (eq-eqb r.job j same) refl)

pub found_row : (rows : Jobs) (j : ℕ) (r : JobRow) → job_row rows j ≡ Some r → (row_in rows (cell_of j) ≡ Some r) × (r.job ≡ j)
found_row rows j r h = if_job_some j (row_in rows (cell_of j)) r h

-- what waits for a mark
pub record Waits (d : ℕ) (r : JobRow) (j : ℕ) : Type 0 where
  pub state : is_ordered r.state ≡ true
  pub device : r.device ≡ d
  pub job : r.job ≡ j

pub waits : (d : ℕ) (r : JobRow) (j : ℕ) → waiting d (Some r) ≡ Some j → Waits d r j
waits d r j h = ⊎_elim
    (λ (t : (is_ordered r.state && (r.device == d)) ≡ true).
    let parts = and_parts (is_ordered r.state) (r.device == d) t in
    record { state = parts.0; device = eqb-true r.device d parts.1; job = same_Some _ _ (rw t at h) })
    (λ (t : (is_ordered r.state && (r.device == d)) ≡ false). absurd (none-some _ (rw t at h)))
    (cases_Bool (is_ordered r.state && (r.device == d)))

pub waiting_is : (d : ℕ) (r : JobRow) → is_ordered r.state ≡ true → r.device ≡ d → waiting d (Some r) ≡ Some r.job
waiting_is d r state device = rw (state, eq-eqb r.device d device) refl

pub not_waiting : (d : ℕ) (r : JobRow) → is_ordered r.state ≡ false → waiting d (Some r) ≡ None
not_waiting d r state = rw state refl

pub not_device : (d : ℕ) (r : JobRow) → r.device ≢ d → waiting d (Some r) ≡ None
not_device d r other = by (is_ordered r.state) refl
  where
    by : (b : Bool) → is_ordered r.state ≡ b → waiting d (Some r) ≡ None
    by true at = rw (at, ne_eqb r.device d other) refl
    by false at = rw at refl

waits_some : (d : ℕ) (r : JobRow) (o : Option ℕ) → waiting d (Some r) ≡ o → IsSome o → Waits d r r.job
waits_some d r None at h = not_none {A = ℕ} None h refl
waits_some d r (Some j) at h = let it = waits d r j at in record { state = it.state; device = it.device; job = refl }

-- what waits in a cell is a row
pub some_waits : (d : ℕ) (o : Option JobRow) → IsSome (waiting d o) → (r : JobRow) × (o ≡ Some r) × Waits d r r.job
some_waits d None h = not_none {A = ℕ} None h refl
some_waits d (Some r) h = (r, refl, waits_some d r (waiting d (Some r)) refl h)

module _ (rows : Jobs) (placed : ArePlaced rows) where
  pub row_at : (k : ℕ) (r : JobRow) → row_in rows k ≡ Some r → IsJobAt k r
  row_at k r is = subst (λ (o : Option JobRow). IfSome o (IsJobAt k)) is (placed.each k)

  pub row_inside : (k : ℕ) (r : JobRow) → row_in rows k ≡ Some r → k < length rows
  row_inside k r is = ⊎_elim
      (λ (lt : k < length rows). lt)
      (λ (past : length rows ≤ k). absurd (none-some _ (sym (get_or_past rows k None past) ∙ is)))
      (cases_lt k (length rows))

  -- the number of a row is at most the last
  pub row_last : (k : ℕ) (r : JobRow) → row_in rows k ≡ Some r → r.job ≤ last_in rows
  row_last k r is = omega (arith, ap number_in is, greatest_le number_in rows k None refl)

  pub row_top : (d k : ℕ) → top_at d (row_in rows k) ≤ top_in d rows
  row_top d k = greatest_le (top_at d) rows k None refl

  -- a row of device d that waits, if no other does
  pub opens : (d k : ℕ) (r : JobRow) → row_in rows k ≡ Some r → is_ordered r.state ≡ true → r.device ≡ d
      → ((i : ℕ) → IsSome (waiting d (row_in rows i)) → i ≡ k) → open_in d rows ≡ Some r.job
  opens d k r is state device one =
      found_one (waiting d) rows None k r.job (row_inside k r is) (ap (waiting d) is ∙ waiting_is d r state device) (λ i inside some. one i some)

  pub opens_none : (d : ℕ) → ((k : ℕ) (r : JobRow) → row_in rows k ≡ Some r → is_ordered r.state ≡ true → r.device ≡ d → ⊥) → open_in d rows ≡ None
  opens_none d none = found_none (waiting d) rows None (λ k lt. by k (row_in rows k) refl)
    where
      by : (k : ℕ) (o : Option JobRow) → row_in rows k ≡ o → waiting d o ≡ None
      by k None at = refl
      by k (Some r) at = ⊎_elim
          (λ (t : is_ordered r.state ≡ true). not_device d r (λ same. none k r at t same))
          (λ (t : is_ordered r.state ≡ false). not_waiting d r t)
          (cases_Bool (is_ordered r.state))

  -- what the open job is
  pub record Open (d j : ℕ) : Type 0 where
    pub row : JobRow
    pub is : row_in rows (cell_of j) ≡ Some row
    pub waits : Waits d row j

  pub opened : (d j : ℕ) → open_in d rows ≡ Some j → Open d j
  opened d j h =
      let it = found_at (waiting d) rows None j h in
      let some = some_waits d (row_in rows it.place) (some_by (waiting d (row_in rows it.place)) j it.is) in
      let same = waits d some.0 j (sym (ap (waiting d) some.1) ∙ it.is) in
      record { row = some.0; is = ap (row_in rows) (ap cell_of (sym same.job) ∙ (row_at it.place some.0 some.1).cell) ∙ some.1; waits = same }

  -- there is no open job: no row waits
  pub unopened : (d k : ℕ) (r : JobRow) → open_in d rows ≡ None → row_in rows k ≡ Some r → is_ordered r.state ≡ true → r.device ≡ d
      → ((i : ℕ) → IsSome (waiting d (row_in rows i)) → i ≡ k) → ⊥
  unopened d k r none is state device one = absurd (none-some _ (sym none ∙ opens d k r is state device one))

module _ (rows : Jobs) (sound : AreSound rows) where
  pub waits_once : (d i k : ℕ) → IsSome (waiting d (row_in rows i)) → IsSome (waiting d (row_in rows k)) → i ≡ k
  waits_once = sound.joined.once

  -- each row is one of the last 1,024
  pub row_near : (k : ℕ) (r : JobRow) → row_in rows k ≡ Some r → last_in rows < r.job + 1024
  row_near k r is = ⊎_elim (λ (lt : last_in rows < r.job + 1024). lt) (λ (far : r.job + 1024 ≤ last_in rows). absurd (apart far)) (cases_lt (last_in rows) (r.job + 1024))
    where
      at : IsJobAt k r
      at = row_at rows sound.placed k r is

      apart : r.job + 1024 ≤ last_in rows → ⊥
      apart far =
          let it = later r.job (last_in rows) at.sound.job (row_last rows sound.placed k r is) in
          not_other it.job (it.near) it.most it.from it.same (job_row rows it.job) refl far
        where
          not_other : (j : ℕ) → last_in rows < j + 1024 → j ≤ last_in rows → 1 ≤ j → cell_of j ≡ cell_of r.job → (o : Option JobRow) → job_row rows j ≡ o → r.job + 1024 ≤ last_in rows → ⊥
          not_other j near most from same None at_j far = not_none (job_row rows j) (sound.joined.gapless j from most near) at_j
          not_other j near most from same (Some x) at_j far =
              let found = found_row rows j x at_j in
              let is_r : x ≡ r = same_Some _ _ (sym found.0 ∙ ap (row_in rows) (same ∙ at.cell) ∙ is) in
              omega (arith, near, far, found.1, ap (λ (y : JobRow). y.job) is_r)

-- the tops of all rows
pub tops_at : (rows : Jobs) (d : ℕ) → IsDevice d → get_or (tops_in rows) (d - 1) 0 ≡ top_in d rows
tops_at rows d is = listed_at 8 (λ i. top_in (i + 1) rows) 0 (d - 1) (omega (arith, is)) ∙ ap (λ (n : ℕ). top_in n rows) (omega (arith, is))
