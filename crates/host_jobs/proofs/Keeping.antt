-- What is kept follows the rows.
use Rattle.std.proofs.Common.{◌≡◌, ◌≢◌, ⊎_elim, ℕ, ◌+◌, ◌-◌, ◌%◌, ◌<◌, ◌≤◌, Bool, true, false, List, length-set, get_or, set, replicate, Option, Some, None, refl, sym, ap, subst, ◌∙◌, true≢false, arith}
use Rattle.std.specs.Prelude.{max, IfSome, if◌then◌else◌}
use Rattle.std.proofs.lemmas.Bool.{cases_Bool, cases_eq, cases_lt, eq-eqb, ne_eqb}
use Rattle.std.proofs.lemmas.List.{get_or-set_same, get_or-set_other, get_or_past, get_or-replicate}
use Rattle.std.proofs.lemmas.Option.{same_Some, none-some}
use Rattle.bench_base.specs.declared.words.JobState.{JobState}
use Rattle.bench_base.specs.declared.words.JobState.TheVariants as state
use Rattle.bench_base.specs.Jobs.{cell_of, unless_job}
use Rattle.bench_base.specs.Ranges.{IsDevice}
use Rattle.bench_base.proofs.Facts.{some_by, not_none}
use Rattle.node_acts.specs.RowLaws.{listed_at, listed_long}
use Rattle.host_jobs.specs.declared.{rows.JobRow.JobRow, kept.Kept.Kept, orders.Shelf.Shelf, sizes.TheConstants.HOST_CELLS}
use Rattle.host_jobs.specs.Acts.{shelf_in}
use Rattle.host_jobs.specs.Rows.{Jobs, no_jobs, number_in, top_at, is_ordered, waiting, state_in, row_in, put_row, last_in, top_in, open_in, oldest_in, tops_in, opens_in, kept_of, opened_by, kept_after}
use Rattle.host_jobs.specs.Soundness.{IsSoundJob, IsJobAt, IsFresh, AreSound, Comes, IsNext, IsDerived}
use Rattle.host_jobs.proofs.Lists.{greatest_least, found_none, found_set}
use Rattle.host_jobs.proofs.Found.{waiting_is, not_waiting, not_device, waits, opens, opens_none, opened, row_at, tops_at}
use Rattle.host_jobs.proofs.Puts.{put_here, put_other, put_last, put_top}
use Rattle.host_jobs.proofs.Walks.{tops_are, opens_are}

pub opens_at : (rows : Jobs) (d : ℕ) → IsDevice d → get_or (opens_in rows) (d - 1) None ≡ open_in d rows
opens_at rows d is = listed_at 8 (λ i. open_in (i + 1) rows) None (d - 1) (omega (arith, is)) ∙ ap (λ (n : ℕ). open_in n rows) (omega (arith, is))

closed_waits : (d : ℕ) (r : JobRow) → r.state ≡ state.Closed → waiting d (Some r) ≡ None
closed_waits d r is = not_waiting d r (ap is_ordered is)

-- a job that isn't open leaves the open one
unless_same : (j : ℕ) (o : Option ℕ) → (o ≡ Some j → ⊥) → unless_job j o ≡ o
unless_same j None other = refl
unless_same j (Some i) other = rw (ne_eqb i j (λ e. other (ap (λ (n : ℕ). Some n) e))) refl

abbrev of : ℕ → List (Option ℕ) → List ℕ → Kept
of last open_jobs tops = record { last = last; open_jobs = open_jobs; tops = tops }

module _ (rows : Jobs) (x : JobRow) (sound : AreSound rows) (next : IsNext rows x) where
  abbrev cell : ℕ
  cell = cell_of x.job

  abbrev after : Jobs
  after = put_row rows x

  sound_x : IsSoundJob x
  sound_x = (subst (λ (o : Option JobRow). IfSome o (IsJobAt cell)) (put_here rows sound.placed x) (next.sound.placed.each cell)).sound

  -- == the last job ==

  number_le : (o : Option JobRow) → IfSome o (Comes x) → number_in o ≤ x.job
  number_le None comes = omega arith
  number_le (Some r) comes = ⊎_elim
      (λ (same : (r.job ≡ x.job) × (r.device ≡ x.device)). omega (arith, same.0))
      (λ (closed : (r.state ≡ state.Closed) × (r.job ≤ x.job)). closed.1)
      comes

  last_kept : max (last_in rows) x.job ≡ last_in after
  last_kept = sym (put_last rows sound.placed x (number_le (row_in rows cell) next.comes))

  -- == the tops ==

  tops_kept : x.tops ≡ tops_in after
  tops_kept = tops_are after x.tops sound_x.tops (λ i lt.
      let device : IsDevice (i + 1) = (omega arith, omega (arith, lt)) in
      sym (put_top rows sound.placed x (i + 1) (next.tops (i + 1) device) ∙ ap (λ (n : ℕ). get_or x.tops n 0) (omega arith)))

  -- == the open jobs ==

  old_other : (d : ℕ) → x.device ≢ d → (o : Option JobRow) → IfSome o (Comes x) → waiting d o ≡ None
  old_other d differs None comes = refl
  old_other d differs (Some r) comes = ⊎_elim
      (λ (same : (r.job ≡ x.job) × (r.device ≡ x.device)). not_device d r (λ e. differs (sym same.1 ∙ e)))
      (λ (closed : (r.state ≡ state.Closed) × (r.job ≤ x.job)). closed_waits d r closed.0)
      comes

  open_other : (d : ℕ) → x.device ≢ d → open_in d after ≡ open_in d rows
  open_other d differs = found_set (waiting d) rows cell (Some x) None (not_device d x differs ∙ sym (old_other d differs (row_in rows cell) next.comes))

  open_ordered : is_ordered x.state ≡ true → open_in x.device after ≡ Some x.job
  open_ordered state =
      opens after next.sound.placed x.device cell x (put_here rows sound.placed x) state refl
      (λ i some. next.sound.joined.once x.device i cell some (some_by (waiting x.device (row_in after cell)) x.job (ap (waiting x.device) (put_here rows sound.placed x) ∙ waiting_is x.device x state refl)))

  -- the job in its cell waited, and does no more
  open_ends : (r : JobRow) → is_ordered x.state ≡ false → row_in rows cell ≡ Some r → is_ordered r.state ≡ true → r.device ≡ x.device → open_in x.device after ≡ None
  open_ends r state at waits device = opens_none after next.sound.placed x.device (λ k y at_k waits_k device_k. ⊎_elim
      (λ (is : k ≡ cell).
      let same : x ≡ y = same_Some _ _ (sym (put_here rows sound.placed x) ∙ ap (row_in after) (sym is) ∙ at_k) in
      true≢false (sym waits_k ∙ ap (λ (z : JobRow). is_ordered z.state) (sym same) ∙ state))
      (λ (differs : k ≢ cell).
      differs (sound.joined.once x.device k cell
      (some_by (waiting x.device (row_in rows k)) y.job (ap (waiting x.device) (sym (put_other rows sound.placed x k differs) ∙ at_k) ∙ waiting_is x.device y waits_k device_k))
      (some_by (waiting x.device (row_in rows cell)) r.job (ap (waiting x.device) at ∙ waiting_is x.device r waits device))))
      (cases_eq k cell))

  open_was : (r : JobRow) → row_in rows cell ≡ Some r → is_ordered r.state ≡ true → r.device ≡ x.device → open_in x.device rows ≡ Some r.job
  open_was r at waits device = opens rows sound.placed x.device cell r at waits device
      (λ i some. sound.joined.once x.device i cell some (some_by (waiting x.device (row_in rows cell)) r.job (ap (waiting x.device) at ∙ waiting_is x.device r waits device)))

  same_job : (r : JobRow) → is_ordered r.state ≡ true → Comes x r → r.job ≡ x.job
  same_job r waits comes = ⊎_elim
      (λ (same : (r.job ≡ x.job) × (r.device ≡ x.device)). same.0)
      (λ (closed : (r.state ≡ state.Closed) × (r.job ≤ x.job)). absurd (true≢false (sym waits ∙ ap is_ordered closed.0)))
      comes

  -- the row of its cell did not wait
  open_stays : is_ordered x.state ≡ false → waiting x.device (row_in rows cell) ≡ None → unless_job x.job (open_in x.device rows) ≡ open_in x.device after
  open_stays state none =
      unless_same x.job (open_in x.device rows) (λ has.
      let it = opened rows sound.placed x.device x.job has in
      absurd (none-some _ (sym none ∙ ap (waiting x.device) it.is ∙ waiting_is x.device it.row it.waits.state it.waits.device)))
      ∙ sym (found_set (waiting x.device) rows cell (Some x) None (not_waiting x.device x state ∙ sym none))

  open_moved : is_ordered x.state ≡ false → (o : Option JobRow) → row_in rows cell ≡ o → unless_job x.job (open_in x.device rows) ≡ open_in x.device after
  open_moved state None at = open_stays state (ap (waiting x.device) at)
  open_moved state (Some r) at = by (waiting x.device (Some r)) refl
    where
      by : (o : Option ℕ) → waiting x.device (Some r) ≡ o → unless_job x.job (open_in x.device rows) ≡ open_in x.device after
      by None is = open_stays state (ap (waiting x.device) at ∙ is)
      by (Some j) is =
          let it = waits x.device r j is in
          let same = same_job r it.state (subst (λ (o : Option JobRow). IfSome o (Comes x)) at next.comes) in
          let gone : unless_job x.job (Some r.job) ≡ None = rw (eq-eqb r.job x.job same) refl in
          ap (unless_job x.job) (open_was r at it.state it.device) ∙ gone ∙ sym (open_ends r state at it.state it.device)

  open_own : opened_by x (open_in x.device rows) ≡ open_in x.device after
  open_own = ⊎_elim
      (λ (t : is_ordered x.state ≡ true). ap (λ (b : Bool). if b then Some x.job else unless_job x.job (open_in x.device rows)) t ∙ sym (open_ordered t))
      (λ (t : is_ordered x.state ≡ false). ap (λ (b : Bool). if b then Some x.job else unless_job x.job (open_in x.device rows)) t ∙ open_moved t (row_in rows cell) refl)
      (cases_Bool (is_ordered x.state))

  abbrev now : Option ℕ
  now = opened_by x (get_or (opens_in rows) (x.device - 1) None)

  open_each : (i : ℕ) → i < 8 → get_or (set (opens_in rows) (x.device - 1) now) i None ≡ open_in (i + 1) after
  open_each i lt = ⊎_elim
      (λ (is : i ≡ x.device - 1).
      let device : x.device ≡ i + 1 = omega (arith, is, sound_x.device) in
      ap (λ (n : ℕ). get_or (set (opens_in rows) (x.device - 1) now) n None) is
      ∙ get_or-set_same (opens_in rows) (x.device - 1) now None (omega (arith, sound_x.device, listed_long 8 (λ n. open_in (n + 1) rows)))
      ∙ ap (opened_by x) (opens_at rows x.device sound_x.device) ∙ open_own ∙ ap (λ (d : ℕ). open_in d after) device)
      (λ (differs : i ≢ x.device - 1).
      get_or-set_other (opens_in rows) (x.device - 1) i now None differs ∙ listed_at 8 (λ n. open_in (n + 1) rows) None i lt
      ∙ sym (open_other (i + 1) (λ e. differs (omega (arith, e)))))
      (cases_eq i (x.device - 1))

  opens_kept : set (opens_in rows) (x.device - 1) now ≡ opens_in after
  opens_kept = opens_are after (set (opens_in rows) (x.device - 1) now) (length-set (opens_in rows) (x.device - 1) now ∙ listed_long 8 (λ n. open_in (n + 1) rows)) open_each

  pub kept_next : kept_after (kept_of rows) x ≡ kept_of after
  kept_next =
      ap (λ (n : ℕ). of n (set (opens_in rows) (x.device - 1) now) x.tops) last_kept
      ∙ ap (λ (l : List (Option ℕ)). of (last_in after) l x.tops) opens_kept
      ∙ ap (λ (l : List ℕ). of (last_in after) (opens_in after) l) tops_kept

pub keeps_on : (rows : Jobs) (kept : Kept) (x : JobRow) → IsDerived rows kept → IsNext rows x → IsDerived (put_row rows x) (kept_after kept x)
keeps_on rows kept x is next = record { sound = next.sound; is = ap (λ (k : Kept). kept_after k x) is.is ∙ kept_next rows x is.sound next }

-- == no jobs ==

pub none_at : (k : ℕ) → row_in no_jobs k ≡ None
none_at k = ⊎_elim
    (λ (lt : k < HOST_CELLS). listed_at HOST_CELLS (λ i. None) None k lt)
    (λ (past : HOST_CELLS ≤ k). get_or_past no_jobs k None (omega (arith, past, listed_long {A = Option JobRow} HOST_CELLS (λ i. None))))
    (cases_lt k HOST_CELLS)

none_last : last_in no_jobs ≡ 0
none_last = omega (arith, greatest_least number_in no_jobs None 0 (λ k lt. omega (arith, ap number_in (none_at k))))

none_top : (d : ℕ) → top_in d no_jobs ≡ 0
none_top d = omega (arith, greatest_least (top_at d) no_jobs None 0 (λ k lt. omega (arith, ap (top_at d) (none_at k))))

none_open : (d : ℕ) → open_in d no_jobs ≡ None
none_open d = found_none (waiting d) no_jobs None (λ k lt. ap (waiting d) (none_at k))

no_jobs_sound : AreSound no_jobs
no_jobs_sound = record {
  placed = record {
    long = listed_long HOST_CELLS (λ i. None);
    each = λ k. subst (λ (o : Option JobRow). IfSome o (IsJobAt k)) (sym (none_at k)) tt;
  };
  joined = record {
    gapless = λ j from most near. absurd (omega (arith, from, most, none_last));
    once = λ d i k some some'. not_none (waiting d (row_in no_jobs i)) some (ap (waiting d) (none_at i));
    fresh = λ k. subst (λ (o : Option JobRow). IfSome o (IsFresh no_jobs)) (sym (none_at k)) tt;
  };
}

at_none : {A : Type 0} (a : A) (n i : ℕ) (d : A) → i < n → get_or (replicate n a) i d ≡ a
at_none a n i d lt = get_or-replicate n i a d lt

pub none_kept : IsDerived no_jobs (record { last = 0; open_jobs = replicate 8 None; tops = replicate 8 0 })
none_kept = record {
  sound = no_jobs_sound;
  is =
      let tops : replicate 8 0 ≡ tops_in no_jobs = tops_are no_jobs (replicate 8 0) refl (λ i lt. at_none 0 8 i 0 lt ∙ sym (none_top (i + 1))) in
      let opens : replicate 8 None ≡ opens_in no_jobs = opens_are no_jobs (replicate 8 None) refl (λ i lt. at_none None 8 i None lt ∙ sym (none_open (i + 1))) in
      ap (λ (n : ℕ). of n (replicate 8 None) (replicate 8 0)) (sym none_last) ∙ ap (λ (l : List (Option ℕ)). of (last_in no_jobs) l (replicate 8 0)) opens
      ∙ ap (λ (l : List ℕ). of (last_in no_jobs) (opens_in no_jobs) l) tops;
}

-- == what is kept, read ==

module _ (rows : Jobs) (kept : Kept) (is : IsDerived rows kept) where
  pub open_kept : (d : ℕ) → IsDevice d → get_or kept.open_jobs (d - 1) None ≡ open_in d rows
  open_kept d device = ap (λ (k : Kept). get_or k.open_jobs (d - 1) None) is.is ∙ opens_at rows d device

  pub top_kept : (d : ℕ) → IsDevice d → get_or kept.tops (d - 1) 0 ≡ top_in d rows
  top_kept d device = ap (λ (k : Kept). get_or k.tops (d - 1) 0) is.is ∙ tops_at rows d device

  -- a device of another number has no job
  pub open_foreign : (d : ℕ) → (IsDevice d → ⊥) → open_in d rows ≡ None
  open_foreign d other = opens_none rows is.sound.placed d (λ k r at state device. other (subst IsDevice device (row_at rows is.sound.placed k r at).sound.device))

  pub shelf_kept : (d g : ℕ) (oldest : Option JobState) → IsDevice d → g ≡ d → oldest ≡ state_in (row_in rows (kept.last % 1024))
      → ◌≡◌ {A = Shelf} (record { last = kept.last; open_job = get_or kept.open_jobs (g - 1) None; top = get_or kept.tops (g - 1) 0; oldest = oldest }) (shelf_in d rows)
  shelf_kept d g oldest device same old =
      let last : kept.last ≡ last_in rows = ap (λ (k : Kept). k.last) is.is in
      let open_job : get_or kept.open_jobs (g - 1) None ≡ open_in d rows = ap (λ (n : ℕ). get_or kept.open_jobs (n - 1) None) same ∙ open_kept d device in
      let top : get_or kept.tops (g - 1) 0 ≡ top_in d rows = ap (λ (n : ℕ). get_or kept.tops (n - 1) 0) same ∙ top_kept d device in
      let oldest_is : oldest ≡ oldest_in rows = old ∙ ap (λ (n : ℕ). state_in (row_in rows (n % 1024))) last in
      λ i. record { last = last i; open_job = open_job i; top = top i; oldest = oldest_is i }
