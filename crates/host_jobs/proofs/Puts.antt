-- A row that is put into its cell leaves sound rows.
use Rattle.std.proofs.Common.{◌≡◌, ◌≢◌, ◌⊎◌, inl, inr, ℕ, ◌+◌, ◌-◌, ◌<◌, ◌≤◌, true, false, length-set, get_or, Option, Some, None, refl, sym, ap, subst, ◌∙◌, true≢false, ⊎_elim, arith}
use Rattle.std.specs.Prelude.{max, IfSome, IsSome}
use Rattle.std.proofs.lemmas.Bool.{cases_eq}
use Rattle.std.proofs.lemmas.List.{get_or-set_same, get_or-set_other}
use Rattle.std.proofs.lemmas.Option.{same_Some, none-some}
use Rattle.bench_base.specs.declared.words.JobState.TheVariants as state
use Rattle.bench_base.specs.Jobs.{cell_of}
use Rattle.bench_base.specs.Ranges.{IsDevice}
use Rattle.bench_base.proofs.Facts.{some_by, not_none}
use Rattle.host_jobs.specs.declared.rows.JobRow.{JobRow}
use Rattle.host_jobs.specs.Rows.{Jobs, number_in, top_at, is_ordered, waiting, row_in, put_row, if_job, job_row, last_in, top_in, open_in}
use Rattle.host_jobs.specs.Soundness.{IsSoundJob, IsJobAt, IsFresh, ArePlaced, AreSound, Comes, IsNext}
use Rattle.host_jobs.proofs.Lists.{greatest_set}
use Rattle.host_jobs.proofs.Cells.{cell_lt, cell_one}
use Rattle.host_jobs.proofs.Found.{if_job_is, some_waits, not_waiting, waiting_is, row_at, row_last, row_top, waits_once, row_near, opens}

module _ (rows : Jobs) (placed : ArePlaced rows) (x : JobRow) where
  pub put_here : row_in (put_row rows x) (cell_of x.job) ≡ Some x
  put_here = get_or-set_same rows (cell_of x.job) (Some x) None (omega (arith, cell_lt x.job, placed.long))

  pub put_other : (k : ℕ) → k ≢ cell_of x.job → row_in (put_row rows x) k ≡ row_in rows k
  put_other k differs = get_or-set_other rows (cell_of x.job) k (Some x) None differs

  pub put_last : number_in (row_in rows (cell_of x.job)) ≤ x.job → last_in (put_row rows x) ≡ max (last_in rows) x.job
  put_last le = greatest_set number_in rows (cell_of x.job) (Some x) None (omega (arith, cell_lt x.job, placed.long)) le

  pub put_top : (d : ℕ) → top_in d rows ≤ get_or x.tops (d - 1) 0 → top_in d (put_row rows x) ≡ get_or x.tops (d - 1) 0
  put_top d le =
      let old = row_top rows placed d (cell_of x.job) in
      let is = greatest_set (top_at d) rows (cell_of x.job) (Some x) None (omega (arith, cell_lt x.job, placed.long)) (omega (arith, old, le)) in
      omega (arith, is, le)

  -- what holds of the row in each cell
  pub put_each : (P : ℕ → Option JobRow → Type 0) → P (cell_of x.job) (Some x) → ((k : ℕ) → k ≢ cell_of x.job → P k (row_in rows k)) → (k : ℕ) → P k (row_in (put_row rows x) k)
  put_each P here others k = ⊎_elim
      (λ (is : k ≡ cell_of x.job). subst (λ (j : ℕ). P j (row_in (put_row rows x) j)) (sym is) (subst (P (cell_of x.job)) (sym put_here) here))
      (λ (differs : k ≢ cell_of x.job). subst (P k) (sym (put_other k differs)) (others k differs))
      (cases_eq k (cell_of x.job))

  pub put_placed : IsSoundJob x → ArePlaced (put_row rows x)
  put_placed sound = record {
    long = length-set rows (cell_of x.job) (Some x) ∙ placed.long;
    each = put_each (λ k o. IfSome o (IsJobAt k)) (record { cell = refl; sound = sound }) (λ k differs. placed.each k);
  }

  -- a row with a number no less than those of the rows before
  pub put_job : (j : ℕ) → (cell_of j ≡ cell_of x.job → j ≡ x.job) → (cell_of j ≢ cell_of x.job → IsSome (job_row rows j)) → IsSome (job_row (put_row rows x) j)
  put_job j same other = ⊎_elim
      (λ (is : cell_of j ≡ cell_of x.job). some_by (job_row (put_row rows x) j) x (if_job_is j (row_in (put_row rows x) (cell_of j)) x (ap (row_in (put_row rows x)) is ∙ put_here) (sym (same is))))
      (λ (differs : cell_of j ≢ cell_of x.job). subst (λ (o : Option JobRow). IsSome (if_job j o)) (sym (put_other (cell_of j) differs)) (other differs))
      (cases_eq (cell_of j) (cell_of x.job))

-- no job waits in two cells
abbrev Once : Jobs → Type 0
Once rows = (d i k : ℕ) → IsSome (waiting d (row_in rows i)) → IsSome (waiting d (row_in rows k)) → i ≡ k

-- == a job goes on ==

-- the next row of a job that is there, with the present tops, or with the piece of the job among them
pub record GoesOn (rows : Jobs) (r x : JobRow) : Type 0 where
  pub sound : IsSoundJob x
  pub job : r.job ≡ x.job
  pub device : r.device ≡ x.device
  pub state : is_ordered x.state ≡ false
  pub tops : (d : ℕ) → IsDevice d → (get_or x.tops (d - 1) 0 ≡ top_in d rows)
      ⊎ ((d ≡ r.device) × (is_ordered r.state ≡ true) × (top_in d rows ≤ get_or x.tops (d - 1) 0))

module _ (rows : Jobs) (sound : AreSound rows) (r x : JobRow) (is : row_in rows (cell_of x.job) ≡ Some r) (on : GoesOn rows r x) where
  placed : ArePlaced rows
  placed = sound.placed

  tops_le : (d : ℕ) → IsDevice d → top_in d rows ≤ get_or x.tops (d - 1) 0
  tops_le d device = ⊎_elim
      (λ (same : get_or x.tops (d - 1) 0 ≡ top_in d rows). omega (arith, same))
      (λ (more : (d ≡ r.device) × (is_ordered r.state ≡ true) × (top_in d rows ≤ get_or x.tops (d - 1) 0)). more.2)
      (on.tops d device)

  last_same : last_in (put_row rows x) ≡ last_in rows
  last_same =
      let is_last = put_last rows placed x (omega (arith, ap number_in is, on.job)) in
      omega (arith, is_last, row_last rows placed (cell_of x.job) r is, on.job)

  on_gapless : (j : ℕ) → 1 ≤ j → j ≤ last_in (put_row rows x) → last_in (put_row rows x) < j + 1024 → IsSome (job_row (put_row rows x) j)
  on_gapless j from most near =
      let there = sound.joined.gapless j from (omega (arith, most, last_same)) (omega (arith, near, last_same)) in
      put_job rows placed x j
      (λ same. cell_one (last_in rows) j x.job from (omega (arith, most, last_same)) (omega (arith, near, last_same)) on.sound.job
      (omega (arith, row_last rows placed (cell_of x.job) r is, on.job)) (omega (arith, row_near rows sound (cell_of x.job) r is, on.job)) same)
      (λ differs. there)

  waits_not : (d k : ℕ) → IsSome (waiting d (row_in (put_row rows x) k)) → (k ≢ cell_of x.job) × IsSome (waiting d (row_in rows k))
  waits_not d k some = ⊎_elim
      (λ (here : k ≡ cell_of x.job). not_none (waiting d (row_in (put_row rows x) k)) some (ap (waiting d) (ap (row_in (put_row rows x)) here ∙ put_here rows placed x) ∙ not_waiting d x on.state))
      (λ (differs : k ≢ cell_of x.job). (differs, subst (λ (o : Option JobRow). IsSome (waiting d o)) (put_other rows placed x k differs) some))
      (cases_eq k (cell_of x.job))

  on_once : Once (put_row rows x)
  on_once d i k some some' = waits_once rows sound d i k (waits_not d i some).1 (waits_not d k some').1

  on_fresh : (k : ℕ) → k ≢ cell_of x.job → (o : Option JobRow) → row_in rows k ≡ o → IfSome o (IsFresh (put_row rows x))
  on_fresh k differs None at = tt
  on_fresh k differs (Some y) at = λ waits.
      let before = subst (λ (o : Option JobRow). IfSome o (IsFresh rows)) at (sound.joined.fresh k) waits in
      let device : IsDevice y.device = (row_at rows placed k y at).sound.device in
      let now = put_top rows placed x y.device (tops_le y.device device) in
      ⊎_elim
      (λ (same : get_or x.tops (y.device - 1) 0 ≡ top_in y.device rows). omega (arith, before, now, same))
      (λ (more : (y.device ≡ r.device) × (is_ordered r.state ≡ true) × (top_in y.device rows ≤ get_or x.tops (y.device - 1) 0)).
      let other = some_by (waiting y.device (row_in rows (cell_of x.job))) r.job (ap (waiting y.device) is ∙ waiting_is y.device r more.1 (sym more.0)) in
      let this = some_by (waiting y.device (row_in rows k)) y.job (ap (waiting y.device) at ∙ waiting_is y.device y waits refl) in
      absurd (differs (waits_once rows sound y.device k (cell_of x.job) this other)))
      (on.tops y.device device)

  pub on_sound : AreSound (put_row rows x)
  on_sound = record {
    placed = put_placed rows placed x on.sound;
    joined = record {
      gapless = on_gapless;
      once = on_once;
      fresh = put_each rows placed x (λ k o. IfSome o (IsFresh (put_row rows x))) (λ waits. absurd (true≢false (sym waits ∙ on.state))) (λ k differs. on_fresh k differs (row_in rows k) refl);
    };
  }

  pub on_next : IsNext rows x
  on_next = record { sound = on_sound; tops = tops_le; comes = subst (λ (o : Option JobRow). IfSome o (Comes x)) (sym is) (inl (on.job, on.device)) }

-- == a new job ==

-- the row of a new job, with the present tops
pub record Begins (rows : Jobs) (x : JobRow) : Type 0 where
  pub sound : IsSoundJob x
  pub job : x.job ≡ last_in rows + 1
  pub waits : is_ordered x.state ≡ true
  pub idle : open_in x.device rows ≡ None
  pub fresh : top_in x.device rows < x.piece
  pub tops : (d : ℕ) → IsDevice d → get_or x.tops (d - 1) 0 ≡ top_in d rows
  -- the job in its cell is closed
  pub room : (r : JobRow) → row_in rows (cell_of x.job) ≡ Some r → r.state ≡ state.Closed

module _ (rows : Jobs) (sound : AreSound rows) (x : JobRow) (new : Begins rows x) where
  abbrev cell : ℕ
  cell = cell_of x.job

  all_placed : ArePlaced rows
  all_placed = sound.placed

  tops_keep : (d : ℕ) → IsDevice d → top_in d rows ≤ get_or x.tops (d - 1) 0
  tops_keep d device = omega (arith, new.tops d device)

  number_less : (o : Option JobRow) → row_in rows cell ≡ o → number_in o ≤ x.job
  number_less None at = omega arith
  number_less (Some r) at = omega (arith, row_last rows all_placed cell r at, new.job)

  last_more : last_in (put_row rows x) ≡ last_in rows + 1
  last_more = let is = put_last rows all_placed x (number_less (row_in rows cell) refl) in omega (arith, is, new.job)

  new_gapless : (j : ℕ) → 1 ≤ j → j ≤ last_in (put_row rows x) → last_in (put_row rows x) < j + 1024 → IsSome (job_row (put_row rows x) j)
  new_gapless j from most near =
      put_job rows all_placed x j
      (λ same. cell_one (last_in rows + 1) j x.job from (omega (arith, most, last_more)) (omega (arith, near, last_more)) (omega (arith, new.job)) (omega (arith, new.job)) (omega (arith, new.job)) same)
      (λ differs. before differs (cases_eq j (last_in rows + 1)))
    where
      before : cell_of j ≢ cell → (j ≡ last_in rows + 1) ⊎ (j ≢ last_in rows + 1) → IsSome (job_row rows j)
      before differs (inl is) = absurd (differs (ap cell_of (is ∙ sym new.job)))
      before differs (inr less) = sound.joined.gapless j from (omega (arith, most, last_more, less)) (omega (arith, near, last_more))

  -- no other job of its device waits
  alone : (d k : ℕ) → IsSome (waiting d (row_in rows k)) → d ≢ x.device
  alone d k some same =
      let it = some_waits d (row_in rows k) some in
      absurd (none-some _ (sym (ap (λ (e : ℕ). open_in e rows) same ∙ new.idle) ∙ opens rows all_placed d k it.0 it.1 it.2.state it.2.device (λ i other. waits_once rows sound d i k other some)))

  -- where one waits, in its own cell or in another
  waits_where : (d k : ℕ) → IsSome (waiting d (row_in (put_row rows x) k)) → ((k ≡ cell) × (d ≡ x.device)) ⊎ ((k ≢ cell) × IsSome (waiting d (row_in rows k)))
  waits_where d k some = ⊎_elim
      (λ (here : k ≡ cell).
      let it = some_waits d (row_in (put_row rows x) k) some in
      let same : it.0 ≡ x = same_Some _ _ (sym it.1 ∙ ap (row_in (put_row rows x)) here ∙ put_here rows all_placed x) in
      inl (here, sym it.2.device ∙ ap (λ (y : JobRow). y.device) same))
      (λ (differs : k ≢ cell). inr (differs, subst (λ (o : Option JobRow). IsSome (waiting d o)) (put_other rows all_placed x k differs) some))
      (cases_eq k cell)

  new_once : Once (put_row rows x)
  new_once d i k some some' = by (waits_where d i some) (waits_where d k some')
    where
      by : ((i ≡ cell) × (d ≡ x.device)) ⊎ ((i ≢ cell) × IsSome (waiting d (row_in rows i))) → ((k ≡ cell) × (d ≡ x.device)) ⊎ ((k ≢ cell) × IsSome (waiting d (row_in rows k))) → i ≡ k
      by (inl a) (inl b) = a.0 ∙ sym b.0
      by (inl a) (inr b) = absurd (alone d k b.1 a.1)
      by (inr a) (inl b) = absurd (alone d i a.1 b.1)
      by (inr a) (inr b) = waits_once rows sound d i k a.1 b.1

  new_fresh : (k : ℕ) → (o : Option JobRow) → row_in rows k ≡ o → IfSome o (IsFresh (put_row rows x))
  new_fresh k None at = tt
  new_fresh k (Some y) at = λ waits.
      let before = subst (λ (o : Option JobRow). IfSome o (IsFresh rows)) at (sound.joined.fresh k) waits in
      let device : IsDevice y.device = (row_at rows all_placed k y at).sound.device in
      omega (arith, before, put_top rows all_placed x y.device (tops_keep y.device device), new.tops y.device device)

  pub new_sound : AreSound (put_row rows x)
  new_sound = record {
    placed = put_placed rows all_placed x new.sound;
    joined = record {
      gapless = new_gapless;
      once = new_once;
      fresh = put_each rows all_placed x (λ k o. IfSome o (IsFresh (put_row rows x)))
          (λ waits. omega (arith, new.fresh, put_top rows all_placed x x.device (tops_keep x.device new.sound.device), new.tops x.device new.sound.device))
          (λ k differs. new_fresh k (row_in rows k) refl);
    };
  }

  pub new_next : IsNext rows x
  new_next = record { sound = new_sound; tops = tops_keep; comes = comes (row_in rows cell) refl }
    where
      comes : (o : Option JobRow) → row_in rows cell ≡ o → IfSome o (Comes x)
      comes None at = tt
      comes (Some r) at = inr (new.room r at, omega (arith, row_last rows all_placed cell r at, new.job))

-- the cell of a new job is free where that of the oldest job is
pub oldest_closed : (rows : Jobs) (r : JobRow) → AreSound rows → row_in rows (cell_of (last_in rows + 1)) ≡ Some r → 1024 ≤ last_in rows
oldest_closed rows r sound is =
    let at = row_at rows sound.placed (cell_of (last_in rows + 1)) r is in
    omega (arith, at.cell, at.sound.job, row_last rows sound.placed (cell_of (last_in rows + 1)) r is)
