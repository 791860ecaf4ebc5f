-- What sound rows record is what their commits record.
use Rattle.std.proofs.Common.{◌≡◌, ◌≢◌, ℕ, ◌+◌, ◌-◌, ◌%◌, ◌<◌, ◌≤◌, Bool, true, false, List, length, get_or, Option, Some, None, ⊎_elim, refl, sym, ap, subst, ◌∙◌, true≢false, arith}
use Rattle.std.specs.Prelude.{◌&&◌, nat_le, nat_lt, if◌then◌else◌}
use Rattle.std.proofs.lemmas.Bool.{cases_Bool, cases_eq, and_parts, le-leb, lt-ltb, leb-true, ltb-true}
use Rattle.std.proofs.lemmas.Option.{same_Some, none-some}
use Rattle.bench_base.specs.declared.{words.JobState.JobState, ledger.Commit.Commit}
use Rattle.bench_base.specs.declared.words.JobState.TheVariants as state
use Rattle.bench_base.specs.Jobs.{Job, cell_of, last_job, job_of, state_of, open_job, top, in_cells}
use Rattle.bench_base.specs.Ranges.{IsDevice}
use Rattle.bench_base.proofs.Facts.{some_by}
use Rattle.node_acts.specs.RowLaws.{listed_at, listed_same}
use Rattle.host_jobs.specs.declared.{rows.JobRow.JobRow, sizes.TheConstants.HOST_CELLS}
use Rattle.host_jobs.specs.Plans.{shown_job}
use Rattle.host_jobs.specs.Rows.{Jobs, job_in, state_in, number_in, top_at, is_ordered, waiting, row_in, job_row, last_in, top_in, open_in, oldest_in, tops_in}
use Rattle.host_jobs.specs.Records.{tops_after, record_by, record_of, cell_row}
use Rattle.host_jobs.specs.Soundness.{AreSound}
use Rattle.host_jobs.specs.ActLaws.{AreRowsOf}
use Rattle.host_jobs.proofs.Lists.{greatest_le, greatest_least}
use Rattle.host_jobs.proofs.Cells.{cell_lt, cell_oldest}
use Rattle.host_jobs.proofs.Found.{if_job_is, found_row, waiting_is, row_inside, waits_once, opens, opens_none}
use Rattle.host_jobs.proofs.JobFacts.{Facts, IsJob, facts}
use Rattle.host_jobs.proofs.CellFacts.{CellFacts, IsRowOf, HasTops, cells, live_near, after_at}

ordered_state : (s : JobState) → is_ordered s ≡ true → s ≡ state.Ordered
ordered_state state.Ordered h = refl
ordered_state state.Held h = absurd (true≢false (sym h))
ordered_state state.Begun h = absurd (true≢false (sym h))
ordered_state state.Closed h = absurd (true≢false (sym h))

-- what the row in the cell of a job says of that job
abbrev pub Tells : ℕ → List Commit → Option JobRow → Type 0
Tells j C None = in_cells j C ≡ false
Tells j C (Some r) = (in_cells j C ≡ true) × IsRowOf r j C

is_in_cells : (j : ℕ) (C : List Commit) → IsJob j C → last_job C < j + 1024 → in_cells j C ≡ true
is_in_cells j C le near = rw (le-leb 1 j le.0, le-leb j (last_job C) le.1, lt-ltb (last_job C) (j + 1024) near) refl

module _ (rows : Jobs) (C : List Commit) (sound : AreSound rows) (are : AreRowsOf rows C) where
  pub job_facts : Facts C
  job_facts = facts C are.order

  pub cell_facts : CellFacts C
  cell_facts = cells C are.order

  long : length rows ≡ HOST_CELLS
  long = sound.placed.long

  pub row_is : (k : ℕ) → k < HOST_CELLS → row_in rows k ≡ cell_row k C
  row_is k lt = ap (λ (l : Jobs). row_in l k) are.are ∙ listed_at HOST_CELLS (λ i. cell_row i C) None k lt

  row_of : (k : ℕ) (r : JobRow) → row_in rows k ≡ Some r → cell_row k C ≡ Some r
  row_of k r at = sym (row_is k (omega (arith, row_inside rows sound.placed k r at, long))) ∙ at

  -- == the last job ==

  number_le : (k : ℕ) (o : Option JobRow) → row_in rows k ≡ o → number_in o ≤ last_job C
  number_le k None at = omega arith
  number_le k (Some r) at = (cell_facts.back k r (row_of k r at)).job.1

  last_ge : last_job C ≤ last_in rows
  last_ge = ⊎_elim
      (λ (none : last_job C ≡ 0). omega (arith, none))
      (λ (some : last_job C ≢ 0).
      let it = cell_facts.cells (last_job C) (omega (arith, some), omega arith) (omega arith) in
      omega (arith, ap number_in (row_is (cell_of (last_job C)) (cell_lt (last_job C)) ∙ it.at), it.is.number, greatest_le number_in rows (cell_of (last_job C)) None refl))
      (cases_eq (last_job C) 0)

  pub last_is : last_in rows ≡ last_job C
  last_is = omega (arith, last_ge, greatest_least number_in rows None (last_job C) (λ k lt. number_le k (row_in rows k) refl))

  -- == the tops ==

  top_le : (d k : ℕ) → IsDevice d → (o : Option JobRow) → row_in rows k ≡ o → top_at d o ≤ top d C
  top_le d k device None at = omega arith
  top_le d k device (Some r) at = cell_facts.tops_le k r d (row_of k r at) device

  top_ge : (d : ℕ) → IsDevice d → top d C ≤ top_in d rows
  top_ge d device = ⊎_elim
      (λ (zero : (e : ℕ) → top e C ≡ 0). omega (arith, zero d))
      (λ (it : HasTops C).
      omega (arith, ap (top_at d) (row_is it.cell it.inside ∙ it.at), ap (λ (l : List ℕ). get_or l (d - 1) 0) it.tops, after_at C d device, greatest_le (top_at d) rows it.cell None refl))
      cell_facts.tops_at

  pub top_is : (d : ℕ) → IsDevice d → top_in d rows ≡ top d C
  top_is d device = omega (arith, top_ge d device, greatest_least (top_at d) rows None (top d C) (λ k lt. top_le d k device (row_in rows k) refl))

  pub tops_are : tops_in rows ≡ tops_after C
  tops_are = listed_same 8 (λ i. top_in (i + 1) rows) (λ i. top (i + 1) C) (λ i lt. top_is (i + 1) (omega arith, omega (arith, lt)))

  -- == a job in its cell ==

  pub told : (k : ℕ) (r : JobRow) → row_in rows k ≡ Some r → (in_cells r.job C ≡ true) × IsRowOf r r.job C
  told k r at =
      let back = cell_facts.back k r (row_of k r at) in
      let it = cell_facts.cells r.job back.job back.near in
      let same : it.row ≡ r = same_Some _ _ (sym it.at ∙ ap (λ (i : ℕ). cell_row i C) back.cell ∙ row_of k r at) in
      (is_in_cells r.job C back.job back.near, subst (λ (y : JobRow). IsRowOf y r.job C) same it.is)

  pub tells : (j : ℕ) (o : Option JobRow) → job_row rows j ≡ o → Tells j C o
  tells j (Some r) at =
      let found = found_row rows j r at in
      subst (λ (i : ℕ). (in_cells i C ≡ true) × IsRowOf r i C) found.1 (told (cell_of j) r found.0)
  tells j None at = ⊎_elim
      (λ (there : in_cells j C ≡ true). absurd (not_there there))
      (λ (none : in_cells j C ≡ false). none)
      (cases_Bool (in_cells j C))
    where
      not_there : in_cells j C ≡ true → ⊥
      not_there there =
          let one = and_parts (nat_le 1 j) (nat_le j (last_job C) && nat_lt (last_job C) (j + 1024)) there in
          let two = and_parts (nat_le j (last_job C)) (nat_lt (last_job C) (j + 1024)) one.1 in
          let it = cell_facts.cells j (leb-true 1 j one.0, leb-true j (last_job C) two.0) (ltb-true (last_job C) (j + 1024) two.1) in
          absurd (none-some _ (sym at ∙ if_job_is j (row_in rows (cell_of j)) it.row (row_is (cell_of j) (cell_lt j) ∙ it.at) it.is.number))

  -- == the open job of a device ==

  opens_told : (d k : ℕ) (r : JobRow) → row_in rows k ≡ Some r → is_ordered r.state ≡ true → r.device ≡ d → open_job d C ≡ Some r.job
  opens_told d k r at state device =
      let it = (told k r at).1 in
      ap (λ (e : ℕ). open_job e C) (sym device) ∙ job_facts.ordered_is r.job (job_in r) (it.state ∙ ap (λ (s : JobState). Some s) (ordered_state r.state state)) it.job

  open_told : (d j : ℕ) → open_job d C ≡ Some j → open_in d rows ≡ Some j
  open_told d j has =
      let it = job_facts.open_is d j has in
      let near = live_near C job_facts j state.Ordered it.state (λ e. absurd (cc)) in
      let shown = cell_facts.cells j (job_facts.state_le j state.Ordered it.state) near in
      let at : row_in rows (cell_of j) ≡ Some shown.row = row_is (cell_of j) (cell_lt j) ∙ shown.at in
      let same : state.Ordered ≡ shown.row.state = same_Some _ _ (sym it.state ∙ shown.is.state) in
      let waits : is_ordered shown.row.state ≡ true = ap is_ordered (sym same) in
      let job : it.at ≡ job_in shown.row = same_Some _ _ (sym it.job_is ∙ shown.is.job) in
      let device : shown.row.device ≡ d = ap (λ (b : Job). b.device) (sym job) ∙ it.device in
      opens rows sound.placed d (cell_of j) shown.row at waits device
      (λ i some. waits_once rows sound d i (cell_of j) some (some_by (waiting d (row_in rows (cell_of j))) shown.row.job (ap (waiting d) at ∙ waiting_is d shown.row waits device)))
      ∙ ap (λ (i : ℕ). Some i) shown.is.number

  pub open_is : (d : ℕ) → open_in d rows ≡ open_job d C
  open_is d = by (open_job d C) refl
    where
      by : (o : Option ℕ) → open_job d C ≡ o → open_in d rows ≡ open_job d C
      by (Some j) has = open_told d j has ∙ sym has
      by None has = opens_none rows sound.placed d (λ k r at state device. absurd (none-some _ (sym has ∙ opens_told d k r at state device))) ∙ sym has

  -- == the job in the cell of the next one ==

  pub oldest_is : 1024 ≤ last_job C → oldest_in rows ≡ state_of (last_job C - 1023) C
  oldest_is le =
      let it = cell_facts.cells (last_job C - 1023) (omega (arith, le), omega arith) (omega (arith, le)) in
      let cell : last_in rows % 1024 ≡ cell_of (last_job C - 1023) = ap (λ (n : ℕ). n % 1024) last_is ∙ sym (cell_oldest (last_job C) le) in
      ap (λ (k : ℕ). state_in (row_in rows k)) cell ∙ ap state_in (row_is (cell_of (last_job C - 1023)) (cell_lt (last_job C - 1023)) ∙ it.at) ∙ sym it.is.state

-- == the row of a job by the commits ==

pub shown_in : (j : ℕ) (C : List Commit) (r : JobRow) → in_cells j C ≡ true → IsRowOf r j C → shown_job j C ≡ Some (record r { tops = tops_after C })
shown_in j C r there is =
    ap (λ (t : Bool). if t then record_of j C else None) there ∙ (λ i. record_by j C (is.job i) (is.state i))
    ∙ (λ i. Some (record { job = sym is.number i; device = r.device; piece = r.piece; postage = r.postage; class = r.class; state = r.state; tops = tops_after C; indicium = is.held i }))

pub shown_out : (j : ℕ) (C : List Commit) → in_cells j C ≡ false → shown_job j C ≡ None
shown_out j C is = ap (λ (t : Bool). if t then record_of j C else None) is

pub shown_is : (j : ℕ) (C : List Commit) (r : JobRow) → shown_job j C ≡ Some r → IsRowOf r j C
shown_is j C r is = by (in_cells j C) (job_of j C) (state_of j C) refl refl is
  where
    by : (t : Bool) (b : Option Job) (s : Option JobState) → job_of j C ≡ b → state_of j C ≡ s → (if t then record_by j C b s else None) ≡ Some r → IsRowOf r j C
    by false b s job at h = absurd (none-some _ h)
    by true None s job at h = absurd (none-some _ h)
    by true (Some b) None job at h = absurd (none-some _ h)
    by true (Some b) (Some s) job at h = subst (λ (x : JobRow). IsRowOf x j C) (same_Some _ _ h) (record { number = refl; job = job; state = at; held = refl })
