-- The rows after commits in the host's turn: the cells hold the last 1,024 jobs, each as the commits record it, with the tops
-- as they were. The greatest of these are the present tops.
use Rattle.std.proofs.Common.{◌≡◌, ◌≢◌, ℕ, ◌+◌, ◌-◌, ◌<◌, ◌≤◌, true, false, List, [], ◌∷◌, get_or, Option, Some, ◌⊎◌, inl, inr, ⊎_elim, refl, sym, ap, subst, ◌∙◌, arith}
use Rattle.std.proofs.lemmas.Bool.{cases_eq, cases_lt, eq-eqb, ne_eqb}
use Rattle.std.proofs.lemmas.Option.{same_Some, none-some}
use Rattle.bench_base.specs.declared.{words.JobState.JobState, ledger.Commit.Commit, ledger.Commit.TheVariants.Ordered, ledger.Commit.TheVariants.Held, ledger.Commit.TheVariants.Began, ledger.Commit.TheVariants.Closed}
use Rattle.bench_base.specs.declared.words.JobState.TheVariants as state
use Rattle.bench_base.specs.Cells.{Place, OfJob, same_place, place_of}
use Rattle.bench_base.specs.Jobs.{Job, cell_of, last_job, job_of, state_of, held_of, top}
use Rattle.bench_base.specs.Ranges.{IsDevice}
use Rattle.node_acts.specs.RowLaws.{listed_at}
use Rattle.host_jobs.specs.declared.rows.JobRow.{JobRow}
use Rattle.host_jobs.specs.Answers.{is_open}
use Rattle.host_jobs.specs.Turns.{InTurn}
use Rattle.host_jobs.specs.Rows.{job_in}
use Rattle.host_jobs.specs.Records.{tops_after, record_by, record_of, job_no, cell_row}
use Rattle.host_jobs.proofs.Cells.{cell_lt, cell_one}
use Rattle.host_jobs.proofs.JobFacts.{Facts, IsJob, facts, open_state}

-- the row is what the commits record of the job
pub record IsRowOf (r : JobRow) (j : ℕ) (C : List Commit) : Type 0 where
  pub number : r.job ≡ j
  pub job : job_of j C ≡ Some (job_in r)
  pub state : state_of j C ≡ Some r.state
  pub held : held_of j C ≡ r.indicium

pub record Shown (j : ℕ) (C : List Commit) : Type 0 where
  pub row : JobRow
  pub at : cell_row (cell_of j) C ≡ Some row
  pub is : IsRowOf row j C

-- the job of a cell is one of the last 1,024
pub record IsLast (k j : ℕ) (C : List Commit) : Type 0 where
  pub job : IsJob j C
  pub near : last_job C < j + 1024
  pub cell : cell_of j ≡ k

-- a cell with the present tops
pub record HasTops (C : List Commit) : Type 0 where
  pub cell : ℕ
  pub inside : cell < 1024
  pub row : JobRow
  pub at : cell_row cell C ≡ Some row
  pub tops : row.tops ≡ tops_after C

pub record CellFacts (C : List Commit) : Type 0 where
  pub cells : (j : ℕ) → IsJob j C → last_job C < j + 1024 → Shown j C
  pub back : (k : ℕ) (r : JobRow) → cell_row k C ≡ Some r → IsLast k r.job C
  pub tops_le : (k : ℕ) (r : JobRow) (d : ℕ) → cell_row k C ≡ Some r → IsDevice d → get_or r.tops (d - 1) 0 ≤ top d C
  pub tops_at : ((d : ℕ) → top d C ≡ 0) ⊎ HasTops C

pub after_at : (C : List Commit) (d : ℕ) → IsDevice d → get_or (tops_after C) (d - 1) 0 ≡ top d C
after_at C d is = listed_at 8 (λ i. top (i + 1) C) 0 (d - 1) (omega (arith, is)) ∙ ap (λ (n : ℕ). top n C) (omega (arith, is))

-- what a commit leaves of another job
record Same (j : ℕ) (old new : List Commit) : Type 0 where
  job : job_of j new ≡ job_of j old
  state : state_of j new ≡ state_of j old
  held : held_of j new ≡ held_of j old

-- what a commit of job i does
record Changes (i : ℕ) (c : Commit) (C : List Commit) : Type 0 where
  place : place_of c ≡ OfJob (cell_of i)
  number : job_no c ≡ i
  own : IsJob i (c ∷ C)
  near : last_job (c ∷ C) < i + 1024
  others : (j : ℕ) → j ≢ i → Same j C (c ∷ C)
  grown : (last_job (c ∷ C) ≡ last_job C) ⊎ ((last_job (c ∷ C) ≡ last_job C + 1) × (i ≡ last_job C + 1))
  tops : (d : ℕ) → top d C ≤ top d (c ∷ C)

module _ (i : ℕ) (c : Commit) (C : List Commit) (by : Changes i c C) (old : CellFacts C) (h : Facts (c ∷ C)) where
  abbrev D : List Commit
  D = c ∷ C

  what : (b : Job) × (job_of i D ≡ Some b)
  what = h.has_job i by.own

  stands : (s : JobState) × (state_of i D ≡ Some s)
  stands = h.has_state i by.own

  abbrev written : Job → JobState → JobRow
  written b s = record { job = i; device = b.device; piece = b.piece; postage = b.postage; class = b.class; state = s; tops = tops_after D; indicium = held_of i D }

  abbrev new : JobRow
  new = written what.0 stands.0

  record_is : record_of i D ≡ Some new
  record_is = ap (λ (o : Option Job). record_by i D o (state_of i D)) what.1 ∙ ap (λ (o : Option JobState). record_by i D (Some what.0) o) stands.1

  here : cell_row (cell_of i) D ≡ Some new
  here =
      let same : same_place (place_of c) (OfJob (cell_of i)) ≡ true = ap (λ (p : Place). same_place p (OfJob (cell_of i))) by.place ∙ eq-eqb (cell_of i) (cell_of i) refl in
      rw same (ap (λ (n : ℕ). record_of n D) by.number ∙ record_is)

  other : (k : ℕ) → k ≢ cell_of i → cell_row k D ≡ cell_row k C
  other k differs =
      let apart : same_place (place_of c) (OfJob k) ≡ false = ap (λ (p : Place). same_place p (OfJob k)) by.place ∙ ne_eqb (cell_of i) k (λ e. differs (sym e)) in
      rw apart refl

  -- a job that was there before
  before : (j : ℕ) → IsJob j D → last_job D < j + 1024 → j ≢ i → IsJob j C × (last_job C < j + 1024)
  before j le near differs = ⊎_elim
      (λ (e : last_job D ≡ last_job C). ((le.0, omega (arith, le.1, e)), omega (arith, near, e)))
      (λ (e : (last_job D ≡ last_job C + 1) × (i ≡ last_job C + 1)). ((le.0, omega (arith, le.1, e.0, e.1)), omega (arith, near, e.0)))
      by.grown

  step_cells : (j : ℕ) → IsJob j D → last_job D < j + 1024 → Shown j D
  step_cells j le near = ⊎_elim
      (λ (e : j ≡ i). subst (λ (n : ℕ). Shown n D) (sym e) (record { row = new; at = here; is = record { number = refl; job = what.1; state = stands.1; held = refl } }))
      (λ (differs : j ≢ i).
      let was = before j le near differs in
      let it = old.cells j was.0 was.1 in
      let same = by.others j differs in
      record {
        row = it.row;
        at = other (cell_of j) (λ e. differs (cell_one (last_job D) j i le.0 le.1 near by.own.0 by.own.1 by.near e)) ∙ it.at;
        is = record { number = it.is.number; job = same.job ∙ it.is.job; state = same.state ∙ it.is.state; held = same.held ∙ it.is.held };
      })
      (cases_eq j i)

  step_back : (k : ℕ) (r : JobRow) → cell_row k D ≡ Some r → IsLast k r.job D
  step_back k r at = ⊎_elim
      (λ (e : k ≡ cell_of i).
      let is : new ≡ r = same_Some _ _ (sym here ∙ ap (λ (n : ℕ). cell_row n D) (sym e) ∙ at) in
      let number : i ≡ r.job = ap (λ (y : JobRow). y.job) is in
      subst (λ (n : ℕ). IsLast k n D) number (record { job = by.own; near = by.near; cell = sym e }))
      (λ (differs : k ≢ cell_of i).
      let it = old.back k r (sym (other k differs) ∙ at) in
      ⊎_elim
      (λ (e : last_job D ≡ last_job C). record { job = (it.job.0, omega (arith, it.job.1, e)); near = omega (arith, it.near, e); cell = it.cell })
      (λ (e : (last_job D ≡ last_job C + 1) × (i ≡ last_job C + 1)).
      record {
        job = (it.job.0, omega (arith, it.job.1, e.0));
        near = ⊎_elim
            (λ (lt : last_job D < r.job + 1024). lt)
            (λ (ge : r.job + 1024 ≤ last_job D). absurd (differs (sym it.cell ∙ far r.job it.job.0 (omega (arith, ge, it.near, e.0, e.1)))))
            (cases_lt (last_job D) (r.job + 1024));
        cell = it.cell;
      })
      by.grown)
      (cases_eq k (cell_of i))
    where
      far : (j : ℕ) → 1 ≤ j → i ≡ j + 1024 → cell_of j ≡ cell_of i
      far j from e = omega arith

  step_tops_le : (k : ℕ) (r : JobRow) (d : ℕ) → cell_row k D ≡ Some r → IsDevice d → get_or r.tops (d - 1) 0 ≤ top d D
  step_tops_le k r d at device = ⊎_elim
      (λ (e : k ≡ cell_of i).
      let is : new ≡ r = same_Some _ _ (sym here ∙ ap (λ (n : ℕ). cell_row n D) (sym e) ∙ at) in
      let tops : tops_after D ≡ r.tops = ap (λ (y : JobRow). y.tops) is in
      omega (arith, ap (λ (l : List ℕ). get_or l (d - 1) 0) tops, after_at D d device))
      (λ (differs : k ≢ cell_of i). omega (arith, old.tops_le k r d (sym (other k differs) ∙ at) device, by.tops d))
      (cases_eq k (cell_of i))

  step : CellFacts D
  step = record {
    cells = step_cells;
    back = step_back;
    tops_le = step_tops_le;
    tops_at = inr (record { cell = cell_of i; inside = cell_lt i; row = new; at = here; tops = refl });
  }

none : CellFacts []
none = record {
  cells = λ j le near. absurd (omega (arith, le.0, le.1));
  back = λ k r at. absurd (none-some _ at);
  tops_le = λ k r d at device. absurd (none-some _ at);
  tops_at = inl (λ d. refl);
}

-- an order is not about another job
other_ordered : (i f q a k j : ℕ) (C : List Commit) → j ≢ i → Same j C (Ordered i f q a k ∷ C)
other_ordered i f q a k j C differs = let t = ne_eqb i j (λ e. differs (sym e)) in record { job = rw t refl; state = rw t refl; held = refl {a = held_of j C} }

other_held : (i j : ℕ) (x : List ℕ) (C : List Commit) → j ≢ i → Same j C (Held i x ∷ C)
other_held i j x C differs = let t = ne_eqb i j (λ e. differs (sym e)) in record { job = refl; state = rw t refl; held = rw t refl }

other_began : (i j : ℕ) (C : List Commit) → j ≢ i → Same j C (Began i ∷ C)
other_began i j C differs = let t = ne_eqb i j (λ e. differs (sym e)) in record { job = refl; state = rw t refl; held = refl }

other_closed : (i j : ℕ) (C : List Commit) → j ≢ i → Same j C (Closed i ∷ C)
other_closed i j C differs = let t = ne_eqb i j (λ e. differs (sym e)) in record { job = refl; state = rw t refl; held = refl }

-- a job that is not closed is one of the last 1,024
pub live_near : (C : List Commit) → Facts C → (i : ℕ) (s : JobState) → state_of i C ≡ Some s → (s ≡ state.Closed → ⊥) → last_job C < i + 1024
live_near C h i s at live = ⊎_elim
    (λ (lt : last_job C < i + 1024). lt)
    (λ (far : i + 1024 ≤ last_job C). absurd (live (same_Some _ _ (sym at ∙ h.past i (h.state_le i s at).0 far))))
    (cases_lt (last_job C) (i + 1024))

open_live : (s : JobState) → is_open (Some s) ≡ true → s ≡ state.Closed → ⊥
open_live state.Ordered live e = absurd (cc)
open_live state.Held live e = absurd (cc)
open_live state.Begun live e = absurd (cc)
open_live state.Closed live e = let bad : false ≡ true = live in absurd (cc)

pub cells : (C : List Commit) → InTurn C → CellFacts C
cells [] g = none
cells (Ordered i f q a k ∷ C) g =
    step i (Ordered i f q a k) C (record {
      place = refl;
      number = refl;
      own = (omega (arith, g.0.next), omega (arith, g.0.next));
      near = omega (arith, g.0.next);
      others = λ j differs. other_ordered i f q a k j C differs;
      grown = inr (refl, g.0.next);
      tops = λ d. omega arith;
    }) (cells C g.1) (facts (Ordered i f q a k ∷ C) g)
cells (Held i x ∷ C) g =
    let h = facts C g.1 in
    let mine = h.open_is g.0.at.device i g.0.open_is in
    step i (Held i x) C (record {
      place = refl;
      number = refl;
      own = h.state_le i state.Ordered mine.state;
      near = live_near C h i state.Ordered mine.state (λ e. absurd (cc));
      others = λ j differs. other_held i j x C differs;
      grown = inl refl;
      tops = λ d. omega arith;
    }) (cells C g.1) (facts (Held i x ∷ C) g)
cells (Began i ∷ C) g =
    let h = facts C g.1 in
    step i (Began i) C (record {
      place = refl;
      number = refl;
      own = h.state_le i state.Held g.0;
      near = live_near C h i state.Held g.0 (λ e. absurd (cc));
      others = λ j differs. other_began i j C differs;
      grown = inl refl;
      tops = λ d. omega arith;
    }) (cells C g.1) (facts (Began i ∷ C) g)
cells (Closed i ∷ C) g =
    let h = facts C g.1 in
    let it = open_state (state_of i C) g.0 in
    step i (Closed i) C (record {
      place = refl;
      number = refl;
      own = h.state_le i it.0 it.1;
      near = live_near C h i it.0 it.1 (open_live it.0 (ap is_open (sym it.1) ∙ g.0));
      others = λ j differs. other_closed i j C differs;
      grown = inl refl;
      tops = λ d. omega arith;
    }) (cells C g.1) (facts (Closed i ∷ C) g)
cells (c ∷ C) g = let h = cells C g.1 in record { cells = λ j le near. let it = h.cells j le near in record { row = it.row; at = it.at; is = record { number = it.is.number; job = it.is.job; state = it.is.state; held = it.is.held } }; back = λ k r at. let it = h.back k r at in record { job = it.job; near = it.near; cell = it.cell }; tops_le = h.tops_le; tops_at = ⊎_elim (λ (e : (d : ℕ) → top d C ≡ 0). inl e) (λ (it : HasTops C). inr (record { cell = it.cell; inside = it.inside; row = it.row; at = it.at; tops = it.tops })) h.tops_at }
