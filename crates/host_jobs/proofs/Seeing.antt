-- What the commits show of the host's cells.
use Rattle.std.proofs.Common.{◌≡◌, ◌≢◌, ℕ, ◌+◌, ◌<◌, Bool, true, false, List, [], ◌∷◌, length, Option, Some, None, refl, sym, ap, ◌∙◌, true≢false, ⊎_elim, arith}
use Rattle.std.specs.Prelude.{option_map, if◌then◌else◌}
use Rattle.std.proofs.lemmas.Bool.{cases_Bool, eq-eqb, ne_eqb}
use Rattle.std.proofs.lemmas.List.{get_or-map, length-map, get_or-set_same}
use Rattle.std.proofs.lemmas.Option.{none-some}
use Rattle.bench_base.specs.declared.{words.Node.TheVariants.Host, words.JobState.JobState, ledger.Commit.Commit, ledger.Commit.TheVariants.Ordered, ledger.Commit.TheVariants.Held, ledger.Commit.TheVariants.Began, ledger.Commit.TheVariants.Closed}
use Rattle.bench_base.specs.Nodes.{node_of, same_node}
use Rattle.bench_base.specs.Cells.{Place, OfJob, same_place, place_of}
use Rattle.bench_base.specs.Cells as cells
use Rattle.bench_base.specs.Jobs.{Job, cell_of, state_of}
use Rattle.node_acts.specs.RowList.{row_at, row_of, commits_at, put}
use Rattle.node_acts.specs.RowLaws.{listed_long, listed_at, listed_is, listed_same, put_listed}
use Rattle.node_acts.proofs.Blanks.{none_at}
use Rattle.host_jobs.specs.declared.{rows.JobRow.JobRow, sizes.TheConstants.HOST_CELLS}
use Rattle.host_jobs.specs.ActLaws.{AreRowsOf}
use Rattle.host_jobs.specs.Records.{record_by, record_of, job_no, cell_row, rows_after, cell_after, seen_after}
use Rattle.host_jobs.specs.Rows.{Jobs, row_in, put_row}
use Rattle.host_jobs.specs.Seen.{rows_in}
use Rattle.host_jobs.specs.SeenLaws.{SeenLaws}
use Rattle.host_jobs.specs.Turns.{InTurn}
use Rattle.host_jobs.proofs.Cells.{cell_lt}
use Rattle.host_jobs.proofs.JobFacts.{Facts, IsJob, facts, open_state}

row_back : (n : ℕ) (o : Option JobRow) → row_of (option_map (λ r. (n, r)) o) ≡ o
row_back n None = refl
row_back n (Some r) = refl

seen_rows : (C : List Commit) → rows_in (seen_after C) ≡ rows_after C
seen_rows C = sym (listed_is HOST_CELLS (λ k. cell_row k C) None (rows_in (seen_after C)) (length-map (seen_after C) row_of ∙ long) (λ k lt.
    get_or-map row_of (seen_after C) k None None (omega (arith, lt, long)) ∙ ap (λ (o : Option (ℕ × JobRow)). row_of o) (listed_at HOST_CELLS (λ i. cell_after i C) None k lt)
    ∙ row_back (cells.commits_at (OfJob k) C) (cell_row k C)))
  where
    long : length (seen_after C) ≡ HOST_CELLS
    long = listed_long HOST_CELLS (λ k. cell_after k C)

-- == counts ==

-- a commit of a job leaves a row of it
writes : (j : ℕ) (C : List Commit) → Facts C → IsJob j C → (r : JobRow) × (record_of j C ≡ Some r)
writes j C h own =
    let job = h.has_job j own in
    let state = h.has_state j own in
    (_, ap (λ (o : Option Job). record_by j C o (state_of j C)) job.1 ∙ ap (λ (o : Option JobState). record_by j C (Some job.0) o) state.1)

abbrev Counted : ℕ → List Commit → Type 0
Counted k C = commits_at (cell_after k C) ≡ cells.commits_at (OfJob k) C

counted_some : (n : ℕ) (o : Option JobRow) (r : JobRow) → o ≡ Some r → commits_at (option_map (λ x. (n, x)) o) ≡ n
counted_some n None r h = absurd (none-some _ h)
counted_some n (Some x) r h = refl

-- a commit of job i, and a cell
count_step : (k i : ℕ) (c : Commit) (C : List Commit) → place_of c ≡ OfJob (cell_of i) → job_no c ≡ i → Facts (c ∷ C) → IsJob i (c ∷ C) → Counted k C → Counted k (c ∷ C)
count_step k i c C place number h own before = ⊎_elim
    (λ (t : same_place (place_of c) (OfJob k) ≡ true).
    let it = writes i (c ∷ C) h own in
    let row : cell_row k (c ∷ C) ≡ Some it.0 = ap (λ (b : Bool). if b then record_of (job_no c) (c ∷ C) else cell_row k C) t ∙ ap (λ (n : ℕ). record_of n (c ∷ C)) number ∙ it.1 in
    counted_some (cells.commits_at (OfJob k) (c ∷ C)) (cell_row k (c ∷ C)) it.0 row)
    (λ (t : same_place (place_of c) (OfJob k) ≡ false).
    let row : cell_row k (c ∷ C) ≡ cell_row k C = ap (λ (b : Bool). if b then record_of (job_no c) (c ∷ C) else cell_row k C) t in
    let count : cells.commits_at (OfJob k) (c ∷ C) ≡ cells.commits_at (OfJob k) C = ap (λ (b : Bool). if b then cells.commits_at (OfJob k) C + 1 else cells.commits_at (OfJob k) C) t in
    ap (λ (o : Option JobRow). commits_at (option_map (λ x. (cells.commits_at (OfJob k) (c ∷ C), x)) o)) row
    ∙ ap (λ (n : ℕ). commits_at (option_map (λ x. (n, x)) (cell_row k C))) count ∙ before ∙ sym count)
    (cases_Bool (same_place (place_of c) (OfJob k)))

counts : (C : List Commit) (k : ℕ) → InTurn C → Counted k C
counts [] k g = refl
counts (Ordered i d p a q ∷ C) k g =
    let h = facts (Ordered i d p a q ∷ C) g in
    count_step k i (Ordered i d p a q) C refl refl h (omega (arith, g.0.next), omega (arith, g.0.next)) (counts C k g.1)
counts (Held i x ∷ C) k g =
    let h = facts (Held i x ∷ C) g in
    let was = (facts C g.1).open_is g.0.at.device i g.0.open_is in
    count_step k i (Held i x) C refl refl h ((facts C g.1).job_le i was.at was.job_is) (counts C k g.1)
counts (Began i ∷ C) k g =
    let h = facts (Began i ∷ C) g in
    count_step k i (Began i) C refl refl h ((facts C g.1).state_le i _ g.0) (counts C k g.1)
counts (Closed i ∷ C) k g =
    let h = facts (Closed i ∷ C) g in
    let it = open_state (state_of i C) g.0 in
    count_step k i (Closed i) C refl refl h ((facts C g.1).state_le i it.0 it.1) (counts C k g.1)
counts (c ∷ C) k g = counts C k g.1

-- == one commit more ==

module _ (rows : Jobs) (C : List Commit) (c : Commit) (x : JobRow) (are : AreRowsOf rows C) (later : AreRowsOf (put_row rows x) (c ∷ C)) (place : place_of c ≡ OfJob (cell_of x.job)) where
  abbrev cell : ℕ
  cell = cell_of x.job

  row_after : (k : ℕ) → k < HOST_CELLS → cell_row k (c ∷ C) ≡ row_in (put_row rows x) k
  row_after k lt = sym (ap (λ (l : Jobs). row_in l k) later.are ∙ listed_at HOST_CELLS (λ i. cell_row i (c ∷ C)) None k lt)

  long : length rows ≡ HOST_CELLS
  long = ap length are.are ∙ listed_long HOST_CELLS (λ k. cell_row k C)

  row_here : cell_row cell (c ∷ C) ≡ Some x
  row_here = row_after cell (cell_lt x.job) ∙ get_or-set_same rows cell (Some x) None (omega (arith, cell_lt x.job, long))

  same : same_place (place_of c) (OfJob cell) ≡ true
  same = ap (λ (p : Place). same_place p (OfJob cell)) place ∙ eq-eqb cell cell refl

  apart : (k : ℕ) → k ≢ cell → same_place (place_of c) (OfJob k) ≡ false
  apart k differs = ap (λ (p : Place). same_place p (OfJob k)) place ∙ ne_eqb cell k (λ e. differs (sym e))

  count_here : cells.commits_at (OfJob cell) (c ∷ C) ≡ cells.commits_at (OfJob cell) C + 1
  count_here = ap (λ (b : Bool). if b then cells.commits_at (OfJob cell) C + 1 else cells.commits_at (OfJob cell) C) same

  seen_put : seen_after (c ∷ C) ≡ put (seen_after C) cell x
  seen_put = put_listed HOST_CELLS (λ k. cell_after k C) (λ k. cell_after k (c ∷ C)) cell x (cell_lt x.job)
      (ap (λ (o : Option JobRow). option_map (λ r. (cells.commits_at (OfJob cell) (c ∷ C), r)) o) row_here
      ∙ ap (λ (n : ℕ). Some (n, x)) (count_here ∙ ap (λ (n : ℕ). n + 1) (sym (counts C cell are.order))))
      (λ k differs.
      ap (λ (b : Bool). option_map (λ r. (if b then cells.commits_at (OfJob k) C + 1 else cells.commits_at (OfJob k) C, r)) (if b then record_of (job_no c) (c ∷ C) else cell_row k C)) (apart k differs))

-- == the other nodes' commits ==

turn_stays : (c : Commit) (C : List Commit) → same_node (node_of c) Host ≡ false → InTurn C → InTurn (c ∷ C)
turn_stays (Ordered i d p a q) C other g = absurd (true≢false other)
turn_stays (Held i x) C other g = absurd (true≢false other)
turn_stays (Began i) C other g = absurd (true≢false other)
turn_stays (Closed i) C other g = absurd (true≢false other)
turn_stays _ C other g = (tt, g)

cell_stays : (k : ℕ) (c : Commit) (C : List Commit) → same_node (node_of c) Host ≡ false → cell_after k (c ∷ C) ≡ cell_after k C
cell_stays k (Ordered i d p a q) C other = absurd (true≢false other)
cell_stays k (Held i x) C other = absurd (true≢false other)
cell_stays k (Began i) C other = absurd (true≢false other)
cell_stays k (Closed i) C other = absurd (true≢false other)
cell_stays k _ C other = refl

pub seen_laws : SeenLaws
seen_laws = record {
  rows = seen_rows;
  counted = counts;
  puts = seen_put;
  others = turn_stays;
  stays = λ c C other. listed_same HOST_CELLS (λ k. cell_after k (c ∷ C)) (λ k. cell_after k C) (λ k lt. cell_stays k c C other);
}

-- before the first commit nothing is seen of the cells
pub blank : (k : ℕ) → row_at (seen_after []) k ≡ None
blank k = none_at HOST_CELLS (λ i. cell_after i []) (λ i. refl) k
