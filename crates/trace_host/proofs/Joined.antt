-- The cells of the host and the jobs beside them, where a job is put.
use Rattle.std.proofs.Common.{◌≡◌, inl, inr, ℕ, zero, suc, ◌+◌, ◌*◌, ◌<◌, ◌≤◌, ◌^◌, [], ◌∷◌, length, get_or, set, Option, Some, None, false, refl, sym, ◌∙◌, ap, subst, arith}
use Rattle.std.proofs.lemmas.Bool.{cases_eq}
use Rattle.std.proofs.lemmas.List.Sums.{sum_by-le}
use Rattle.std.proofs.lemmas.List.Elements.{All-from_get_or}
use Rattle.bench_base.specs.declared.sizes.TheConstants.{MOST_COMMITS}
use Rattle.node_acts.specs.RowList.{RowList, row_at, commits_at, commits_in, is_worn, put}
use Rattle.node_acts.specs.RowLaws.{put_long, put_here, put_other, put_counts}
use Rattle.host_jobs.specs.declared.{rows.JobRow.JobRow, sizes.TheConstants.HOST_CELLS}
use Rattle.host_jobs.specs.Rows.{Jobs, put_row}
use Rattle.host_jobs.specs.Seen.{cell_of, rows_in, IsKnown}
use Rattle.host_jobs.specs.Soundness.{AreSound, IsNext}
use Rattle.host_node.specs.Cells.{cell_inside, rows_put}
use Rattle.trace_host.specs.Records.{AreJoined}
use Rattle.bench_base.proofs.Facts.{room_left}

few_put : (s : RowList JobRow) (x : JobRow) → length s ≡ HOST_CELLS → ((k : ℕ) → commits_at (row_at s k) ≤ MOST_COMMITS) → is_worn s (cell_of x) ≡ false → (k : ℕ) → commits_at (row_at (put s (cell_of x) x) k) ≤ MOST_COMMITS
few_put s x long few fresh k =
    let inside : cell_of x < length s = omega (arith, cell_inside x, long) in
    elim (cases_eq k (cell_of x)) [
      | inl is ↦ subst (λ (o : Option (ℕ × JobRow)). commits_at o ≤ MOST_COMMITS) (sym (ap (row_at (put s (cell_of x) x)) is ∙ put_here s (cell_of x) x inside)) (room_left (commits_at (row_at s (cell_of x))) (few (cell_of x)) fresh)
      | inr differs ↦ subst (λ (o : Option (ℕ × JobRow)). commits_at o ≤ MOST_COMMITS) (sym (put_other s (cell_of x) x k differs)) (few k)
    ]

pub joined_put : (s : RowList JobRow) (b : Jobs) (total : ℕ) → AreJoined s b total → (x : JobRow) → is_worn s (cell_of x) ≡ false → AreJoined (put s (cell_of x) x) (put_row b x) (total + 1)
joined_put s b total joined x fresh = record {
  long = put_long s (cell_of x) x ∙ joined.long;
  jobs_are = ap (λ (c : Jobs). put_row c x) joined.jobs_are ∙ sym (rows_put s x);
  total_is = ap (λ (n : ℕ). n + 1) joined.total_is ∙ sym (put_counts s (cell_of x) x (omega (arith, cell_inside x, joined.long)));
  few = few_put s x joined.long joined.few fresh;
}

sum_few : (s : RowList JobRow) → ((k : ℕ) → commits_at (row_at s k) ≤ MOST_COMMITS) → commits_in s ≤ length s * MOST_COMMITS
sum_few s few = sum_by-le commits_at MOST_COMMITS s (All-from_get_or (λ x. commits_at x ≤ MOST_COMMITS) s None (λ k inside. few k))

-- all commits are few
pub total_few : (s : RowList JobRow) (b : Jobs) (total : ℕ) → AreJoined s b total → total < 2 ^ 48
total_few s b total joined = omega (arith, sum_few s joined.few, joined.total_is, joined.long)

any_default : (s : RowList JobRow) (k : ℕ) (a b : Option (ℕ × JobRow)) → k < length s → get_or s k a ≡ get_or s k b
any_default [] k a b inside = absurd (omega arith)
any_default (x ∷ s) zero a b inside = refl
any_default (x ∷ s) (suc k) a b inside = any_default s k a b (omega (arith, inside))

-- what is written for a job is the job put
pub put_is : (s : RowList JobRow) (cell : ℕ) (d : Option (ℕ × JobRow)) (n : ℕ) (x : JobRow) → cell ≡ cell_of x → cell < length s → n ≡ commits_at (get_or s cell d) → set s cell (Some (n + 1, x)) ≡ put s (cell_of x) x
put_is s cell d n x is inside count =
    ap (λ (m : ℕ). set s cell (Some (m + 1, x))) (count ∙ ap (λ (o : Option (ℕ × JobRow)). commits_at o) (any_default s cell d None inside)) ∙ ap (λ (c : ℕ). put s c x) is

-- the record with a job put is one that storage can show
pub put_known : (s : RowList JobRow) (x : JobRow) → IsKnown s → is_worn s (cell_of x) ≡ false → IsNext (rows_in s) x → IsKnown (put s (cell_of x) x)
put_known s x known fresh next = record {
  long = put_long s (cell_of x) x ∙ known.long;
  few = few_put s x known.long known.few fresh;
  sound = subst AreSound (sym (rows_put s x)) next.sound;
}
