-- The host before the first commit.
use Rattle.std.proofs.Common.{◌≡◌, ◌<◌, ℕ, [], length, get_or, None, sym, ◌∙◌, ap, arith}
use Rattle.node_acts.specs.RowList.{row_at}
use Rattle.node_acts.specs.RowLaws.{listed_long, listed_is}
use Rattle.host_jobs.specs.declared.sizes.TheConstants.{HOST_CELLS}
use Rattle.host_jobs.specs.Records.{seen_after, cell_after}
use Rattle.host_jobs.specs.Rows.{Jobs, no_jobs}
use Rattle.host_jobs.specs.Seen.{Seen, rows_in}
use Rattle.node_acts.proofs.Blanks.{counts_none, few_none}
use Rattle.host_jobs.proofs.Seeing as seeing
use Rattle.host_jobs.proofs.FollowingActs.{none_seen}
use Rattle.trace_host.specs.Records.{AreJoined}

-- cells that are all blank are those before the first commit
pub blank_is : (cells : Seen) → length cells ≡ HOST_CELLS → ((k : ℕ) → k < length cells → get_or cells k None ≡ None) → cells ≡ seen_after []
blank_is cells long each = sym (listed_is HOST_CELLS (λ k. cell_after k []) None cells long (λ k lt. each k (omega (arith, long, lt))))

long : length (seen_after []) ≡ HOST_CELLS
long = listed_long HOST_CELLS (λ k. cell_after k [])

pub blank_joined : (cells : Seen) (rows : Jobs) → cells ≡ seen_after [] → rows ≡ no_jobs → AreJoined cells rows 0
blank_joined cells rows blank is = record {
  long = ap length blank ∙ long;
  jobs_are = is ∙ sym none_seen ∙ ap rows_in (sym blank);
  total_is = sym (counts_none cells at);
  few = few_none cells at;
}
  where
    at : (k : ℕ) → row_at cells k ≡ None
    at k = ap (λ (s : Seen). row_at s k) blank ∙ seeing.blank k
