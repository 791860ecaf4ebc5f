-- The host before its first commit: nothing is seen of it, which is sound.
use Rattle.std.proofs.Common.{[], sym, subst}
use Rattle.node_acts.specs.RowLaws.{listed_long}
use Rattle.node_acts.proofs.Blanks.{few_none}
use Rattle.host_jobs.specs.declared.sizes.TheConstants.{HOST_CELLS}
use Rattle.host_jobs.specs.Records.{cell_after, seen_after}
use Rattle.host_jobs.specs.Seen.{IsKnown}
use Rattle.host_jobs.specs.Soundness.{AreSound}
use Rattle.host_jobs.proofs.FollowingActs.{none_seen}
use Rattle.host_jobs.proofs.Keeping.{none_kept}
use Rattle.host_jobs.proofs.Seeing.{blank}

pub host_sound : IsKnown (seen_after [])
host_sound = record {
  long = listed_long HOST_CELLS (λ k. cell_after k []);
  few = few_none (seen_after []) blank;
  sound = subst AreSound (sym none_seen) none_kept.sound;
}
