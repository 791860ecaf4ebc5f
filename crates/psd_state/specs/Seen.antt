-- The record of a device as the bench sees it, with the count of its one cell.
use Rattle.std.specs.Prelude.{ℕ, ◌+◌, Option, Some, ◌==◌}
use Rattle.bench_base.specs.declared.sizes.TheConstants.{MOST_COMMITS}
use Rattle.node_acts.specs.Views.{Counting}
use Rattle.psd_state.specs.State.{State}

pub record Seen : Type 0 where
  -- how many commits it has
  pub count : ℕ
  -- its record, if it was made
  pub state : Option State

-- its one cell counts each commit
abbrev pub counting : Counting Seen State
counting = record {
  count = λ s. s.count;
  is_worn = λ s x. s.count == MOST_COMMITS;
  after = λ s x. record { count = s.count + 1; state = Some x };
}
