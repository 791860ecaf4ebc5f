-- What contracts see of the verifier and of its calls.
use Rattle.std.specs.Prelude.{Option, Result}
use Rattle.bench_base.specs.declared.{ledger.Commit.Commit, refusals.ScanRefusal.ScanRefusal, refusals.Fail.Fail}
use Rattle.nv_model.specs.declared.nv.Nv.{Ghosts}
use Rattle.verifier.specs.Acts.{ScanAct}
use Rattle.verifier.specs.Seen.{Seen}
use Rattle.row_node.specs.RunningView as running
use Rattle.verifier_node.specs.declared.running.Verifier.{Verifier}

module _ {N : Type 0} {g : Ghosts N} where
  -- its storage
  abbrev pub storage_of : Verifier N g → N
  storage_of v = running.storage_of v.rows

  -- its rows, with the commits of each
  abbrev pub seen_of : Verifier N g → Seen
  seen_of v = running.seen_of v.rows

  -- the commit of it that failed
  abbrev pub torn_of : Verifier N g → Option Commit
  torn_of v = running.torn_of v.rows

  -- what starts: it shows what its storage shows
  abbrev pub Starts : Verifier N g → Type 0
  Starts v = running.Starts v.rows

  -- the rows can take what the act commits, if it commits
  abbrev pub CanCommit : {A : Type 0} → ScanAct A → Verifier N g → Type 0
  CanCommit act v = running.CanCommit act v.rows

  -- what a call of this act did, answered and left
  abbrev pub Performs : {A : Type 0} → ScanAct A → Verifier N g → Verifier N g → Result A (Fail ScanRefusal) → Type 0
  Performs act old new result = running.Performs act old.rows new.rows result
