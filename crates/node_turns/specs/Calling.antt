-- A call that is to be reported: the commit of its act, what it came to in the words of the call, and what it used of a
-- fuse.
use Rattle.std.specs.Prelude.{◌≡◌, [], ◌++◌, true, Option, Some, None}
use Rattle.bench_base.specs.declared.{ledger.Commit.Commit, events.Reply.Reply}
use Rattle.node_acts.specs.declared.{act.Act.Act, act.Act.TheVariants.Refuse, act.Act.TheVariants.Tell, act.Act.TheVariants.Commits, act.Outcome.Outcome, said.Said.Said}
use Rattle.node_acts.specs.declared.act.Outcome.TheVariants as o
use Rattle.node_acts.specs.Plans.{with_commit}
use Rattle.node_acts.specs.Said.{tells}
use Rattle.nv_model.specs.declared.nv.Nv as nv
use Rattle.nv_model.specs.Meters.{Meters}
use Rattle.nv_store.specs.Store.{UsesCommit}
use Rattle.node_storage.specs.declared.node.Node.{Ghosts}
use Rattle.node_storage.specs.Calls.{CallDoes}
use Rattle.node_storage.specs.Ends.{is_done}
use Rattle.node_storage.specs.Stands.{meters_of}
use Rattle.node_turns.specs.declared.turn.Turn.{Turn}
use Rattle.node_turns.specs.Turns.{turn_of}

-- the commit that an act makes, if it makes one
abbrev pub commit_in : {X F A : Type 0} → Act X F A → Option Commit
commit_in (Refuse x) = None
commit_in (Tell a) = None
commit_in (Commits c x a) = Some c

-- what a call came to, where its refusals are replied and its answers said so
abbrev pub said_outcome : {F A : Type 0} → (F → Reply) → (A → Said) → Outcome F A → Outcome Reply Said
said_outcome refusal say o.Off = o.Off
said_outcome refusal say (o.Refused x) = o.Refused (refusal x)
said_outcome refusal say (o.Done a) = o.Done (say a)
said_outcome refusal say o.Worn = o.Worn
said_outcome refusal say (o.Power c) = o.Power c
said_outcome refusal say (o.Fault c) = o.Fault c

-- the turn of a call that was done, which made this commit if it made one
abbrev pub done_turn : Option Commit → Said → Turn
done_turn commit said = turn_of said.reply (tells said ++ with_commit commit [])

-- where its commit was made, a call used four calls of the storage or six
abbrev pub UsesMade : {X F A : Type 0} → Act X F A → Outcome F A → Meters → Meters → Type 0
UsesMade (Refuse x) outcome was is = Unit {0}
UsesMade (Tell a) outcome was is = Unit {0}
UsesMade (Commits c x a) outcome was is = is_done outcome ≡ true → UsesCommit was.fuse is.fuse

-- what a call did, and what it used of a fuse
pub record Called {K S N C R F A : Type 0} (n : Ghosts K S N C R) (g : nv.Ghosts S) (act : n.Seen → Act C F A) (s t : K) (outcome : Outcome F A) : Type 0 where
  pub does : CallDoes n g act s t outcome
  pub uses : UsesMade (act (n.seen s)) outcome (meters_of n g s) (meters_of n g t)
