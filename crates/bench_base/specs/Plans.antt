-- What an event does where nothing fails.
use Rattle.std.specs.Prelude.{List, [], Option, Some, None}
use Rattle.bench_base.specs.declared.{ledger.Commit.Commit, ledger.Entry.Entry, events.Reply.Reply}

-- the answer, the commit of the one node that makes one, and the entries after that commit, the newest first
pub record Plan : Type 0 where
  pub reply : Reply
  pub commit : Option Commit
  pub after : List Entry

-- an answer that changes nothing
abbrev pub refuse : Reply → Plan
refuse x = record { reply = x; commit = None; after = [] }

-- an answer after a commit
abbrev pub made : Reply → Commit → List Entry → Plan
made x c after = record { reply = x; commit = Some c; after = after }

-- an answer that needs no commit
abbrev pub told : Reply → List Entry → Plan
told x after = record { reply = x; commit = None; after = after }
