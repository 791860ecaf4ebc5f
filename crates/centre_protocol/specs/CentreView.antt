-- What contracts see of the centre and of its calls.
use Rattle.std.specs.Prelude.{Option, Result}
use Rattle.bench_base.specs.declared.{ledger.Commit.Commit, refusals.CentreRefusal.CentreRefusal, refusals.Fail.Fail}
use Rattle.nv_model.specs.declared.nv.Nv.{Ghosts}
use Rattle.centre_ledger.specs.Acts.{CentreAct}
use Rattle.centre_ledger.specs.Books.{Books}
use Rattle.centre_ledger.specs.Seen.{Seen, books_in}
use Rattle.row_node.specs.RunningView as running
use Rattle.centre_protocol.specs.declared.centre.Centre.{Centre}

module _ {N : Type 0} {g : Ghosts N} where
  -- its storage
  abbrev pub storage_of : Centre N g → N
  storage_of c = running.storage_of c.rows

  -- its rows, with the commits of each
  abbrev pub seen_of : Centre N g → Seen
  seen_of c = running.seen_of c.rows

  -- its rows
  abbrev pub books_of : Centre N g → Books
  books_of c = books_in (seen_of c)

  -- the commit of it that failed
  abbrev pub torn_of : Centre N g → Option Commit
  torn_of c = running.torn_of c.rows

  -- what starts: it shows what its storage shows
  abbrev pub Starts : Centre N g → Type 0
  Starts c = running.Starts c.rows

  -- the rows can take what the act commits, if it commits
  abbrev pub CanCommit : {A : Type 0} → CentreAct A → Centre N g → Type 0
  CanCommit act c = running.CanCommit act c.rows

  -- what a call of this act did, answered and left
  abbrev pub Performs : {A : Type 0} → CentreAct A → Centre N g → Centre N g → Result A (Fail CentreRefusal) → Type 0
  Performs act old new result = running.Performs act old.rows new.rows result
