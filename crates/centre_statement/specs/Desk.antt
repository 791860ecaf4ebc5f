-- What contracts see of the desk, and what an entry does to an open statement.
use Rattle.std.specs.Prelude.{ℕ, Bool, true, List, [], ◌∷◌, ◌++◌, Option, Some, None, length, ◌==◌, if◌then◌else◌}
use Rattle.bench_base.specs.declared.{ledger.Commit.Commit, ledger.Entry.Entry}
use Rattle.statement_check.specs.declared.line.Movement.{Movement}
use Rattle.centre_statement.specs.Changes.{change_in, left_after}
use Rattle.centre_statement.specs.Watching.{counted_by, watched}
use Rattle.centre_statement.specs.declared.{change.Change.Change, desk.StatementDesk.StatementDesk, answer.Answer.Answer, watch.Watch.Watch}
use Rattle.centre_statement.specs.declared.answer.Answer.TheVariants as answers

-- a statement that is open: the customer, the balance after the movements so far, and whether there were more than it holds
pub record Opened : Type 0 where
  pub customer : ℕ
  pub balance : ℕ
  pub full : Bool
  pub movements : List Movement

-- the desk: what it sees of the centre's commits, the statement that is open, what it answers or waits for, and the movements that it answers
pub record View : Type 0 where
  pub watch : Watch
  pub current : Option Opened
  pub said : Answer
  pub listed : List Movement

abbrev pub open_in : Option ℕ → ℕ → Bool → List Movement → Option Opened
open_in None balance full movements = None
open_in (Some w) balance full movements = Some (record { customer = w; balance = balance; full = full; movements = movements })

abbrev pub listed_in : Answer → List Movement → List Movement
listed_in answers.Nothing movements = []
listed_in (answers.Opening w) movements = []
listed_in answers.Closing movements = []
listed_in (answers.Opened w b) movements = []
listed_in (answers.Closed b) movements = movements
listed_in answers.NoneOpen movements = []
listed_in answers.Full movements = []
listed_in (answers.Balance reply) movements = []

abbrev pub view_of : StatementDesk → View
view_of d = record {
  watch = d.watch;
  current = open_in d.current d.balance d.is_full d.movements.items;
  said = d.said;
  listed = listed_in d.said d.movements.items;
}

-- == what an entry does ==

-- a movement more, where there is room for it
abbrev pub moved_by : Change → Opened → Opened
moved_by x s =
    if length s.movements == 10000 then record s { balance = left_after s.balance x.cause x.amount; full = true }
    else record s {
      balance = left_after s.balance x.cause x.amount;
      movements = s.movements ++ (record { cause = x.cause; amount = x.amount; balance = left_after s.balance x.cause x.amount }) ∷ [];
    }

abbrev pub changed_by : Option Change → Opened → Opened
changed_by None s = s
changed_by (Some x) s = moved_by x s

-- what a commit that counts does to the statement that is open
abbrev pub noted : Option Commit → Option Opened → Option Opened
noted None now = now
noted (Some c) None = None
noted (Some c) (Some s) = Some (changed_by (change_in c s.customer) s)

abbrev pub seen_entry : View → Option Entry → View
seen_entry v None = v
seen_entry v (Some e) = record v { watch = watched v.watch e; current = noted (counted_by v.watch e) v.current }

-- what the entries of a turn do: at most three
abbrev pub seen : View → List (Option Entry) → View
seen v [] = v
seen v (e ∷ rest) = seen (seen_entry v e) rest

-- a desk that has seen nothing
abbrev pub fresh : View
fresh = record { watch = record { commits = 0; torn = None }; current = None; said = answers.Nothing; listed = [] }

-- a change of the statement that is open
abbrev pub noted_by : Change → Option Opened → Option Opened
noted_by x None = None
noted_by x (Some s) = Some (moved_by x s)
