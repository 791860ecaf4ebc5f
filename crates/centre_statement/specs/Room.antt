-- The memory of a statement.
use Rattle.std.specs.Prelude.{ℕ, ◌≤◌, Option, Some, None}
use Rattle.std.proofs.Props.{props}
use Rattle.bench_base.specs.Ranges.{IsCustomer}
use Rattle.centre_statement.specs.declared.answer.Answer.{Answer}
use Rattle.centre_statement.specs.declared.answer.Answer.TheVariants as answers

-- where a statement is open there is room for its movements, and no other's are listed; there is room too where one is about to be opened
abbrev pub HasRoom : Option ℕ → Answer → ℕ → Type 0
HasRoom None answers.Nothing room = Unit {0}
HasRoom None (answers.Opening w) room = 10000 ≤ room
HasRoom None answers.Closing room = Unit {0}
HasRoom None (answers.Opened w b) room = Unit {0}
HasRoom None (answers.Closed b) room = Unit {0}
HasRoom None answers.NoneOpen room = Unit {0}
HasRoom None answers.Full room = Unit {0}
HasRoom None (answers.Balance reply) room = Unit {0}
HasRoom (Some w) (answers.Closed b) room = ⊥
HasRoom (Some w) answers.Nothing room = IsCustomer w × (10000 ≤ room)
HasRoom (Some w) (answers.Opening x) room = IsCustomer w × (10000 ≤ room)
HasRoom (Some w) answers.Closing room = IsCustomer w × (10000 ≤ room)
HasRoom (Some w) (answers.Opened x b) room = IsCustomer w × (10000 ≤ room)
HasRoom (Some w) answers.NoneOpen room = IsCustomer w × (10000 ≤ room)
HasRoom (Some w) answers.Full room = IsCustomer w × (10000 ≤ room)
HasRoom (Some w) (answers.Balance reply) room = IsCustomer w × (10000 ≤ room)

-- == laws ==

-- that it is so has one proof at most
pub room_prop : (current : Option ℕ) (s : Answer) (room : ℕ) → IsProp (HasRoom current s room)
room_prop None answers.Nothing room = hlevel props
room_prop None (answers.Opening x) room = hlevel props
room_prop None answers.Closing room = hlevel props
room_prop None (answers.Opened x b) room = hlevel props
room_prop None (answers.Closed b) room = hlevel props
room_prop None answers.NoneOpen room = hlevel props
room_prop None answers.Full room = hlevel props
room_prop None (answers.Balance reply) room = hlevel props
room_prop (Some w) answers.Nothing room = hlevel props
room_prop (Some w) (answers.Opening x) room = hlevel props
room_prop (Some w) answers.Closing room = hlevel props
room_prop (Some w) (answers.Opened x b) room = hlevel props
room_prop (Some w) (answers.Closed b) room = hlevel props
room_prop (Some w) answers.NoneOpen room = hlevel props
room_prop (Some w) answers.Full room = hlevel props
room_prop (Some w) (answers.Balance reply) room = hlevel props
