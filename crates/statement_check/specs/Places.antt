-- The place of a line in a statement, and the balance that is due in it.
use Rattle.std.specs.Prelude.{◌≡◌, ℕ, ℤ, pos, ◌+ℤ◌, ◌-ℤ◌, List, [], ◌∷◌, Option, Some, None}
use Rattle.statement_check.specs.Lines.{IsInRange}
use Rattle.statement_check.specs.declared.{line.Cause.Cause, line.Cause.TheVariants.Deposit, line.Cause.TheVariants.Reset, line.Cause.TheVariants.Refund, line.Cause.TheVariants.Withdraw, line.StatementLine.StatementLine, line.StatementLine.TheVariants.Opening, line.StatementLine.TheVariants.Moved, line.StatementLine.TheVariants.Closing, place.Place.Place, place.Place.TheVariants.First, place.Place.TheVariants.Behind, place.Place.TheVariants.Closed}

-- the balance in a line
abbrev pub balance : StatementLine → ℕ
balance (Opening c b) = b
balance (Moved m) = m.balance
balance (Closing b) = b

-- the balance after a movement, by the balance before it
abbrev pub moved : ℕ → Cause → ℕ → ℤ
moved before (Deposit receipt) amount = pos before +ℤ pos amount
moved before (Reset d n) amount = pos before -ℤ pos amount
moved before (Refund d n) amount = pos before +ℤ pos amount
moved before (Withdraw d n) amount = pos before +ℤ pos amount

-- the balance that is due in a line at its place; None if the line is out of place
abbrev pub due : Place → StatementLine → Option ℤ
due First (Opening c b) = Some (pos b)
due First (Moved m) = None
due First (Closing b) = None
due (Behind before) (Opening c b) = None
due (Behind before) (Moved m) = Some (moved before m.cause m.amount)
due (Behind before) (Closing b) = Some (pos before)
due (Closed before) (Opening c b) = None
due (Closed before) (Moved m) = None
due (Closed before) (Closing b) = None

-- the place after a line
abbrev pub place_behind : StatementLine → Place
place_behind (Opening c b) = Behind b
place_behind (Moved m) = Behind m.balance
place_behind (Closing b) = Closed b

-- the line is in its place, and has the balance that is due
pub record IsRight (place : Place) (line : StatementLine) : Type 0 where
  pub ranges : IsInRange line
  pub told : due place line ≡ Some (pos (balance line))

-- each of these lines is right, one after the other
abbrev pub AreRight : Place → List StatementLine → Type 0
AreRight place [] = Unit {0}
AreRight place (line ∷ lines) = IsRight place line × AreRight (place_behind line) lines

-- the place after these lines
abbrev pub place_after : Place → List StatementLine → Place
place_after place [] = place
place_after place (line ∷ lines) = place_after (place_behind line) lines
