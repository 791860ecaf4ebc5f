-- What the desk does for an own line: before the balance is reported, and after it.
use Rattle.std.specs.Prelude.{◌≡◌, ◌≢◌, ◌⊎◌, ℕ, Bool, true, false, List, [], Option, Some, None}
use Rattle.bench_base.specs.declared.events.Event.TheVariants as ev
use Rattle.bench_base.specs.declared.events.Reply.{Reply}
use Rattle.bench_base.specs.declared.events.Reply.TheVariants as r
use Rattle.node_turns.specs.declared.turn.Turn.{Turn}
use Rattle.line_extensions.specs.declared.{extension.Next.Next, extension.Next.TheVariants.Step, extension.Next.TheVariants.Say}
use Rattle.statement_check.specs.declared.line.Movement.{Movement}
use Rattle.centre_statement.specs.Desk.{View, Opened, seen}
use Rattle.centre_statement.specs.declared.{lines.OwnLine.OwnLine, lines.OwnLine.TheVariants.Open, lines.OwnLine.TheVariants.Close, answer.Answer.Answer}
use Rattle.centre_statement.specs.declared.answer.Answer.TheVariants as answers

-- a statement is opened in memory that is taken with the line
abbrev pub MayWant : OwnLine → Type 0
MayWant (Open w) = Unit {0}
MayWant Close = ⊥

-- an answer that neither awaits a balance to open with nor lists movements
abbrev pub IsPlain : Answer → Type 0
IsPlain answers.Nothing = Unit {0}
IsPlain (answers.Opening w) = ⊥
IsPlain answers.Closing = Unit {0}
IsPlain (answers.Opened w b) = Unit {0}
IsPlain (answers.Closed b) = ⊥
IsPlain answers.NoneOpen = Unit {0}
IsPlain answers.Full = Unit {0}
IsPlain (answers.Balance reply) = Unit {0}

-- it says so, and lists nothing
abbrev pub saying : Answer → View → View
saying s v = record v { said = s; listed = [] }

-- before: each line asks for the balance of the statement's customer; without an open one there is nothing to close
abbrev pub BeginsClose : Option Opened → View → Next → View → Type 0
BeginsClose None v next t = (next ≡ Say) × (t ≡ saying answers.NoneOpen v)
BeginsClose (Some s) v next t = (next ≡ Step (ev.Balance s.customer)) × (t ≡ saying answers.Closing v)

abbrev pub Begins : View → OwnLine → Next → View → Type 0
Begins v (Open w) next t = (next ≡ Step (ev.Balance w)) × (t ≡ saying (answers.Opening w) v)
Begins v Close next t = BeginsClose v.current v next t

-- after: the reply is not the balance and is reported, and nothing is opened or closed
abbrev pub ByBalance : ℕ → Reply → (ℕ → View) → View → View → Type 0
ByBalance w reply then v t = ((b : ℕ) × (reply ≡ r.Balance w b) × (t ≡ then b)) ⊎ (((b : ℕ) → reply ≢ r.Balance w b) × (t ≡ saying (answers.Balance reply) v))

-- a statement is opened, and an earlier one is dropped
abbrev pub opened : ℕ → View → ℕ → View
opened w v b = record {
  watch = v.watch;
  current = Some (record { customer = w; balance = b; full = false; movements = [] });
  said = answers.Opened w b;
  listed = [];
}

-- the one that is open is closed: its movements are listed, unless there were more than it holds
abbrev pub closed_with : Bool → List Movement → View → ℕ → View
closed_with true movements v b = record { watch = v.watch; current = None; said = answers.Full; listed = [] }
closed_with false movements v b = record { watch = v.watch; current = None; said = answers.Closed b; listed = movements }

abbrev pub Closes : Option Opened → Reply → View → View → Type 0
Closes None reply v t = t ≡ saying (answers.Balance reply) v
Closes (Some s) reply v t = ByBalance s.customer reply (closed_with s.full s.movements v) v t

abbrev pub Answers : Answer → Reply → View → View → Type 0
Answers (answers.Opening w) reply v t = ByBalance w reply (opened w v) v t
Answers answers.Closing reply v t = Closes v.current reply v t
Answers answers.Nothing reply v t = t ≡ v
Answers (answers.Opened w b) reply v t = t ≡ v
Answers (answers.Closed b) reply v t = t ≡ v
Answers answers.NoneOpen reply v t = t ≡ v
Answers answers.Full reply v t = t ≡ v
Answers (answers.Balance told) reply v t = t ≡ v

abbrev pub GoesOn : View → Turn → Next → View → Type 0
GoesOn v turn next t = (next ≡ Say) × Answers v.said turn.reply (seen v turn.entries) t

-- the customer with the awaited balance to open a statement, or that none is awaited
abbrev pub IfOpening : Option ℕ → Answer → Type 0
IfOpening (Some w) s = s ≡ answers.Opening w
IfOpening None s = (w : ℕ) → s ≢ answers.Opening w

-- whether the balance is awaited to close the one that is open
abbrev pub IfClosing : Bool → Answer → Type 0
IfClosing true s = s ≡ answers.Closing
IfClosing false s = s ≢ answers.Closing
