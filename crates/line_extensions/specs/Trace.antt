-- Steps: what was done for a script of events, one step a line.
use Rattle.std.specs.Prelude.{◌≡◌, ◌≢◌, ℕ, List, [], ◌∷◌}
use Rattle.bench_base.specs.declared.{events.Event.Event, events.Reply.Reply}
use Rattle.bench_base.specs.declared.events.Event.TheVariants as event
use Rattle.script_text.specs.Grammar.{IsSkipped}
use Rattle.script_text.specs.Texts.{text_of, IsWholeReply}
use Rattle.line_runs.specs.Lines.{ended}
use Rattle.line_extensions.specs.Events.{IsLineOf}

-- what was done in one event: the text that it took of the rates, which is empty except for a `rates`, the reply, and what the printer took
pub record StepRecord : Type 0 where
  pub event : Event
  pub text : List ℕ
  pub reply : Reply
  pub printed : List ℕ

abbrev pub done : Event → List ℕ → Reply → List ℕ → StepRecord
done event text reply printed = record { event = event; text = text; reply = reply; printed = printed }

-- a line that does nothing; or a line, and what was done for it
pub data TraceStep : Type 0 where
  Skipped : (line : List ℕ) → TraceStep
  Did : (line : List ℕ) (d : StepRecord) → TraceStep

-- what was done for the lines
abbrev pub done_in : List TraceStep → List StepRecord
done_in [] = []
done_in (Skipped line ∷ rest) = done_in rest
done_in (Did line d ∷ rest) = d ∷ done_in rest

-- the line of a step
abbrev pub line_in : TraceStep → List ℕ
line_in (Skipped line) = line
line_in (Did line d) = line

-- a line of the report
abbrev pub line_of : Reply → List ℕ
line_of r = ended (text_of r)

-- what the report has for the step: the line of its reply
abbrev pub text_for : TraceStep → List ℕ
text_for (Skipped line) = []
text_for (Did line d) = line_of d.reply

-- the line is what the step says it is, and the numbers of its reply fit their types
abbrev pub IsOf : TraceStep → Type 0
IsOf (Skipped line) = IsSkipped line
IsOf (Did line d) = IsLineOf d.event line × IsWholeReply d.reply

-- the step is that of `end`
abbrev pub IsEnd : TraceStep → Type 0
IsEnd (Skipped line) = ⊥
IsEnd (Did line d) = d.event ≡ event.End

-- the run goes on after the step
abbrev pub GoesOn : TraceStep → Type 0
GoesOn (Skipped line) = Unit {0}
GoesOn (Did line d) = d.event ≢ event.End
