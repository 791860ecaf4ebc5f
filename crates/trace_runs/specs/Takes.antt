-- How many lines of the report a line of the script takes.
use Rattle.std.specs.Prelude.{◌≡◌, ℕ, List, Option, Result, Ok, Err}
use Rattle.trace_runs.specs.Counted.{TookLines, HasAnswers}
use Rattle.trace_runs.specs.declared.{audit.Step.Step, verdict.Ending.Ending, verdict.Ending.TheVariants.Done as Ended, verdict.Ending.TheVariants.Script, verdict.Ending.TheVariants.TooLong, verdict.Verdict.Verdict, verdict.Verdict.TheVariants.Lawful, verdict.Verdict.TheVariants.Stopped, verdict.Verdict.TheVariants.Wrong, verdict.Verdict.TheVariants.Forged, verdict.Verdict.TheVariants.Unkept, verdict.Verdict.TheVariants.More, verdict.Verdict.TheVariants.Memory, verdict.Verdict.TheVariants.Unread}

-- where the run is lawful, its script ended so, and so many lines of the report were taken for that
abbrev pub EndsAfter : Ending → ℕ → Option (List ℕ) → Option (List ℕ) → Verdict → Type 0
EndsAfter end count left0 left1 v = (e : Ending) → v ≡ Lawful e → (e ≡ end) × TookLines count left0 left1

-- so many lines of the report were taken for an event: it was answered, or it is the `end` of a run that is lawful
abbrev pub AnswerTakes : ℕ → Option (List ℕ) → Option (List ℕ) → Result ℕ Verdict → Type 0
AnswerTakes count left0 left1 (Ok used) = TookLines count left0 left1
AnswerTakes count left0 left1 (Err v) = EndsAfter Ended count left0 left1 v

-- how many lines of the report are taken for the end of a script: that of the answer to `end`
abbrev pub answers_at : Ending → ℕ
answers_at Ended = 1
answers_at (Script line) = 0
answers_at TooLong = 0

abbrev pub answers_behind : Verdict → ℕ
answers_behind (Lawful end) = answers_at end
answers_behind (Stopped n) = 0
answers_behind (Wrong n due) = 0
answers_behind (Forged n) = 0
answers_behind (Unkept n) = 0
answers_behind (More n end) = 0
answers_behind Memory = 0
answers_behind (Unread input n) = 0

-- the lines that a turn says were taken for a line of the script
abbrev pub TurnTakes : Option (List ℕ) → Option (List ℕ) → Result Step Verdict → Type 0
TurnTakes left0 left1 (Ok step) = TookLines step.answers left0 left1
TurnTakes left0 left1 (Err v) = HasAnswers (answers_behind v) left0 left1 v
