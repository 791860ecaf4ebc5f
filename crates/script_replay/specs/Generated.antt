-- A generated run: its events, and its summary.
use Rattle.std.specs.Prelude.{◌≡◌, ℕ, List, ◌++◌, Option, map}
use Rattle.std.specs.Io.KnownBytes.{Appends}
use Rattle.bench_base.specs.declared.{events.Event.Event, events.Reply.Reply}
use Rattle.bench_base.specs.Ledger.{Ledger}
use Rattle.ledger_moves.specs.Tariffs.{Tariff}
use Rattle.script_text.specs.Summaries.{Tally, tally_of, summary_text}
use Rattle.generator.specs.Events.{generated}
use Rattle.line_extensions.specs.Trace.{StepRecord}
use Rattle.script_replay.specs.Trace.{AreUnforged}
use Rattle.line_runs.specs.Lines.{ended, IsCutOff}
use Rattle.script_replay.specs.Run.{Unforged}
use Rattle.line_runs.specs.declared.status.Status.{Status}
use Rattle.line_runs.specs.declared.status.Status.TheVariants as status

abbrev pub events_of : List StepRecord → List Event
events_of done = map (λ (d : StepRecord). d.event) done

abbrev pub replies_of : List StepRecord → List Reply
replies_of done = map (λ (d : StepRecord). d.reply) done

-- the line of the summary
abbrev pub summary_line : ℕ → ℕ → List Reply → List ℕ
summary_line seed count replies = ended (summary_text seed count (tally_of replies))

-- the line was written, or a part of it
abbrev pub EndsWith : Status → List ℕ → List ℕ → Type 0
EndsWith status.Done text line = text ≡ line
EndsWith status.WriteFault text line = IsCutOff text line
EndsWith status.Words text line = ⊥
EndsWith (status.Script number) text line = ⊥
EndsWith status.ReadFault text line = ⊥
EndsWith status.Memory text line = ⊥
EndsWith status.TooLong text line = ⊥

-- So far these events were done, and these are still to come; the tally is that of the replies.
pub record InTheMidst {B : Type 0} (Does : B → B → List StepRecord → Type 0) (seed count : ℕ) (to_come : List Event) (tally : Tally)
    (old new : B) : Type 0 where
  pub done : List StepRecord
  pub all : events_of done ++ to_come ≡ generated seed count
  pub did : Does old new done
  pub tally_is : tally ≡ tally_of (replies_of done)

-- All events of the run were done, and none of them contains anything that is forged. Then the report took the summary of the replies.
pub record Generated (outcome : Status) (seed count : ℕ) (WasDone : List StepRecord → Type 0) (taken0 taken1 : Option (List ℕ)) : Type 0 where
  pub done : List StepRecord
  pub all : events_of done ≡ generated seed count
  pub unforged : (τ : Tariff) (H : Ledger) → AreUnforged τ Unforged H done
  pub text : List ℕ
  pub ends : EndsWith outcome text (summary_line seed count (replies_of done))
  pub appended : Appends taken0 taken1 text
  pub did : WasDone done
