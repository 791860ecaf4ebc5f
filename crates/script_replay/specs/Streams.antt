-- What a run does, by the words that the program is called with, and to its streams, by how it ends.
use Rattle.std.specs.Prelude.{◌≡◌, ◌≢◌, ◌↔◌, ◌≤◌, ℕ, List, [], Option, IfSome}
use Rattle.bench_base.specs.Causes.{Rose}
use Rattle.bench_base.specs.declared.stream.Source as source
use Rattle.bench_base.specs.declared.stream.Sink as sink
use Rattle.bench.specs.Outside.{Outside, outside}
use Rattle.script_text.specs.declared.{program.Words.Words, program.Words.TheVariants.Replay, program.Words.TheVariants.Generate}
use Rattle.script_text.specs.Programs.{program_words, AreInRange}
use Rattle.line_extensions.specs.Trace.{StepRecord, done_in}
use Rattle.line_runs.specs.Ends.{EndsAs, IsByScript, IsComplete}
use Rattle.line_runs.specs.Runs.{Replayed}
use Rattle.script_replay.specs.Generated.{Generated}
use Rattle.line_extensions.specs.Scripts.{script_grammar, script_lines}
use Rattle.line_runs.specs.declared.{status.Status.Status, status.SideStatus.TheVariants.Run}
use Rattle.line_runs.specs.declared.status.Status.TheVariants as status

-- the bytes that are left of the script and that the report took, if they are known, and the faults of each; the rates and the printer
pub record Streams : Type 0 where
  pub left : Option (List ℕ)
  pub read_faults : ℕ
  pub taken : Option (List ℕ)
  pub write_faults : ℕ
  pub outside : Outside

abbrev pub streams : {S K : Type 0} → source.Ghosts S → S → sink.Ghosts K → K → Outside → Streams
streams s script k report outside =
    record { left = s.left script; read_faults = s.faults script; taken = k.taken report; write_faults = k.faults report; outside = outside }

-- those of a run, and its two streams beside the bench
abbrev pub streams_of : {S K R P : Type 0} → source.Ghosts S → sink.Ghosts K → source.Ghosts R → sink.Ghosts P → S → K → R → P → Streams
streams_of s k r p script report rates printer = streams s script k report (outside r rates p printer)

-- the program does not know the words
abbrev pub AreNone : List (List ℕ) → Type 0
AreNone given = (w : Words) → AreInRange w → given ≢ program_words w

-- What a run did over the words that were given: it did the script's lines, or all events of a generated run, or nothing.
pub record Ran (outcome : Status) (given : List (List ℕ)) (WasDone : List StepRecord → Type 0) (before now : Streams) : Type 0 where
  pub replays : given ≡ program_words Replay → Replayed script_lines (Run outcome)
      (λ trace. WasDone (done_in trace)) before.left now.left before.taken now.taken
  pub generates : (seed count : ℕ) → AreInRange (Generate seed count) → given ≡ program_words (Generate seed count)
      → Generated outcome seed count WasDone before.taken now.taken
  pub nothing : AreNone given → WasDone []

-- why a run over the words that were given ends so
pub record EndsRun (outcome : Status) (given : List (List ℕ)) (before now : Streams) : Type 0 where
  -- StepRecord, Script and TooLong come if and only if the bytes of the script say so, and only a fault of a stream and lack of memory hinder them
  pub exact : given ≡ program_words Replay → IfSome before.left
      (λ bytes. IsByScript (Run outcome) → (s : Status) → (outcome ≡ s) ↔ EndsAs script_grammar s bytes)
  pub words : (outcome ≡ status.Words) ↔ AreNone given
  pub untouched : outcome ≡ status.Words → now ≡ before
  -- nothing is taken of the script and of the rates for a generated run, and nothing is printed
  pub unread : (seed count : ℕ) → AreInRange (Generate seed count) → given ≡ program_words (Generate seed count)
      → (now.left ≡ before.left) × (now.read_faults ≡ before.read_faults) × (now.outside ≡ before.outside)
  pub read_fault : outcome ≡ status.ReadFault → Rose before.read_faults now.read_faults
  pub write_fault : outcome ≡ status.WriteFault → Rose before.write_faults now.write_faults
  pub read_later : before.read_faults ≤ now.read_faults
  pub write_later : before.write_faults ≤ now.write_faults

-- A run comes to its end, whatever the nodes, the printer and the rates answer, if no fault of the script or the report was
-- counted. A script does so if it has an `end` after lines that are each skipped or an event, and a generated run always does.
pub record Completes (outcome : Status) (given : List (List ℕ)) (before now : Streams) : Type 0 where
  pub script : given ≡ program_words Replay → (Rose before.read_faults now.read_faults → ⊥) → (Rose before.write_faults now.write_faults → ⊥)
      → IfSome before.left (λ bytes. (end : EndsAs script_grammar status.Done bytes) → IsComplete script_grammar (Run outcome) end.passed)
  pub generated : (seed count : ℕ) → AreInRange (Generate seed count) → given ≡ program_words (Generate seed count)
      → (Rose before.write_faults now.write_faults → ⊥) → outcome ≡ status.Done
