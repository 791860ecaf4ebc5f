-- The headline is a part of what is said of a run on new storages.
use Rattle.std.proofs.Common.{◌≡◌, ℕ, List, IsSome}
use Rattle.script_text.specs.declared.program.Words.TheVariants.{Replay}
use Rattle.script_text.specs.Programs.{program_words}
use Rattle.bench.specs.Benches.{Nodes, BenchOf}
use Rattle.line_extensions.specs.Trace.{StepRecord, done_in}
use Rattle.line_extensions.specs.Scripts.{script_lines}
use Rattle.line_runs.proofs.Turns.{said}
use Rattle.line_runs.specs.declared.{status.Status.Status, status.SideStatus.TheVariants.Run}
use Rattle.script_replay.specs.Chains.{SceneOf, scene}
use Rattle.script_replay.specs.Fresh.{DidFresh, RanFresh}
use Rattle.script_replay.specs.Headline.{AreMade, Headline}
use Rattle.script_replay.specs.Streams.{Streams}

module _ (n : Nodes) where
  made : (old new : SceneOf n) (outcome : Status) (steps : List StepRecord) → IsSome old.outside.printer.taken → DidFresh n old new outcome steps
      → AreMade old.outside.printer.taken new.outside.printer.taken steps
  made old new outcome steps tells did = record {
    printed = did.did.printed;
    right = λ τ texts.
        let over = did.over τ texts in
        record { replies = over.run; prints = over.prints tells; lawful = over.lawful; paid = over.paid };
  }

  pub headline : (IsMade : BenchOf n → Type 0) (outcome : Status) (given : List (List ℕ)) (before now : Streams)
      → RanFresh n IsMade outcome given before now → IsSome before.outside.printer.taken → given ≡ program_words Replay → Headline outcome before now
  headline IsMade outcome given before now r tells is = record {
    steps = said script_lines (λ trace. DidFresh n (scene r.old before.outside) (scene r.new now.outside) outcome (done_in trace))
        (λ trace. AreMade before.outside.printer.taken now.outside.printer.taken (done_in trace)) (Run outcome) before.left now.left before.taken now.taken
        (λ trace did. made (scene r.old before.outside) (scene r.new now.outside) outcome (done_in trace) tells did) (r.ran.replays is);
    by_script = r.ends.exact is;
    read_fault = r.ends.read_fault;
    write_fault = r.ends.write_fault;
  }
