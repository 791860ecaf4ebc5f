-- A run comes to its end where neither the script nor the report failed.
use Rattle.std.proofs.Common.{◌≡◌, ℕ, List, Option, Some, None, refl, ap}
use Rattle.std.specs.Prelude.{IfSome, ◌↔◌}
use Rattle.bench_base.specs.Causes.{Rose}
use Rattle.line_extensions.specs.Trace.{StepRecord, done_in, TraceStep}
use Rattle.script_replay.specs.Generated.{EndsWith}
use Rattle.line_extensions.specs.ScriptLaws.{script_fits}
use Rattle.line_extensions.specs.Scripts.{script_grammar, script_lines}
use Rattle.line_runs.specs.Ends.{EndsAs, IsByScript}
use Rattle.line_runs.specs.Runs.{Replayed}
use Rattle.script_replay.specs.Streams.{Streams, Ran, Completes}
use Rattle.line_runs.specs.declared.{status.Status.Status, status.SideStatus.TheVariants.Run}
use Rattle.line_runs.specs.declared.status.Status.TheVariants as status
use Rattle.line_runs.proofs.EndLaws as lines

done_or_cut : (outcome : Status) (text line : List ℕ) → EndsWith outcome text line → (outcome ≡ status.WriteFault → ⊥) → outcome ≡ status.Done
done_or_cut status.Done text line ends write = refl
done_or_cut status.WriteFault text line ends write = absurd (write refl)
done_or_cut status.Words text line ends write = absurd ends
done_or_cut (status.Script n) text line ends write = absurd ends
done_or_cut status.ReadFault text line ends write = absurd ends
done_or_cut status.Memory text line ends write = absurd ends
done_or_cut status.TooLong text line ends write = absurd ends

run_same : (s t : Status) → Run s ≡ Run t → s ≡ t
run_same s t e = cc

pub completes : (outcome : Status) (given : List (List ℕ)) (P : List StepRecord → Type 0) (before now : Streams) → Ran outcome given P before now
    → (outcome ≡ status.ReadFault → Rose before.read_faults now.read_faults) → (outcome ≡ status.WriteFault → Rose before.write_faults now.write_faults) → Completes outcome given before now
completes outcome given P before now ran read write = record {
  script = λ is sound_script sound_report.
      lines.completes _ script_fits (Run outcome) (λ trace. P (done_in trace)) before.left now.left before.taken now.taken (ran.replays is) (λ e. sound_script (read (run_same outcome status.ReadFault e)))
      (λ e. sound_report (write (run_same outcome status.WriteFault e))) (λ e. cc);
  generated = λ seed count within is sound. let r = ran.generates seed count within is in done_or_cut outcome r.text _ r.ends (λ e. sound (write e));
}

by_status : (outcome s : Status) (P : Type 0) → (Run outcome ≡ Run s) ↔ P → (outcome ≡ s) ↔ P
by_status outcome s P exact = (λ e. exact.0 (ap Run e), λ p. run_same outcome s (exact.1 p))

-- the status is the one that the script's bytes decide
pub exact_end : (outcome : Status) (P : List TraceStep → Type 0) (left0 left1 taken0 taken1 : Option (List ℕ)) → Replayed script_lines (Run outcome) P left0 left1 taken0 taken1
    → IfSome left0 (λ bytes. IsByScript (Run outcome) → (s : Status) → (outcome ≡ s) ↔ EndsAs script_grammar s bytes)
exact_end outcome P None left1 taken0 taken1 r = tt
exact_end outcome P (Some bytes) left1 taken0 taken1 r = λ own s. by_status outcome s (EndsAs script_grammar s bytes) (lines.exact_end _ script_fits (Run outcome) P (Some bytes) left1 taken0 taken1 r own s)
