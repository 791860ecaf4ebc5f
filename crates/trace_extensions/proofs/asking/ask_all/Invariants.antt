use Rattle.std.proofs.Common.{◌≡◌, ◌≢◌, ◌+◌, ◌≤◌, List, length}
use Rattle.line_extensions.specs.Desks.{World, world, Asks}
use Rattle.line_extensions.specs.Trace.{StepRecord}
use Rattle.line_extensions.specs.declared.{extension.Next.TheVariants.Say, extension.Next.TheVariants.Stop}
use Rattle.line_extensions.specs.Wants.{MayAsk, steps_left}
use Rattle.trace_bench.specs.Seeing.{IsReady, audit_of, keeps}
use Rattle.trace_extensions.specs.Models.{by_model, AreToldOf}
use Rattle.trace_extensions.specs.Places.{Place, place, MayStep}
use Rattle.trace_extensions.specs.Rates.{left_of}
use Rattle.trace_extensions.specs.Takes.{AtEachSeen}
use Rattle.trace_extensions.specs.Worlds.{AskedSo}
use Rattle.trace_extensions.proofs.OnlySteps.{LeftToAsk}
use Rattle.trace_extensions.proofs.asking.ask_all.Given as goal

abbrev pub invariant-loop-next : goal.invariant-loop-next
invariant-loop-next g l = record {
  ready : IsReady (audit_of l.auditor);
  may : MayAsk l.next (g.D.Extension.left l.desk);
  few : length (audit_of l.auditor).messages ≤ length (audit_of l.fn.auditor).messages + 1;
  sent : l.sent ≡ length (audit_of l.fn.auditor).messages;
  kept : keeps (audit_of l.auditor) ≡ keeps (audit_of l.fn.auditor);
  asked : AtEachSeen (audit_of l.fn.auditor) (λ τ H. AskedSo g.D.Extension τ (world (place H (left_of l.fn.rates)) l.fn.desk)
      (audit_of l.auditor) (left_of l.rates) l.desk l.fn.first l.next);
  only : AtEachSeen (audit_of l.fn.auditor) (λ τ H. (mid : World Place g.D.TracedExtension.View) (steps : List StepRecord)
      → Asks (by_model g.D.TracedExtension.model) (MayStep τ) (world (place H (left_of l.fn.rates)) (g.D.TracedExtension.view l.fn.desk)) mid l.fn.first steps Say
      → AreToldOf g.D.TracedExtension.Fails 1 l.fn.line steps → l.next ≢ Stop
      → LeftToAsk g.D.TracedExtension.view g.D.TracedExtension.model g.D.TracedExtension.Fails τ l.fn.line (length steps) l.number (audit_of l.auditor) (left_of l.rates) l.desk l.next Say mid);
}

abbrev pub decreases-loop-next : goal.decreases-loop-next
decreases-loop-next g l = steps_left l.next (g.D.Extension.left l.desk)
