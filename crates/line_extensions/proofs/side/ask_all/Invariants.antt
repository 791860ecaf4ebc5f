use Rattle.std.proofs.Common.{◌+◌, ◌≤◌, List}
use Rattle.line_extensions.specs.Trace.{StepRecord}
use Rattle.line_extensions.specs.Desks.{world, Asks}
use Rattle.line_extensions.specs.Wants.{MayAsk, IsStep, steps_left}
use Rattle.line_extensions.proofs.side.ask_all.Given as goal

abbrev pub invariant-loop-next : goal.invariant-loop-next
invariant-loop-next g l = record {
  ready : g.B.Stepper.IsReady (g.B.Stepper.scene l.bench l.rates l.printer);
  may : MayAsk l.next (g.D.Extension.left l.desk);
  quiet : IsStep l.next → g.B.Stepper.sent (g.B.Stepper.scene l.bench l.rates l.printer) ≤ g.B.Stepper.sent (g.B.Stepper.scene l.fn.bench l.fn.rates l.fn.printer);
  most : g.B.Stepper.sent (g.B.Stepper.scene l.bench l.rates l.printer) ≤ g.B.Stepper.sent (g.B.Stepper.scene l.fn.bench l.fn.rates l.fn.printer) + 1;
  asked : (steps : List StepRecord) × Asks g.D.Extension g.B.Stepper.Steps (world (g.B.Stepper.scene l.fn.bench l.fn.rates l.fn.printer) l.fn.desk) (world (g.B.Stepper.scene l.bench l.rates l.printer) l.desk) l.fn.first steps l.next;
}

abbrev pub decreases-loop-next : goal.decreases-loop-next
decreases-loop-next g l = steps_left l.next (g.D.Extension.left l.desk)
