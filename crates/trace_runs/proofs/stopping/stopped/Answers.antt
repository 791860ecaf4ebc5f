use Rattle.std.proofs.Common.{refl}
use Rattle.trace_bench.specs.Seeing.{audit_of}
use Rattle.trace_runs.proofs.Opening.{left_open}
use Rattle.trace_runs.proofs.stopping.stopped.Goals as goal

pub returns-in-Ok-keep-clause-stops : goal.returns-in-Ok-keep-clause-stops
returns-in-Ok-keep-clause-stops c = (
  refl,
  c.open_in-open.result,
  record {
    begun = λ τ H texts history unforged sees. (c.in-Ok.ensures.stopped τ H texts history unforged sees).0;
    left_open = left_open (audit_of c.args.auditor.now) c.args.event.now c.due_mark.result c.args.report.now c.open_in-open.result c.due_mark.ensures c.open_in-open.ensures;
    prints = c.in-Ok-keep.ensures.ok;
  },
)
