use Rattle.std.proofs.Common.{sym, subst}
use Rattle.trace_bench.specs.declared.auditor.Auditor.{Auditor}
use Rattle.trace_bench.specs.Seeing.{IsReady, audit_of}
use Rattle.meter_audit.proofs.seen.read_seen.Goals as goal
use Rattle.meter_audit.proofs.seen.read_seen.Goals.{in-Line+in_ok-take-in-Line, in-Long+in_ok-tell_no_mark-in-Long}

pub loop-number-preserved : goal.loop-number-preserved
loop-number-preserved c = elim c.match-read_line.branch [
  | in-Line+in_ok-take-in-Line w ↦ subst (λ (a : Auditor). IsReady (audit_of a)) (sym w.auditor-is) w.take.ensures.ready
  | in-Long+in_ok-tell_no_mark-in-Long w ↦ subst (λ (a : Auditor). IsReady (audit_of a)) (sym w.auditor-is) c.loop-number.invariant
]
