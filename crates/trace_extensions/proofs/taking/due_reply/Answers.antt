use Rattle.std.proofs.Common.{ℕ, List, subst}
use Rattle.trace_bench.specs.Prefixes.{IsDue}
use Rattle.trace_bench.specs.Seeing.{audit_of}
use Rattle.trace_bench.proofs.Same.{same_sees}
use Rattle.trace_extensions.proofs.taking.due_reply.Goals as goal

pub returns-in-Ok-due_to-clause-due : goal.returns-in-Ok-due_to-clause-due
returns-in-Ok-due_to-clause-due c = λ τ H texts history sees.
    let here = same_sees (audit_of c.args.auditor.now) (audit_of c.admit.new.auditor) c.admit.ensures.same H sees in
    let free = c.in-Ok.ensures.unforged τ H history here in
    let due = c.in-Ok-due_to.ensures.due τ H texts history free here in
    (free, subst (λ (left : List ℕ). IsDue τ H c.args.event.now left c.in-Ok-due_to.due) c.left.ensures due.0, due.1)

pub returns-in-Err-clause-missed : goal.returns-in-Err-clause-missed
returns-in-Err-clause-missed c = λ τ H texts history sees free. c.in-Err.ensures.missed τ H history sees free
