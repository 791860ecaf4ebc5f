use Rattle.trace_bench.specs.Seeing.{audit_of}
use Rattle.trace_bench.proofs.Same.{same_sees}
use Rattle.trace_extensions.proofs.taking.admit.Goals as goal

pub returns-in-Some-true-clause-missed : goal.returns-in-Some-true-clause-missed
returns-in-Some-true-clause-missed c = λ τ H history sees free.
    (rw c.in-Some-true.field-0-test at c.in-Some-true.ensures.by_ledger) τ H history (same_sees (audit_of c.args.auditor.now) (audit_of c.index.new.auditor) c.index.ensures.same H sees) free
