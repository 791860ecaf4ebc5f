use Rattle.trace_bench.specs.Seeing.{audit_of}
use Rattle.trace_bench.proofs.Forged.{none_forged, none_told}
use Rattle.trace_bench.proofs.forging.is_forged.Goals as goal

pub returns-then-brings_nothing-clause-by_record : goal.returns-then-brings_nothing-clause-by_record
returns-then-brings_nothing-clause-by_record c = none_forged (audit_of c.args.auditor.now) c.args.event.now (rw c.if-brings_nothing.true at c.brings_nothing.ensures)

pub returns-then-brings_nothing-clause-by_ledger : goal.returns-then-brings_nothing-clause-by_ledger
returns-then-brings_nothing-clause-by_ledger c = none_told (audit_of c.args.auditor.now) c.args.event.now (rw c.if-brings_nothing.true at c.brings_nothing.ensures)
