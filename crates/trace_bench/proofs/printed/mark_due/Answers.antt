use Rattle.trace_bench.specs.Seeing.{audit_of}
use Rattle.trace_bench.proofs.Printing.{undated_none, dated_mark}
use Rattle.trace_bench.proofs.printed.mark_due.Goals as goal

pub returns-in-None : goal.returns-in-None
returns-in-None c τ H history sees = undated_none (audit_of c.args.auditor.now) c.args.job τ H sees c.in-None.is

pub returns-in-Some : goal.returns-in-Some
returns-in-Some c τ H history sees = dated_mark (audit_of c.args.auditor.now) c.args.job τ H sees c.in-Some.field-0 c.mark_due.result c.in-Some.is history c.requires.whole c.mark_due.ensures.by_ledger
