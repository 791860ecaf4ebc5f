use Rattle.std.proofs.Common.{ℕ, List, Ok, sym, subst}
use Rattle.bench_base.specs.declared.events.Event.{Event}
use Rattle.ledger_moves.specs.Histories.{Unforged}
use Rattle.trace_runs.specs.Audits.{MayTell}
use Rattle.trace_extensions.proofs.Missed.{may_get}
use Rattle.trace_bench.specs.Judging.{IsJudged}
use Rattle.trace_bench.specs.Seeing.{audit_of}
use Rattle.trace_bench.proofs.Same.{same_sees}
use Rattle.trace_extensions.specs.Rates.{left_of}
use Rattle.trace_extensions.proofs.Asked.{judged_line}
use Rattle.trace_extensions.proofs.taking.take.Goals as goal

pub returns-else-judged-left-clause-takes : goal.returns-else-judged-left-clause-takes
returns-else-judged-left-clause-takes g c = λ τ H texts history sees.
    let here = same_sees (audit_of c.args.auditor.now) (audit_of c.admit.new.auditor) c.admit.ensures.same H sees in
    let free = c.in-Ok.ensures.unforged τ H history here in
    let judged = c.in-Ok-judge.ensures.judged τ H texts history free here in
    judged_line g.T.Tell.IsOf τ H c.args.event.now c.args.line.now (left_of c.args.rates.now) (left_of c.pass.new.self) (audit_of c.judge.new.auditor) c.in-Ok-judge.judged free
    (subst (λ (left : List ℕ). IsJudged g.T.Tell.IsOf τ H c.args.event.now left c.args.line.now (audit_of c.judge.new.auditor) (Ok c.in-Ok-judge.judged)) c.left.ensures judged) c.pass.ensures

pub returns-in-Err-clause-missed : goal.returns-in-Err-clause-missed
returns-in-Err-clause-missed g c = λ τ H texts history sees d event may text. c.in-Err.ensures.missed τ H history sees (subst (λ (e : Event). Unforged e H) event may.unforged)

pub returns-in-Err-Wrong-clause-missed : goal.returns-in-Err-Wrong-clause-missed
returns-in-Err-Wrong-clause-missed g c = λ τ H texts history sees d event may text.
    let here = same_sees (audit_of c.args.auditor.now) (audit_of c.admit.new.auditor) c.admit.ensures.same H sees in
    let free = c.in-Ok.ensures.unforged τ H history here in
    let untold = (rw c.in-Err-Wrong.field-0-is at c.in-Err-Wrong.ensures.judged) τ H texts history free here in
    untold.none d.reply (may_get τ H c.args.event.now _ c.args.line.now d event (subst (λ (left : List ℕ). MayTell τ H left d) (sym c.left.ensures) may)) text
