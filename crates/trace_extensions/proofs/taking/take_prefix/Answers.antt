use Rattle.std.proofs.Common.{ℕ, List, sym, subst}
use Rattle.bench_base.specs.declared.events.Event.{Event}
use Rattle.ledger_moves.specs.Histories.{Unforged}
use Rattle.trace_runs.specs.Audits.{MayTell}
use Rattle.trace_extensions.proofs.Missed.{may_get}
use Rattle.trace_bench.specs.Seeing.{audit_of}
use Rattle.trace_bench.specs.Stopping.{IsBegun}
use Rattle.trace_bench.proofs.Same.{same_sees}
use Rattle.trace_extensions.specs.Exact.{IsOpenMiss}
use Rattle.trace_extensions.specs.declared.taking.Miss.{Miss}
use Rattle.trace_extensions.proofs.taking.take_prefix.Goals as goal

pub returns-in-Ok-stop-clause-begun : goal.returns-in-Ok-stop-clause-begun
returns-in-Ok-stop-clause-begun c = λ τ H texts history sees.
    let here = same_sees (audit_of c.args.auditor.now) (audit_of c.admit.new.auditor) c.admit.ensures.same H sees in
    let free = c.in-Ok.ensures.unforged τ H history here in
    let stop = c.in-Ok-stop.ensures.stopped τ H texts history free here in
    (free, subst (λ (left : List ℕ). IsBegun τ H c.args.event.now left c.args.prefix.now (audit_of c.stop.new.auditor)) c.left.ensures stop.0)

pub returns-in-Err-clause-missed : goal.returns-in-Err-clause-missed
returns-in-Err-clause-missed c = λ τ H texts history sees d event may begins. c.in-Err.ensures.missed τ H history sees (subst (λ (e : Event). Unforged e H) event may.unforged)

pub returns-in-Err-Wrong-clause-missed : goal.returns-in-Err-Wrong-clause-missed
returns-in-Err-Wrong-clause-missed c = λ τ H texts history sees d event may begins.
    let here = same_sees (audit_of c.args.auditor.now) (audit_of c.admit.new.auditor) c.admit.ensures.same H sees in
    let free = c.in-Ok.ensures.unforged τ H history here in
    let unbegun = (rw c.in-Err-Wrong.field-0-is at c.in-Err-Wrong.ensures.stopped) τ H texts history free here in
    let tells : MayTell τ H _ d = subst (λ (left : List ℕ). MayTell τ H left d) (sym c.left.ensures) may in
    unbegun.none d.reply (record { moves = may_get τ H c.args.event.now _ c.args.prefix.now d event tells; whole = may.whole; begins = begins })

pub returns-in-Err-clause-not_unforged : goal.returns-in-Err-clause-not_unforged
returns-in-Err-clause-not_unforged c = λ forged τ H texts history sees free. subst (λ (why : Miss). IsOpenMiss why) forged (c.in-Err.ensures.missed τ H history sees free)

pub returns-in-Err-clause-only_forged : goal.returns-in-Err-clause-only_forged
returns-in-Err-clause-only_forged c = λ τ H texts history sees never. c.in-Err.ensures.causes

pub returns-in-Err-Wrong-clause-only_forged : goal.returns-in-Err-Wrong-clause-only_forged
returns-in-Err-Wrong-clause-only_forged c = λ τ H texts history sees never.
    absurd (never (c.in-Ok.ensures.unforged τ H history (same_sees (audit_of c.args.auditor.now) (audit_of c.admit.new.auditor) c.admit.ensures.same H sees)))
