use Rattle.std.proofs.Common.{sym, subst}
use Rattle.trace_bench.specs.Known.{Knows}
use Rattle.trace_bench.specs.Seeing.{audit_of}
use Rattle.trace_bench.proofs.Debiting.{debits_heard}
use Rattle.trace_bench.proofs.Sent.{sent_judged, heard_wrong}
use Rattle.trace_bench.proofs.judging.judge.Goals as goal

pub returns-in-Ok-clause-judged : goal.returns-in-Ok-clause-judged
returns-in-Ok-clause-judged g c τ H texts history unforged sees =
    let old = audit_of c.args.auditor.now in
    let now = audit_of c.hear.new.auditor in
    let e = c.args.event.now in
    sent_judged g.T.Tell.IsOf τ H e c.args.left.now c.args.line.now c.in-Ok.heard _ _ c.send.result c.send.ensures.sent
    (subst (λ k. Knows k H) (sym c.hear.ensures.unlearnt) sees.known)
    (debits_heard g.T.Tell.IsOf τ H e c.args.left.now c.args.line.now history unforged c.debits.ensures.more c.debits.ensures.kept c.in-Ok.heard old now sees.run c.hear.ensures.ready.eight (rw c.in-Ok.is at c.hear.ensures.others))
    (rw c.in-Ok.is at c.hear.ensures.judged τ H texts history unforged sees.run)

pub returns-in-Err-clause-judged : goal.returns-in-Err-clause-judged
returns-in-Err-clause-judged g c τ H texts history unforged sees =
    heard_wrong g.T.Tell.IsOf τ H c.args.event.now c.args.left.now c.args.line.now _ c.in-Err.finding
    (subst (λ k. Knows k H) (sym c.hear.ensures.unlearnt) sees.known) (rw c.in-Err.is at c.hear.ensures.judged τ H texts history unforged sees.run)
