use Rattle.std.proofs.Common.{◌≡◌, sym, ◌∙◌, subst}
use Rattle.bench_base.specs.declared.events.Reply.{Reply}
use Rattle.node_turns.specs.declared.turn.Turn.{Turn}
use Rattle.trace_bench.specs.Known.{Knows}
use Rattle.trace_bench.specs.Seeing.{audit_of}
use Rattle.trace_bench.proofs.Debiting.{debits_heard}
use Rattle.trace_bench.proofs.Sent.{sent_judged}
use Rattle.trace_bench.proofs.Stops.{power_told}
use Rattle.trace_bench.proofs.stopping.lose_power_at.Goals as goal

-- the turn is reported by its reply
abbrev IsReply : Reply → Turn → Type 0
IsReply told turn = told ≡ turn.reply

pub returns-in-Ok-send-clause-lost : goal.returns-in-Ok-send-clause-lost
returns-in-Ok-send-clause-lost c τ H texts history unforged sees =
    let line = c.as_slice.result.now in
    let e = c.args.event.now in
    let knows = subst (λ k. Knows k H) (sym c.hear.ensures.unlearnt) sees.known in
    let debits = debits_heard IsReply τ H e c.args.left.now line history unforged c.debits.ensures.more c.debits.ensures.kept c.in-Ok.heard (audit_of c.args.auditor.now) (audit_of c.hear.new.auditor) sees.run c.hear.ensures.ready.eight (rw c.in-Ok.is at c.hear.ensures.others) in
    let judged = sent_judged IsReply τ H e c.args.left.now line c.in-Ok.heard _ _ c.send.result c.send.ensures.sent knows debits (rw c.in-Ok.is at c.hear.ensures.judged τ H texts history unforged sees.run) in
    let w = rw c.in-Ok-send.is at judged in
    power_told τ H e c.args.left.now c.args.node.now c.put_reply.ensures.whole c.one_reply.ensures.law line (c.as_slice.ensures ∙ c.put_reply.ensures.value) _ w.0 w.1
