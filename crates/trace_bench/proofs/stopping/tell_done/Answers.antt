use Rattle.std.proofs.Common.{◌∙◌, ℕ, List, subst}
use Rattle.trace_bench.specs.Judging.{IsTold}
use Rattle.trace_bench.specs.Seeing.{audit_of}
use Rattle.trace_bench.proofs.stopping.tell_done.Goals as goal

pub returns-in-Ok-clause-done : goal.returns-in-Ok-clause-done
returns-in-Ok-clause-done c τ H texts history unforged sees =
    let w = rw c.in-Ok.is at c.judge.ensures.judged τ H texts history unforged sees in
    (w.0, subst (λ (line : List ℕ). IsTold τ H c.args.event.now c.args.left.now line (audit_of c.judge.new.auditor) w.0) (c.as_slice.ensures ∙ c.put_reply.ensures.value) w.1)
