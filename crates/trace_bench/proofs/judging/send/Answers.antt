use Rattle.std.proofs.Common.{List, ℕ, ◌++◌, refl, sym, ◌∙◌, ap}
use Rattle.trace_views.specs.Verdicts.{listed}
use Rattle.trace_bench.specs.Seeing.{audit_of, sending}
use Rattle.trace_bench.proofs.Keeping.{learns_beside}
use Rattle.trace_bench.proofs.Seen.{sends_nothing}
use Rattle.trace_bench.proofs.Sent.{learnt, ticked}
use Rattle.trace_bench.proofs.judging.send.Goals as goal

pub returns-in_default-clause-sent : goal.returns-in_default-clause-sent
returns-in_default-clause-sent g c =
    let old = audit_of c.args.auditor.now in
    let now = record old { known = c.learn.new.self } in (
      sym (ap (λ s. sending s now) c.in_default.is ∙ sends_nothing now),
      learns_beside _ _ old.known _ c.tick_last.new.seen (learnt c.learn.result (sym c.is_err.ensures.value ∙ c.if-is_err.false) c.learn.ensures.learns),
      refl,
      ticked c.args.heard.device c.deref.ensures.value c.learn.ensures.seen c.tick_last.ensures,
    )

pub returns-in-Ok-clause-sent : goal.returns-in-Ok-clause-sent
returns-in-Ok-clause-sent g c =
    let old = audit_of c.args.auditor.now in
    let now = record old { known = c.learn.new.self } in (
      ap (λ (l : List (List ℕ)). record now { messages = l }) (c.in-Ok.ensures.items ∙ ap (λ s. old.messages ++ listed s) (sym c.in-Some.is)),
      learns_beside _ _ old.known _ c.tick_last.new.seen (learnt c.learn.result (sym c.is_err.ensures.value ∙ c.if-is_err.false) c.learn.ensures.learns),
      refl,
      ticked c.args.heard.device c.deref.ensures.value c.learn.ensures.seen c.tick_last.ensures,
    )
