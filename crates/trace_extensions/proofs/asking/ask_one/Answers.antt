use Rattle.std.proofs.Common.{◌≡◌, ◌∙◌, sym, ap, subst}
use Rattle.bench_base.specs.declared.events.Event.{Event}
use Rattle.ledger_moves.specs.Histories.{Unforged}
use Rattle.script_text.specs.Texts.{text_of}
use Rattle.trace_bench.specs.Seeing.{audit_of}
use Rattle.line_extensions.specs.declared.{extension.Next.TheVariants.Step}
use Rattle.trace_extensions.specs.Rates.{left_of}
use Rattle.trace_extensions.proofs.OnlySteps.{chosen_text, asked_takes, taken_step}
use Rattle.trace_extensions.proofs.asking.ask_one.Goals as goal

step_event : (e f : Event) → Step e ≡ Step f → f ≡ e
step_event e f is = cc (is)

pub returns-in-Ok-take_reply-clause-asked : goal.returns-in-Ok-take_reply-clause-asked
returns-in-Ok-take_reply-clause-asked g c = λ τ H texts history sees.
    let due = c.in-Ok.ensures.due τ H texts history sees in
    (c.in-Ok-take_reply.ensures.asked τ H texts history due.2).0

pub returns-in-Ok-take_reply-clause-only : goal.returns-in-Ok-take_reply-clause-only
returns-in-Ok-take_reply-clause-only g c = λ τ H texts history sees mid d more asked told goes.
    let due = c.in-Ok.ensures.due τ H texts history sees in
    let event = step_event c.args.event.now d.event asked.asks in
    let chosen = chosen_text g.D.TracedExtension.Fails c.args.step c.args.line.now τ H (left_of c.args.rates.now) d c.args.event.now c.in-Ok.due c.reply_to.result event asked.did.may told due.1
    c.reply_to.ensures.failed c.reply_to.ensures.fine in
    let one = c.in-Ok-take_reply.ensures.asked τ H texts history due.2 in
    let took = asked_takes g.D.Extension τ H c.args.event.now (left_of c.args.rates.now) (left_of c.take_reply.new.rates) c.as_slice.result.now (audit_of c.take_reply.new.auditor) c.args.desk.now
    c.take_reply.new.desk c.in-Ok-take_reply.next one.0 one.1 in
    taken_step g.D.Extension g.D.TracedExtension.view g.D.TracedExtension.model c.laws.ensures.modelled c.laws.ensures.determined τ H c.args.event.now c.as_slice.result.now (left_of c.args.rates.now)
    (left_of c.take_reply.new.rates) (audit_of c.take_reply.new.auditor) c.args.desk.now c.take_reply.new.desk c.in-Ok-take_reply.next more mid d one.0.d history asked
    (c.as_slice.ensures ∙ c.write_reply-text.ensures.value ∙ ap (λ r. text_of r) chosen) took.0 took.1 goes

pub returns-in-Err-take_reply-clause-only : goal.returns-in-Err-take_reply-clause-only
returns-in-Err-take_reply-clause-only g c = λ τ H texts history sees mid d more asked told.
    let due = c.in-Ok.ensures.due τ H texts history sees in
    let event = step_event c.args.event.now d.event asked.asks in
    let chosen = chosen_text g.D.TracedExtension.Fails c.args.step c.args.line.now τ H (left_of c.args.rates.now) d c.args.event.now c.in-Ok.due c.reply_to.result event asked.did.may told due.1
    c.reply_to.ensures.failed c.reply_to.ensures.fine in
    c.in-Err-take_reply.ensures.missed τ H texts history due.2 d event asked.did.may (sym (c.as_slice.ensures ∙ c.write_reply-text.ensures.value ∙ ap (λ r. text_of r) chosen))

pub returns-in-Err-clause-only : goal.returns-in-Err-clause-only
returns-in-Err-clause-only g c = λ τ H texts history sees mid d more asked told.
    c.in-Err.ensures.missed τ H texts history sees (subst (λ (e : Event). Unforged e H) (step_event c.args.event.now d.event asked.asks) asked.did.may.unforged)
