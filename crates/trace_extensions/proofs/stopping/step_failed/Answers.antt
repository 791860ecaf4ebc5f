use Rattle.std.proofs.Common.{◌≡◌, ◌∙◌, inl, inr, sym}
use Rattle.line_extensions.specs.declared.{extension.Next.TheVariants.Say, extension.Next.TheVariants.Stop}
use Rattle.trace_bench.specs.Seeing.{audit_of}
use Rattle.trace_extensions.specs.Rates.{left_of}
use Rattle.trace_extensions.proofs.Reached.{replaced_comes, replaced_taken}
use Rattle.trace_extensions.proofs.stopping.step_failed.Goals as goal

-- what answers goes on
said_on : Say ≡ Stop → ⊥
said_on is = cc is

pub returns-in_default-clause-stops : goal.returns-in_default-clause-stops
returns-in_default-clause-stops g c = λ τ H texts history sees mid line f begins. absurd (c.in_default.ensures.none line f.step.reply f.fails begins)

pub returns-in-Err-clause-stops : goal.returns-in-Err-clause-stops
returns-in-Err-clause-stops g c = λ τ H texts history sees mid line f begins.
    let found = c.in-Some.ensures.found in
    let w = replaced_comes g.D.Extension g.D.TracedExtension.view g.D.TracedExtension.model c.laws.ensures.modelled c.laws.ensures.alike c.laws.ensures.ends g.D.TracedExtension.Fails c.laws.ensures.failures τ H (left_of c.args.rates.now) c.args.desk.now c.args.event.now c.args.step line mid f found.0 c.in-Some.failure found.1 in
    inr (c.miss.ensures.open (c.in-Err.ensures.missed τ H texts history sees _ w.0 w.1 (sym (c.as_slice.ensures ∙ c.write_reply-text.ensures.value))))

pub returns-then-not-says-clause-stops : goal.returns-then-not-says-clause-stops
returns-then-not-says-clause-stops g c = λ τ H texts history sees mid line f begins.
    let found = c.in-Some.ensures.found in
    let one = (rw c.in-Ok-Say.field-0-is at c.in-Ok-Say.ensures.asked) τ H texts history sees in
    let w = replaced_taken g.D.Extension g.D.TracedExtension.view g.D.TracedExtension.model c.laws.ensures.modelled c.laws.ensures.alike c.laws.ensures.ends g.D.TracedExtension.Fails c.laws.ensures.failures τ H (left_of c.args.rates.now) c.args.desk.now c.args.event.now c.args.step line mid f found.0 c.in-Some.failure found.1 (left_of c.take_reply.new.rates) (audit_of c.take_reply.new.auditor) c.take_reply.new.desk Say c.args.prefix.now found.2 one.0
    (one.1 ∙ c.as_slice.ensures ∙ c.write_reply-text.ensures.value) said_on in
    absurd (c.says.ensures.never c.if-not-says.true w.text w.more w.are w.begins)

pub returns-else-not-says-clause-stops : goal.returns-else-not-says-clause-stops
returns-else-not-says-clause-stops g c = λ τ H texts history sees mid line f begins.
    let found = c.in-Some.ensures.found in
    let one = (rw c.in-Ok-Say.field-0-is at c.in-Ok-Say.ensures.asked) τ H texts history sees in
    let w = replaced_taken g.D.Extension g.D.TracedExtension.view g.D.TracedExtension.model c.laws.ensures.modelled c.laws.ensures.alike c.laws.ensures.ends g.D.TracedExtension.Fails c.laws.ensures.failures τ H (left_of c.args.rates.now) c.args.desk.now c.args.event.now c.args.step line mid f found.0 c.in-Some.failure found.1 (left_of c.take_reply.new.rates) (audit_of c.take_reply.new.auditor) c.take_reply.new.desk Say c.args.prefix.now found.2 one.0
    (one.1 ∙ c.as_slice.ensures ∙ c.write_reply-text.ensures.value) said_on in
    inl (c.end-in-Ok-Say.ensures.verdict, w.sees, w.like)
