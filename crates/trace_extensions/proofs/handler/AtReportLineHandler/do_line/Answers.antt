use Rattle.std.proofs.Common.{◌≡◌, ◌<◌, ◌+◌, ◌-◌, ◌^◌, arith, List, ℕ, Result, Ok, Err, take, true≢false, refl, sym, ◌∙◌, subst}
use Rattle.std.specs.Prelude.{IfOk, min}
use Rattle.bench_base.specs.declared.events.Event.{Event}
use Rattle.bench_base.specs.Events.{IsWholeEvent}
use Rattle.script_text.specs.Grammar.{Spells}
use Rattle.script_words.specs.declared.word.LineFault.{LineFault}
use Rattle.line_extensions.specs.Events.{IsLineOf}
use Rattle.trace_bench.specs.Seeing.{audit_of}
use Rattle.trace_extensions.specs.Fits.{IsCutShort, IsOpen, IsUnbegun}
use Rattle.trace_extensions.specs.Rates.{left_of}
use Rattle.trace_extensions.proofs.Lined.{skipped, ends_without, untaken, unbegun, answered, own_stopped, heard}
use Rattle.trace_extensions.proofs.handler.AtReportLineHandler.do_line.Goals as goal

-- the count goes up by one
one_more : (before now : ℕ) → now ≡ min (before + 1) (2 ^ 32 - 1) → before + 1 < 2 ^ 32 → now ≡ before + 1
one_more before now is few = omega (arith, is, few)

-- and stays so
more_kept : (before now later : ℕ) → later ≡ now → (before + 1 < 2 ^ 32 → now ≡ before + 1) → before + 1 < 2 ^ 32 → later ≡ before + 1
more_kept before now later same one few = same ∙ one few

read_as : (line : List ℕ) (r : Result Event LineFault) (e : Event) → r ≡ Ok e → IfOk r (λ e. IsWholeEvent e × Spells e line) → IsLineOf e line
read_as line (Ok x) e is found = let same : x ≡ e = cc in subst (λ (y : Event). IsLineOf y line) same (record { whole = found.0; spells = found.1 })
read_as line (Err fault) e is found = absurd (cc is)

pub returns-then-is_skipped-clause-done : goal.returns-then-is_skipped-clause-done
returns-then-is_skipped-clause-done g c = skipped g.D.Extension g.D.TracedExtension.view g.D.TracedExtension.model c.laws.ensures.modelled c.laws.ensures.determined c.laws.ensures.alike g.met.D.Extension.alone c.args.number c.args.line.now _ _ (g.K.Sink.taken c.args._report.now) (one_more _ _ c.saturating_add-papers.ensures) (c.is_skipped.ensures.0 c.if-is_skipped.true)

pub returns-then-is_unbegun-clause-done : goal.returns-then-is_unbegun-clause-done
returns-then-is_unbegun-clause-done g c =
    let is = c.is_unbegun.ensures.0 c.if-is_unbegun.true in
    unbegun g.D.Extension g.D.TracedExtension.view g.D.TracedExtension.model c.laws.ensures.modelled c.laws.ensures.determined c.laws.ensures.alike g.met.D.Extension.alone c.args.number c.args.line.now _ _ (g.K.Sink.taken c.args._report.now) c.saturating_add-papers.result g.D.TracedExtension.Fails
    (λ τ old new own steps did. c.laws.ensures.tells τ old new own steps did) (λ skipped. true≢false (sym (c.is_skipped.ensures.1 skipped) ∙ c.if-is_skipped.false)) (more_kept _ _ _ c.own_unbegun.ensures.line (one_more _ _ c.saturating_add-papers.ensures)) (λ n is. c.own_unbegun.ensures.own_number n is ∙ sym c.own_unbegun.ensures.line) refl refl c.own_unbegun.ensures.reach
    (subst (λ r. IsUnbegun r c.saturating_add-papers.result) (sym c.own_unbegun.ensures.reach) is)
    (subst (λ r. IsOpen r c.own_unbegun.new.papers.verdict) (sym c.own_unbegun.ensures.reach) (c.own_unbegun.ensures.open is)) c.own_unbegun.ensures.only c.own_unbegun.ensures.stops c.own_unbegun.ensures.unstopped c.own_unbegun.ensures.in_own

pub returns-in-Err-clause-done : goal.returns-in-Err-clause-done
returns-in-Err-clause-done g c = ends_without g.D.Extension g.D.TracedExtension.view g.D.TracedExtension.model c.laws.ensures.modelled c.laws.ensures.determined c.laws.ensures.alike g.met.D.Extension.alone c.args.number c.args.line.now _ _ (g.K.Sink.taken c.args._report.now) (more_kept _ _ _ c.end.ensures.line (one_more _ _ c.saturating_add-papers.ensures)) refl c.end.ensures.reach (subst (λ v. IsCutShort v) (sym c.end.ensures.verdict) tt) (λ n is. absurd (cc (c.end.ensures.verdict, is)))
    (λ n is. absurd (cc (c.end.ensures.verdict, is)))

pub returns-then-own_line-clause-done : goal.returns-then-own_line-clause-done
returns-then-own_line-clause-done g c =
    let w = rw c.in-Ok-Some.field-0-is at c.in-Ok-Some.ensures.own in
    answered g.D.Extension g.D.TracedExtension.view g.D.TracedExtension.model c.laws.ensures.modelled c.laws.ensures.determined c.laws.ensures.alike g.met.D.Extension.alone c.args.number c.args.line.now _ _ (audit_of c.args.auditor.now) (audit_of c.own_line.new.auditor) (left_of c.args.rates.now) (left_of c.own_line.new.rates) c.args.desk.now
    c.begin-begun.new.self c.own_line.new.desk _ _ _ _ _ _ (g.K.Sink.taken c.args._report.now) w.0 c.in-Ok-Some.first g.D.TracedExtension.Fails (λ τ old new own steps did. c.laws.ensures.tells τ old new own steps did) (more_kept _ _ _ c.own_line.ensures.line (one_more _ _ c.saturating_add-papers.ensures)) c.own_line.ensures.kept w.1 w.2 (λ is. true≢false (sym (c.is_stop.ensures.1 is) ∙ c.if-is_stop.false)) c.own_line.ensures.reach
    (λ τ H texts history sees new text more told steps may next. rw c.if-own_line.true at c.own_line.ensures.only τ H texts history sees new text more told steps may next)
    (λ τ H texts history sees told report. rw c.if-own_line.true at c.own_line.ensures.stops τ H texts history sees told report) (c.own_line.ensures.asked c.if-own_line.true)
    (c.own_line.ensures.fits c.if-own_line.true) (c.own_line.ensures.texts c.if-own_line.true)

pub returns-else-own_line-clause-done : goal.returns-else-own_line-clause-done
returns-else-own_line-clause-done g c =
    let w = rw c.in-Ok-Some.field-0-is at c.in-Ok-Some.ensures.own in
    own_stopped g.D.Extension g.D.TracedExtension.view g.D.TracedExtension.model c.laws.ensures.modelled c.laws.ensures.determined c.laws.ensures.alike g.met.D.Extension.alone c.args.number c.args.line.now _ _ (audit_of c.args.auditor.now) (audit_of c.own_line.new.auditor) (left_of c.args.rates.now) (left_of c.own_line.new.rates) c.args.desk.now
    c.begin-begun.new.self c.own_line.new.desk _ _ _ _ _ _ (g.K.Sink.taken c.args._report.now) w.0 c.in-Ok-Some.first g.D.TracedExtension.Fails (λ τ old new own steps did. c.laws.ensures.tells τ old new own steps did) (more_kept _ _ _ c.own_line.ensures.line (one_more _ _ c.saturating_add-papers.ensures))
    (λ n is. c.own_line.ensures.number c.if-own_line.false n is ∙ sym c.own_line.ensures.line) (λ n is. c.own_line.ensures.own_number c.if-own_line.false n is ∙ sym c.own_line.ensures.line) c.own_line.ensures.kept w.1 w.2 (λ is. true≢false (sym (c.is_stop.ensures.1 is) ∙ c.if-is_stop.false)) c.own_line.ensures.reach
    (λ τ H texts history sees new text more told steps may next. rw c.if-own_line.false at c.own_line.ensures.only τ H texts history sees new text more told steps may next)
    (λ τ H texts history sees told report. rw c.if-own_line.false at c.own_line.ensures.stops τ H texts history sees told report)
    (c.own_line.ensures.stopped c.if-own_line.false) (c.own_line.ensures.in_own c.if-own_line.false)

pub returns-in-Some-clause-done : goal.returns-in-Some-clause-done
returns-in-Some-clause-done g c =
    let w = rw c.in-Ok-None.field-0-is at c.in-Ok-None.ensures.passes in
    heard g.D.Extension g.D.TracedExtension.view g.D.TracedExtension.model c.laws.ensures.modelled c.laws.ensures.determined c.laws.ensures.alike g.met.D.Extension.alone c.args.number c.args.line.now g.D.Heard.Tell.IsOf c.in-Some.answered.told _ _ (audit_of c.args.auditor.now) (audit_of c.answer.new.auditor) (left_of c.args.rates.now) (left_of c.answer.new.rates) c.args.desk.now
    c.see.new.self _ _ _ _ _ _ (g.K.Sink.taken c.args._report.now) c.in-Ok.event (take c.in-Some.answered.len c.answer.new.buf) c.ended_by.result (more_kept _ _ _ c.answer.ensures.line (one_more _ _ c.saturating_add-papers.ensures)) c.in-Some.ensures.one c.answer.ensures.reach c.in-Some.ensures.unstopped c.answer.ensures.kept
    (read_as c.args.line.now c.read_event.result c.in-Ok.event c.in-Ok.is c.read_event.ensures.found) w.0 (λ turn is. subst (λ x. g.D.Extension.Sees x c.in-Ok.event turn c.see.new.self) w.2 (c.see.ensures turn is)) c.in-Some.ensures.heard.0 c.in-Some.ensures.heard.1
    c.ended_by.ensures.goes_on c.ended_by.ensures.done

pub returns-in-None-clause-done : goal.returns-in-None-clause-done
returns-in-None-clause-done g c =
    let w = rw c.in-Ok-None.field-0-is at c.in-Ok-None.ensures.passes in
    untaken g.D.Extension g.D.TracedExtension.view g.D.TracedExtension.model c.laws.ensures.modelled c.laws.ensures.determined c.laws.ensures.alike g.met.D.Extension.alone c.args.number c.args.line.now _ _ (g.K.Sink.taken c.args._report.now) c.in-Ok.event c.saturating_add-papers.result (more_kept _ _ _ c.answer.ensures.line (one_more _ _ c.saturating_add-papers.ensures)) (λ n is. c.in-None.ensures.number n is ∙ sym c.answer.ensures.line) c.answer.ensures.kept c.answer.ensures.reach
    (read_as c.args.line.now c.read_event.result c.in-Ok.event c.in-Ok.is c.read_event.ensures.found) w.0 w.2 c.in-None.ensures.begun c.in-None.ensures.in_own c.in-None.ensures.missed c.in-None.ensures.stops

pub returns-then-is_stop-clause-done : goal.returns-then-is_stop-clause-done
returns-then-is_stop-clause-done g c = ends_without g.D.Extension g.D.TracedExtension.view g.D.TracedExtension.model c.laws.ensures.modelled c.laws.ensures.determined c.laws.ensures.alike g.met.D.Extension.alone c.args.number c.args.line.now _ _ (g.K.Sink.taken c.args._report.now) (more_kept _ _ _ c.end-then-is_stop.ensures.line (one_more _ _ c.saturating_add-papers.ensures)) refl c.end-then-is_stop.ensures.reach (subst (λ v. IsCutShort v) (sym c.end-then-is_stop.ensures.verdict) tt)
    (λ n is. absurd (cc (c.end-then-is_stop.ensures.verdict, is))) (λ n is. absurd (cc (c.end-then-is_stop.ensures.verdict, is)))
