use Rattle.std.proofs.Common.{◌≡◌, List, ℕ, Some, None, Result, Ok, Err, ap, subst}
use Rattle.std.specs.Prelude.{IfOk}
use Rattle.bench_base.specs.declared.events.Event.{Event}
use Rattle.bench_base.specs.Events.{IsWholeEvent}
use Rattle.script_text.specs.Grammar.{Spells}
use Rattle.script_words.specs.declared.word.LineFault.{LineFault}
use Rattle.line_runs.specs.declared.status.Status.TheVariants as status
use Rattle.line_runs.specs.declared.status.SideStatus.TheVariants.{Run}
use Rattle.line_extensions.specs.Events.{IsLineOf}
use Rattle.line_extensions.proofs.Doing.{skipped, answered, broken, plain}
use Rattle.line_extensions.proofs.side.AtBenchLineHandler.do_line.Goals as goal

read_as : (line : List ℕ) (r : Result Event LineFault) (e : Event) → r ≡ Ok e → IfOk r (λ e. IsWholeEvent e × Spells e line) → IsLineOf e line
read_as line (Ok x) e is found = let same : x ≡ e = cc in subst (λ (y : Event). IsLineOf y line) same (record { whole = found.0; spells = found.1 })
read_as line (Err fault) e is found = absurd (cc is)

pub returns-then-is_skipped-clause-done : goal.returns-then-is_skipped-clause-done
returns-then-is_skipped-clause-done g c =
    skipped g.D.Extension g.B.Stepper.Steps g.B.Stepper.Wants c.args.number c.args.line.now _ (g.K.Sink.taken c.args.report.now) (c.is_skipped.ensures.0 c.if-is_skipped.true)

pub returns-in-Stop-clause-done : goal.returns-in-Stop-clause-done
returns-in-Stop-clause-done g c =
    let w = rw c.in-Ok-Some.field-0-is at c.in-Ok-Some.ensures.own in
    let a = c.ask_all.ensures.asked in
    broken g.D.Extension g.B.Stepper.Steps g.B.Stepper.Wants c.args.number c.args.line.now _ _ c.begin-begun.new.self _ (g.K.Sink.taken c.args.report.now) w.0 c.in-Ok-Some.first c.ask_all.result a.0 w.1 w.2 a.1 c.in-Stop.is

pub returns-in-Ok-clause-done : goal.returns-in-Ok-clause-done
returns-in-Ok-clause-done g c =
    let w = rw c.in-Ok-Some.field-0-is at c.in-Ok-Some.ensures.own in
    let a = c.ask_all.ensures.asked in
    answered g.D.Extension g.B.Stepper.Steps g.B.Stepper.Wants c.args.number c.args.line.now None _ _ c.begin-begun.new.self _ (g.K.Sink.taken c.args.report.now) _ w.0 c.in-Ok-Some.first c.ask_all.result a.0 w.1 w.2 a.1 c.in-Say.is
    (tt, c.in-Ok.ensures.ok)

pub returns-in-Err-put_texts-clause-done : goal.returns-in-Err-put_texts-clause-done
returns-in-Err-put_texts-clause-done g c =
    let w = rw c.in-Ok-Some.field-0-is at c.in-Ok-Some.ensures.own in
    let a = c.ask_all.ensures.asked in
    answered g.D.Extension g.B.Stepper.Steps g.B.Stepper.Wants c.args.number c.args.line.now (Some (Run status.WriteFault)) _ _ c.begin-begun.new.self _ (g.K.Sink.taken c.args.report.now) _ w.0 c.in-Ok-Some.first c.ask_all.result a.0 w.1 w.2 a.1
    c.in-Say.is c.in-Err-put_texts.ensures.err

pub returns-in-Ok-read_event-clause-done : goal.returns-in-Ok-read_event-clause-done
returns-in-Ok-read_event-clause-done g c =
    let w = rw c.in-Ok-None.field-0-is at c.in-Ok-None.ensures.passes in
    plain g.D.Extension g.B.Stepper.Steps g.B.Stepper.Wants c.args.number c.args.line.now c.do_plain.result _ _ _ c.begin-begun.new.self _ (g.K.Sink.taken c.args.report.now) _ c.in-Ok-read_event.event
    (read_as c.args.line.now c.read_event.result c.in-Ok-read_event.event c.in-Ok-read_event.is c.read_event.ensures.found) w.0 w.2 c.do_plain.ensures.done
    (λ is. let m = c.do_plain.ensures.memory is in (m.0, m.1, ap g.K.Sink.taken m.2, m.3))
