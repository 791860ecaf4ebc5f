use Rattle.std.proofs.Common.{◌≡◌, ◌≢◌, Some, Result, Ok, Err, sym, ◌∙◌, subst}
use Rattle.std.specs.Prelude.{IfOk}
use Rattle.script_text.specs.Texts.{IsWholeReply}
use Rattle.bench_base.specs.declared.events.Event.TheVariants as ends
use Rattle.bench_base.specs.declared.events.Reply.{Reply}
use Rattle.line_extensions.specs.Trace.{line_of}
use Rattle.line_runs.specs.Turns.{Reported}
use Rattle.line_runs.specs.declared.status.SideStatus.TheVariants.{Run}
use Rattle.line_runs.specs.declared.status.Status.TheVariants as status
use Rattle.script_replay.specs.SideLaws.{told}
use Rattle.script_replay.proofs.run.do_event.Goals as goal

at_ok : {A E : Type 0} (P : A → Type 0) (r : Result A E) (a : A) → r ≡ Ok a → IfOk r P → P a
at_ok P (Ok x) a is p = subst P (cc) p
at_ok P (Err fail) a is p = absurd (cc is)

pub returns-in-Err-put_line-clause-done : goal.returns-in-Err-put_line-clause-done
returns-in-Err-put_line-clause-done g c = λ other.
    let w = at_ok _ c.step-told.result c.in-Ok.reply c.in-Ok.is c.step-told.ensures.did in
    let same = w.4 ∙ sym (told _ _ _ w.0 w.1 w.3) in (
      w.0,
      w.2,
      w.3.0,
      subst (λ (r : Reply). IsWholeReply r) same c.put_line.ensures.whole,
      subst (λ (r : Reply). Reported (Some (Run status.WriteFault)) (c.args.event.now ≢ ends.End) (c.args.event.now ≡ ends.End) ⊥ (line_of r) (g.K.Sink.taken c.args.report.now) (g.K.Sink.taken c.put_line.new.report)) same
          c.in-Err-put_line.ensures.err,
    )
