use Rattle.std.proofs.Common.{◌≡◌, ◌≢◌, ◌⊎◌, inl, inr, ℕ, List, Option, Some, Result, Ok, Err, refl, sym, subst}
use Rattle.std.specs.Prelude.{IfOk}
use Rattle.bench_base.specs.declared.events.Event.{Event}
use Rattle.bench_base.specs.declared.events.Event.TheVariants as ev
use Rattle.bench_base.specs.Events.{IsWholeEvent}
use Rattle.script_text.specs.Grammar.{Spells}
use Rattle.script_words.specs.declared.word.LineFault.{LineFault}
use Rattle.line_extensions.specs.Trace.{line_of}
use Rattle.line_extensions.specs.Events.{IsLineOf}
use Rattle.line_runs.specs.Turns.{LineEnd, Reported}
use Rattle.line_runs.specs.declared.{status.SideStatus.SideStatus, status.SideStatus.TheVariants.Run}
use Rattle.line_runs.specs.declared.status.Status.TheVariants as status
use Rattle.script_replay.specs.ScriptLaws.{are_done}
use Rattle.script_replay.proofs.Chains.{did_one}
use Rattle.script_replay.proofs.OneLine.{line_skipped, line_done}
use Rattle.script_replay.proofs.run.do_line.Goals as goal

pub returns-then-is_skipped-clause-done : goal.returns-then-is_skipped-clause-done
returns-then-is_skipped-clause-done g c =
    LineEnd.did (line_skipped _ _ (are_done _) (λ b line. refl) _ c.args.line.now (g.K.Sink.taken c.args.report.now) (c.is_skipped.ensures.0 c.if-is_skipped.true))

wants_memory : (outcome : Option SideStatus) → (outcome ≡ Some (Run status.Memory)) ⊎ (outcome ≢ Some (Run status.Memory))
wants_memory (Some (Run status.Memory)) = inl refl
wants_memory _ = inr (λ is. cc)

read_as : (line : List ℕ) (r : Result Event LineFault) (e : Event) → r ≡ Ok e → IfOk r (λ e. IsWholeEvent e × Spells e line) → IsLineOf e line
read_as line (Ok x) e is found = let same : x ≡ e = cc in subst (λ (y : Event). IsLineOf y line) same (record { whole = found.0; spells = found.1 })
read_as line (Err fault) e is found = absurd (cc is)

pub returns-in-Ok-clause-done : goal.returns-in-Ok-clause-done
returns-in-Ok-clause-done g c =
    let found = read_as c.args.line.now c.read_event.result c.in-Ok.event c.in-Ok.is c.read_event.ensures.found in
    elim (wants_memory c.do_event.result) [
      | inl is ↦
          let w = c.do_event.ensures.memory is in
          LineEnd.wanted (record { outcome_is = is; wants = rw w.0 at found; leaves = w.1; report = rw w.2 refl })
      | inr other ↦
          let d = c.do_event.ensures.done other in
          LineEnd.did (line_done _ _ (are_done _) c.do_event.result _ _ _ _ c.args.line.now d.0 (subst (λ (e : Event). IsLineOf e c.args.line.now) (sym d.1) found) d.3
          (did_one _ _ _ d.0 d.2)
          (subst (λ (e : Event). Reported c.do_event.result (e ≢ ev.End) (e ≡ ev.End) ⊥ (line_of d.0.reply) (g.K.Sink.taken c.args.report.now) (g.K.Sink.taken c.do_event.new.report)) (sym d.1) d.4))
    ]
