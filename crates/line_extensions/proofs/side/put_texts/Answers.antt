use Rattle.std.proofs.Common.{ℕ, ◌++◌, ◌<◌, length, ◌∙◌, sym, subst, List, take, flat_map, arith}
use Rattle.std.proofs.KnownBytes.{Appends-trans}
use Rattle.std.specs.Io.KnownBytes.{Appends}
use Rattle.line_runs.specs.Lines.{ended, IsCutOff}
use Rattle.line_extensions.proofs.Texts.{more_texts, texts_cut}
use Rattle.line_extensions.proofs.side.put_texts.Goals as goal

pub returns-in-Err-clause-err : goal.returns-in-Err-clause-err
returns-in-Err-clause-err g c =
    let w = c.in-Err.ensures.err in
    let line = c.as_slice.ensures ∙ c.push.ensures in (
      flat_map ended (take c.loop-number.number (g.D.Extension.texts c.args.desk.now)) ++ take w.0 c.as_slice.result.now,
      Appends-trans _ _ _ _ _ c.loop-number.invariant.written w.2,
      subst (λ (l : List ℕ). IsCutOff (flat_map ended (take c.loop-number.number (g.D.Extension.texts c.args.desk.now)) ++ take w.0 l) (flat_map ended (g.D.Extension.texts c.args.desk.now))) (sym line)
          (texts_cut (g.D.Extension.texts c.args.desk.now) c.loop-number.number w.0 c.put.new.line c.put.ensures.text (subst (λ (l : List ℕ). w.0 < length l) line w.1)),
    )

pub loop-number-preserved : goal.loop-number-preserved
loop-number-preserved g c = record {
  written = subst (Appends (g.K.Sink.taken c.args.report.now) (g.K.Sink.taken c.put_text.new.sink)) (sym (more_texts (g.D.Extension.texts c.args.desk.now) c.loop-number.number c.put.new.line c.put.ensures.text))
      (subst (λ (l : List ℕ). Appends (g.K.Sink.taken c.args.report.now) (g.K.Sink.taken c.put_text.new.sink) (flat_map ended (take c.loop-number.number (g.D.Extension.texts c.args.desk.now)) ++ l)) (c.as_slice.ensures ∙ c.push.ensures)
      (Appends-trans _ _ _ _ _ c.loop-number.invariant.written c.in-Ok.ensures.ok));
  later = omega (arith, c.loop-number.invariant.later, c.in-Ok.ensures.cause.later);
}
