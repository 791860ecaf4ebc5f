use Rattle.std.proofs.Common.{◌++◌, ◌∷◌, [], ◌∙◌, ap, List, ℕ, take}
use Rattle.script_text.specs.Summaries.{summary_text}
use Rattle.line_extensions.proofs.Texts.{cut_off}
use Rattle.script_replay.proofs.generate.put_summary.Goals as goal

pub returns-in-Err-clause-ends : goal.returns-in-Err-clause-ends
returns-in-Err-clause-ends g c = λ replies is.
    let w = c.in-Err.ensures.err in (
      take w.0 c.as_slice.result.now,
      cut_off _ _ w.0 w.1 (c.as_slice.ensures ∙ c.push.ensures ∙ ap (λ (t : List ℕ). t ++ 10 ∷ []) (c.write_summary-line.ensures.value ∙ ap (summary_text c.args.seed c.args.count) is)),
      w.2,
    )
