use Rattle.std.proofs.lemmas.List.Elements.{recursion_from_All}
use Rattle.script_text.specs.Texts.{text_of}
use Rattle.line_runs.proofs.Held.{from_all}
use Rattle.trace_runs.proofs.OneVerdict.{one_verdict}
use Rattle.trace_runs.proofs.laws.one_verdict.Goals as goal

pub returns : goal.returns
returns c = λ v w script report rates old new other.
    one_verdict c.one_reply.ensures.law (λ r whole. from_all (text_of r) (recursion_from_All _ (text_of r) (c.one_line.ensures.law r whole))) v w script report rates old new other
