use Rattle.std.proofs.lemmas.List.Elements.{recursion_from_All}
use Rattle.script_text.specs.Texts.{text_of}
use Rattle.line_runs.proofs.Held.{from_all}
use Rattle.trace_runs.proofs.Exact.{exact}
use Rattle.trace_runs.proofs.laws.audits_are_exact.Goals as goal

pub returns : goal.returns
returns c = λ v script report rates old new says.
    exact c.one_reply.ensures.law (λ r whole. from_all (text_of r) (recursion_from_All _ (text_of r) (c.one_line.ensures.law r whole))) v script report rates old new says
