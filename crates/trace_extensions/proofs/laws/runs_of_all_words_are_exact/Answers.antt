use Rattle.std.proofs.lemmas.List.Elements.{recursion_from_All}
use Rattle.script_text.specs.Texts.{text_of}
use Rattle.line_runs.proofs.Held.{from_all}
use Rattle.trace_extensions.proofs.AllRuns.{words_exact}
use Rattle.trace_extensions.proofs.laws.runs_of_all_words_are_exact.Goals as goal

pub returns : goal.returns
returns c start beside audits are =
    words_exact c.one_reply.ensures.law (λ r whole. from_all (text_of r) (recursion_from_All _ (text_of r) (c.one_line.ensures.law r whole))) c.histories.ensures.today
    start beside audits are
