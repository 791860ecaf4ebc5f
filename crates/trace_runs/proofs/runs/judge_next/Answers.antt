use Rattle.std.proofs.lemmas.List.Elements.{recursion_from_All}
use Rattle.script_text.specs.Texts.{text_of}
use Rattle.line_runs.proofs.Held.{from_all}
use Rattle.trace_runs.proofs.AllRuns.{judges_next}
use Rattle.trace_runs.proofs.runs.judge_next.Goals as goal

pub returns-clause-next : goal.returns-clause-next
returns-clause-next g c =
    judges_next c.one_reply.ensures.law (λ r whole. from_all (text_of r) (recursion_from_All _ (text_of r) (c.one_line.ensures.law r whole))) c.histories.ensures.today
    _ _ _ _ _ _ _ _ _ _ c.audit_run.ensures.audited
