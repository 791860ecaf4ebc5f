use Rattle.trace_runs.specs.Reads.{OfTexts}
use Rattle.trace_runs.specs.Verdicts.{Audited}
use Rattle.trace_runs.proofs.WasRead.{told_all}
use Rattle.trace_runs.proofs.laws.audits_read_all.Goals as goal

pub returns : goal.returns
returns c v script report rates script_left report_left old new before after a =
    let of_script = told_all script script_left a.script (λ text lines. OfTexts a.report (λ answers told. Audited v text answers rates old new before after)) a.so in
    (told_all report report_left a.report (λ answers told. Audited v script answers rates old new before after) of_script.1).1
