use Rattle.std.proofs.Common.{◌∙◌}
use Rattle.statement_check.proofs.Answering.{told, cut, answered}
use Rattle.statement_check.proofs.run.run_recompute.Goals as goal

pub returns-in-Ok-put_text-clause-ran : goal.returns-in-Ok-put_text-clause-ran
returns-in-Ok-put_text-clause-ran g c = λ other. told c.in-Ok.verdict c.status.result _ _ _ _ _ c.in-Ok.ensures.judged c.status.ensures (c.as_slice.ensures ∙ c.put.ensures) c.in-Ok-put_text.ensures.ok

pub returns-in-Ok-put_text-clause-exact : goal.returns-in-Ok-put_text-clause-exact
returns-in-Ok-put_text-clause-exact g c = answered c.in-Ok.verdict c.status.result _ _ _ _ _ c.in-Ok.ensures.judged c.status.ensures (c.as_slice.ensures ∙ c.put.ensures) c.in-Ok-put_text.ensures.ok

pub returns-in-Err-put_text-clause-ran : goal.returns-in-Err-put_text-clause-ran
returns-in-Err-put_text-clause-ran g c = λ other. cut c.in-Ok.verdict _ _ _ _ _ c.in-Ok.ensures.judged (c.as_slice.ensures ∙ c.put.ensures) c.in-Err-put_text.ensures.err
