use Rattle.std.proofs.Common.{ℕ, replicate, sym, ap, ◌∙◌}
use Rattle.host_jobs.specs.Payload.{mark_part}
use Rattle.host_jobs.proofs.JobBytes.{end_of}
use Rattle.host_jobs.proofs.payload.mark_in.Goals as goal

pub returns-then-is_zero-clause-value : goal.returns-then-is_zero-clause-value
unfolding mark_part
returns-then-is_zero-clause-value c =
    let end = end_of c.args.payload.now c.told-payload in
    ap (λ (n : ℕ). replicate n 0) (sym end.1) ∙ c.is_zero.ensures.0 c.if-is_zero.true ∙ end.0

pub returns-clause-value : goal.returns-clause-value
unfolding mark_part
returns-clause-value c = c.copy_from_slice.ensures.after ∙ (end_of c.args.payload.now c.told-payload).0
