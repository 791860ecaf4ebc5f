use Rattle.std.proofs.Common.{sym, ◌∙◌, true≢false}
use Rattle.std.proofs.Math.Logic.{∥∥₁_elim}
use Rattle.host_jobs.proofs.soundness.holds.Goals as goal

none : IsProp ⊥
none = hlevel

pub returns-else-is_mark_of : goal.returns-else-is_mark_of
returns-else-is_mark_of c = (λ t. absurd (true≢false (sym t ∙ c.if-is_mark_of.false)), λ h. absurd (∥∥₁_elim h.mark none (λ m. true≢false (sym (c.is_mark_of.ensures.1 m) ∙ c.if-is_mark_of.false))))
