use Rattle.std.proofs.Common.{inl, inr, ℕ, [], true≢false, refl, sym, ap, ◌∙◌}
use Rattle.bench_base.specs.declared.words.Node.TheVariants.{Host}
use Rattle.std.specs.Prelude.{codes}
use Rattle.trace_bench.specs.Stopping.{IsPrefixOf}
use Rattle.script_text.proofs.EachReply.{one_reply_of}
use Rattle.trace_extensions.specs.DepartmentsModel.{DepartmentsFail, departments_model}
use Rattle.trace_extensions.proofs.DepartmentsModel.{departments_tells}
use Rattle.trace_extensions.proofs.Settled.{settled_by, begins_failing, is_failing, none_begins, told_none, idle_say, still_by}
use Rattle.trace_extensions.proofs.Rests.{departments_rest}
use Rattle.host_departments.specs.Texts.{said_texts, quota_text}
use Rattle.line_extensions.specs.declared.extension.Next.TheVariants.{Say}
use Rattle.trace_extensions.proofs.words.DepartmentsTracedExtension.is_in_doubt.Goals as goal

quota_begins : (d q : ℕ) → IsPrefixOf (codes "quota ") (quota_text d q)
unfolding quota_text
quota_begins d q = (_, refl)

pub returns-in-Step-clause-settled : goal.returns-in-Step-clause-settled
returns-in-Step-clause-settled g c = λ no τ old new line text more steps did first desk are begins.
    settled_by DepartmentsFail (departments_model.texts new.desk) text c.args.prefix.now more steps are
    (λ n x fails. true≢false (sym (c.begins_failure.ensures.1 (begins_failing Host text c.args.prefix.now x begins fails)) ∙ no))
    (λ n x fails. true≢false (sym (c.begins_failure.ensures.1 (is_failing Host c.args.prefix.now x fails)) ∙ no)) (departments_tells one_reply_of τ old new line steps did)

pub returns-in-Step-clause-idle : goal.returns-in-Step-clause-idle
returns-in-Step-clause-idle g c = λ no none τ old new line steps next did first desk.
    absurd (true≢false (sym (c.begins_failure.ensures.1 (none_begins Host c.args.prefix.now none)) ∙ no))

pub returns-then-is_empty-clause-settled : goal.returns-then-is_empty-clause-settled
returns-then-is_empty-clause-settled g c = λ no τ old new line text more steps did first desk are begins.
    told_none departments_model τ old new line steps c.args.first.now DepartmentsFail c.args.prefix.now Say did first c.in-Say.is

pub returns-then-is_empty-clause-idle : goal.returns-then-is_empty-clause-idle
returns-then-is_empty-clause-idle g c = λ no none τ old new line steps next did first desk.
    let still = still_by did.first c.args.first.now first c.in-Say.is in
    idle_say departments_model τ old new line steps c.args.first.now next did first c.in-Say.is
    (elim (departments_rest old.desk did.desk did.first still did.begins.0 did.begins.3) [
      | inl same ↦ same
      | inr answered ↦ absurd (c.says.ensures.never no (quota_text answered.0 answered.1) [] (ap (λ k. said_texts k.said) (sym desk) ∙ ap (λ s. said_texts s) answered.2) (quota_begins answered.0 answered.1))
    ])

pub returns-else-is_empty-clause-settled : goal.returns-else-is_empty-clause-settled
returns-else-is_empty-clause-settled g c = λ no τ old new line text more steps did first desk are begins.
    told_none departments_model τ old new line steps c.args.first.now DepartmentsFail c.args.prefix.now Say did first c.in-Say.is
