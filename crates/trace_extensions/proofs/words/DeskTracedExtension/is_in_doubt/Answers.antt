use Rattle.std.proofs.Common.{true≢false, sym, ◌∙◌}
use Rattle.bench_base.specs.declared.words.Node.TheVariants.{Verifier}
use Rattle.script_text.proofs.EachReply.{one_reply_of}
use Rattle.trace_extensions.specs.ClaimsModel.{ClaimFails, claims_model}
use Rattle.trace_extensions.proofs.ClaimsModel.{claims_tells}
use Rattle.trace_extensions.proofs.Settled.{settled_by, begins_failing, is_failing, none_begins, told_none, idle_say, still_by}
use Rattle.trace_extensions.proofs.Rests.{claims_rest}
use Rattle.line_extensions.specs.declared.extension.Next.TheVariants.{Say}
use Rattle.trace_extensions.proofs.words.DeskTracedExtension.is_in_doubt.Goals as goal

pub returns-in-Step-clause-settled : goal.returns-in-Step-clause-settled
returns-in-Step-clause-settled g c = λ no τ old new line text more steps did first desk are begins.
    settled_by ClaimFails (claims_model.texts new.desk) text c.args.prefix.now more steps are
    (λ n x fails. true≢false (sym (c.begins_failure.ensures.1 (begins_failing Verifier text c.args.prefix.now x begins fails)) ∙ no))
    (λ n x fails. true≢false (sym (c.begins_failure.ensures.1 (is_failing Verifier c.args.prefix.now x fails)) ∙ no)) (claims_tells one_reply_of τ old new line steps did)

pub returns-in-Step-clause-idle : goal.returns-in-Step-clause-idle
returns-in-Step-clause-idle g c = λ no none τ old new line steps next did first desk.
    absurd (true≢false (sym (c.begins_failure.ensures.1 (none_begins Verifier c.args.prefix.now none)) ∙ no))

pub returns-in-Say-clause-settled : goal.returns-in-Say-clause-settled
returns-in-Say-clause-settled g c = λ no τ old new line text more steps did first desk are begins.
    told_none claims_model τ old new line steps c.args.first.now ClaimFails c.args.prefix.now Say did first c.in-Say.is

pub returns-in-Say-clause-idle : goal.returns-in-Say-clause-idle
returns-in-Say-clause-idle g c = λ no none τ old new line steps next did first desk.
    let still = still_by did.first c.args.first.now first c.in-Say.is in
    idle_say claims_model τ old new line steps c.args.first.now next did first c.in-Say.is (claims_rest old.desk did.desk did.first still did.begins.0 did.begins.2)
