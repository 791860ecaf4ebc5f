use Rattle.std.proofs.Common.{sym, ◌∙◌, true≢false}
use Rattle.spoil_claims.proofs.Reading.{none_of, claim_none, credits_none, others_none}
use Rattle.spoil_claims.proofs.lines.read_behind.Goals as goal
use Rattle.spoil_claims.proofs.lines.read_behind.Goals.{else-is_word-3-via-then-is_word-3+else-is_reserved, else-is_word-3-via-else-is_word-3}

pub returns-then-is_word-clause-none : goal.returns-then-is_word-clause-none
returns-then-is_word-clause-none c = none_of c.read_claim.result (claim_none c.args.line.now c.args.word.now c.args.rest.now c.requires.split (c.is_word.ensures.0 c.if-is_word.true)) c.read_claim.ensures.none

pub returns-then-is_word-2-clause-none : goal.returns-then-is_word-2-clause-none
returns-then-is_word-2-clause-none c = none_of c.read_credits.result (credits_none c.args.line.now c.args.word.now c.args.rest.now c.requires.split (c.is_word-2.ensures.0 c.if-is_word-2.true)) c.read_credits.ensures.none

pub returns-clause-none : goal.returns-clause-none
returns-clause-none c =
    others_none c.args.line.now c.args.word.now c.args.rest.now c.requires.split
    (λ is. true≢false (sym (c.is_word.ensures.1 is) ∙ c.if-is_word.false))
    (λ is. true≢false (sym (c.is_word-2.ensures.1 is) ∙ c.if-is_word-2.false))
    (λ is scan. elim c.else-is_word-3.branch [
      | else-is_word-3-via-then-is_word-3+else-is_reserved w ↦ true≢false (sym (w.is_reserved.ensures.1 scan) ∙ w.if-is_reserved.false)
      | else-is_word-3-via-else-is_word-3 w ↦ true≢false (sym (c.is_word-3.ensures.1 is) ∙ w.if-is_word-3.false)
    ])
