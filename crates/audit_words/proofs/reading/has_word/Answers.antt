use Rattle.std.proofs.Common.{true≢false, below_more, refl, sym, ◌∙◌, arith}
use Rattle.std.specs.Prelude.{string_bytes}
use Rattle.audit_words.proofs.AmongWords.{found_at, other_at, not_among}
use Rattle.audit_words.proofs.reading.has_word.Goals as goal

pub returns-then-is_word : goal.returns-then-is_word
returns-then-is_word c =
    (λ yes. found_at string_bytes c.args.words.now c.args.wanted.now c.loop-at.at c.index-words-at.result (omega arith) c.index-words-at.is (c.is_word.ensures.0 c.if-is_word.true), λ has. refl)

pub loop-at-preserved : goal.loop-at-preserved
loop-at-preserved c = below_more _ _ c.loop-at.invariant (
    other_at string_bytes c.args.words.now c.args.wanted.now c.loop-at.at c.index-words-at.result (omega arith) c.index-words-at.is (λ same. true≢false (sym (c.is_word.ensures.1 same) ∙ c.if-is_word.false)))

pub returns : goal.returns
returns c = (λ yes. absurd (true≢false (sym yes)), λ has. absurd (not_among string_bytes c.args.words.now c.args.wanted.now c.loop-at.at (omega arith) c.loop-at.invariant has))
