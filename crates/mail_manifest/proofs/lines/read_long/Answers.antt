use Rattle.std.proofs.Common.{sym, ◌∙◌, true≢false}
use Rattle.mail_manifest.proofs.Reading.{none_long, some_word}
use Rattle.mail_manifest.proofs.lines.read_long.Goals as goal

pub returns-clause-none : goal.returns-clause-none
returns-clause-none c =
    none_long c.args.word.now _
    (λ is. true≢false (sym (c.is_word.ensures.1 is) ∙ c.if-is_word.false))
    (λ is. true≢false (sym (c.is_word-2.ensures.1 is) ∙ c.if-is_word-2.false))
    (λ is. true≢false (sym (c.is_word-3.ensures.1 is) ∙ c.if-is_word-3.false))
    (some_word c.args.rest.now)
