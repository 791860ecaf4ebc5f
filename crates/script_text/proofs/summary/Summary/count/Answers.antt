use Rattle.std.proofs.Common.{sym, ap, ◌∙◌}
use Rattle.script_text.specs.Summaries.{column_of, one_in, together}
use Rattle.script_text.proofs.Tallies.{tally_push}
use Rattle.script_text.proofs.summary.Summary.count.Goals as goal

pub returns-clause-replies : goal.returns-clause-replies
returns-clause-replies c = λ replies is.
    c.add.ensures.added ∙ ap (λ s. together s (one_in (column_of c.args.reply.now))) is ∙ sym (tally_push replies c.args.reply.now)
