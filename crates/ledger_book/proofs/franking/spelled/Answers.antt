use Rattle.std.proofs.Common.{◌∙◌, sym, ap}
use Rattle.indicium.specs.Marks.{spell}
use Rattle.ledger_terms.specs.Franking.{key_or_none}
use Rattle.ledger_book.proofs.Marks.{spell_no_key}
use Rattle.ledger_book.proofs.franking.spelled.Goals as goal

pub returns-in-None : goal.returns-in-None
returns-in-None c =
    c.write_indicium-in-None.ensures ∙ (sym (spell_no_key c.args.mark.now) ∙ ap (λ k. spell c.args.mark.now (key_or_none k)) (sym c.in-None.is))
