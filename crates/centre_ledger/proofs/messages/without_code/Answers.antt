use Rattle.std.proofs.Common.{sym, ap, ◌∙◌}
use Rattle.centre_ledger.specs.Payload.{uncoded}
use Rattle.centre_ledger.proofs.Notes.{uncoded_spell}
use Rattle.centre_ledger.proofs.messages.without_code.Goals as goal

pub returns-in-Some-clause-found : goal.returns-in-Some-clause-found
returns-in-Some-clause-found c =
    let found = c.in-Some.ensures.found in
    let is = c.write_message_by.ensures in
    ((c.in-Some.message, found.0, found.1, sym is), ap uncoded is ∙ uncoded_spell c.in-Some.message c.args.key.now found.0 ∙ found.2)

pub returns-in-None-clause-none : goal.returns-in-None-clause-none
returns-in-None-clause-none c =
    λ note spelled e.
    let x = spelled.0 in
    c.in-None.ensures.none x spelled.1 spelled.2 (sym (uncoded_spell x c.args.key.now spelled.1) ∙ ap uncoded spelled.3 ∙ e)
