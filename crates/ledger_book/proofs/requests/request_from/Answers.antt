use Rattle.std.proofs.Common.{Ok, ◌∙◌, sym, ap, arith}
use Rattle.ledger_book.proofs.Amounts.{read_amount}
use Rattle.ledger_book.proofs.requests.request_from.Goals as goal

pub returns-in-Ok-Request-clause-small : goal.returns-in-Ok-Request-clause-small
returns-in-Ok-Request-clause-small c =
    read_amount c.args.bytes.now c.in-Ok-Request.request (λ i. omega (arith, c.type_inv.bytes i)) (sym c.in-Ok-Request.ensures.exact ∙ ap Ok c.in-Ok-Request.field-0-is)
