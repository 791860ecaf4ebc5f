use Rattle.std.proofs.Common.{sym, ap, subst, ◌∙◌}
use Rattle.centre_ledger.specs.Soundness.{IsPayer}
use Rattle.centre_ledger.specs.Books.{customer_at}
use Rattle.centre_ledger.proofs.Payers.{payer_is}
use Rattle.centre_ledger.proofs.taking.ruled_act.Goals as goal

pub ruled_on-next-requires-clause-verdict : goal.ruled_on-next-requires-clause-verdict
ruled_on-next-requires-clause-verdict c =
    let b = c.args.accounts.now in
    let r = c.args.row.now in
    let q = c.args.request.now in
    let same = c.customer.ensures.found ∙ ap (customer_at b) c.payer.ensures in
    (_, subst (IsPayer r q) (sym same) (payer_is b r q c.requires.sound), c.verdict-verdict.ensures.exact)
