use Rattle.std.proofs.Common.{sum_by, ap, ◌∙◌, arith}
use Rattle.centre_ledger.specs.Rows.{buys_in, returns_in}
use Rattle.centre_ledger.proofs.balances.balance_of.Goals as goal

pub returns : goal.returns
returns c =
    let bought = c.sums_of-bought.ensures.bought ∙ ap (λ w. sum_by (buys_in w) c.args.devices.now) c.get.ensures.value in
    let returned = c.sums_of-bought.ensures.returned ∙ ap (λ w. sum_by (returns_in w) c.args.devices.now) c.get.ensures.value in
    record { exact = omega (arith, bought, returned, c.in_ok-balance.ensures.0, c.in_ok-balance.ensures.1, c.from.ensures) }
