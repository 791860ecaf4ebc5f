use Rattle.std.proofs.Common.{sym, ◌≤◌, length}
use Rattle.host_rates.specs.Tables.{step_for}
use Rattle.host_rates.proofs.Sound.{IfSome-at, IfSome-find}
use Rattle.host_rates.proofs.rates.Class.price.Goals as goal

pub price-requires : goal.price-requires
price-requires c =
    let there = IfSome-at _ (step_for c.args.grams c.args.self.now.steps) c.in-Some.step.now (sym c.in-Some.ensures.exact)
    (IfSome-find _ (λ s. c.args.zone ≤ length s.mills) c.args.self.now.steps c.requires.priced) in
    record { zone = (c.requires.zone, there) }
