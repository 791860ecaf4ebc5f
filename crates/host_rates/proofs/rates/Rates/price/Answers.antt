use Rattle.std.proofs.Common.{rules, subst, sym, ap, ◌≡◌, ℕ, Result, arith}
use Rattle.std.specs.Prelude.{IfOk}
use Rattle.bench_base.specs.declared.refusals.RateRefusal.{RateRefusal}
use Rattle.host_rates.specs.Tables.{RateTable, IsPrice, IsClass, IsRates, class_numbered}
use Rattle.host_rates.proofs.Sound.{IfSome-at, IfSome-find, price_in_bounds}
use Rattle.host_rates.proofs.rates.Rates.price.Goals as goal
use Rattle.host_rates.proofs.rates.Rates.price.Goals.{Else-zone-self}

-- the class that was found is one of these rates
found : (c : Else-zone-self) → IsClass c.args.self.now.zones c.in-Some.class.now
found c =
    let sound = subst IsRates c.self.view_is c.self.invariant in
    IfSome-at (IsClass c.args.self.now.zones) (class_numbered c.args.class c.args.self.now) c.in-Some.class.now (sym c.in-Some.ensures.exact)
    (IfSome-find _ (IsClass c.args.self.now.zones) c.args.self.now.classes sound.classes)

pub price-requires-clause-some : goal.price-requires-clause-some
price-requires-clause-some c = (found c).few.0

pub price-requires-clause-priced : goal.price-requires-clause-priced
price-requires-clause-priced c k d within =
    let same : c.self.inside.zones ≡ c.args.self.now.zones = ap (λ (r : RateTable). r.zones) c.self.view_is in
    omega (arith, ((found c).steps k d within).each_zone)

pub returns-clause-exact : goal.returns-clause-exact
returns-clause-exact c = search rules

pub returns-clause-range : goal.returns-clause-range
returns-clause-range c =
    subst (λ (r : Result ℕ RateRefusal). IfOk r IsPrice) (sym (returns-clause-exact c))
    (price_in_bounds c.args.class c.args.grams c.args.zone c.args.self.now (subst IsRates c.self.view_is c.self.invariant))
