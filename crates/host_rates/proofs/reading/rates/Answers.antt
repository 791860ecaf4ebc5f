use Rattle.std.proofs.Common.{◌≡◌, Some, arith}
use Rattle.toml.specs.View.{view}
use Rattle.host_rates.specs.Reading.{whole}
use Rattle.host_rates.proofs.Sound.{rates_sound}
use Rattle.host_rates.proofs.reading.rates.Goals as goal

pub new-requires : goal.new-requires
new-requires c =
    let zones_are : whole 9 (view c.in_ok-zones.zones.now) ≡ Some c.in_ok-zones-2.zones = grind arith in
    rates_sound (view c.in_ok-zones.zones.now) (view c.in_ok-zones.class.now) c.in_ok-zones-2.zones c.in_ok-classes.classes.items zones_are c.in_ok-classes.ensures.exact
