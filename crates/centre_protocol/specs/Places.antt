-- There is a place for each device and each customer.
use Rattle.std.specs.Prelude.{◌≡◌, length}
use Rattle.centre_ledger.specs.Books.{Books}

pub record HasPlaces (b : Books) : Type 0 where
  pub devices : length b.devices ≡ 8
  pub customers : length b.customers ≡ 64
