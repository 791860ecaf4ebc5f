-- Sound books show what their commits show.
use Rattle.std.proofs.Common.{◌≡◌, ℕ, List, Option, Some, None, option_map, refl, sym, ap, subst, ◌∙◌}
use Rattle.bench_base.specs.declared.ledger.Commit.{Commit}
use Rattle.centre_ledger.specs.declared.{rows.DeviceRow.DeviceRow, standing.Standing.Standing}
use Rattle.centre_ledger.specs.Acts.{standing_of}
use Rattle.centre_ledger.specs.ActLaws.{ActsArePlanned}
use Rattle.centre_ledger.specs.Books.{device_at, customer_at}
use Rattle.centre_ledger.specs.Laws.{IsSlotOf}
use Rattle.centre_ledger.specs.Order.{InOrder}
use Rattle.centre_ledger.specs.Plans.{shown_standing}
use Rattle.centre_ledger.proofs.ByCommits.{one_device, one_customer}
use Rattle.centre_ledger.proofs.Paying.{left_is}
use Rattle.centre_ledger.proofs.Standings.{standing}

stands : (o : Option DeviceRow) (d : ℕ) (C : List Commit) → InOrder C → IsSlotOf o d C → option_map standing_of o ≡ shown_standing d C
stands None d C order is = rw is refl
stands (Some r) d C order is =
    subst (λ e. Some (standing_of r) ≡ shown_standing e C) is.0
    (ap (λ (a : Standing). Some a) (sym (standing r C order is.1 is.2).standing) ∙ (rw is.2.registered refl))

pub planned : ActsArePlanned
planned b C s books = λ i. record {
  device = λ d. sym (one_device (device_at b d) d C (books.devices d)) i;
  customer = λ w. sym (one_customer (customer_at b w) w C (books.customers w)) i;
  left = λ w. left_is b C s books w i;
  standing = λ d. stands (device_at b d) d C books.order (books.devices d) i;
}
