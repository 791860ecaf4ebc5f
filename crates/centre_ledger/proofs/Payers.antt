-- The row of a device and of the customer who pays, as the books have them.
use Rattle.std.proofs.Common.{◌≡◌, ℕ, Option, Some, None, refl, sym, subst, arith}
use Rattle.std.specs.Prelude.{IfSome}
use Rattle.bench_base.specs.Ranges.{IsCustomer, IsDevice}
use Rattle.psd_wire.specs.declared.message.Request.{Request}
use Rattle.ledger_terms.specs.Rulings.{payer}
use Rattle.centre_ledger.specs.declared.{rows.DeviceRow.DeviceRow, rows.CustomerRow.CustomerRow}
use Rattle.centre_ledger.specs.Soundness.{IsPayer}
use Rattle.centre_ledger.specs.Rows.{enrolled_in}
use Rattle.centre_ledger.specs.Books.{Books, device_at, customer_at, IsDeviceOf, IsCustomerAt, IsOwned, AreSound}
use Rattle.centre_ledger.specs.Acts.{in_books, payer_in}
use Rattle.centre_ledger.proofs.Places.{in_place, some_within}

pub found_device : (b : Books) (d : ℕ) (r : DeviceRow) → AreSound b → device_at b d ≡ Some r → IsDeviceOf d r × IsDevice d
found_device b d r sound at =
    let within = some_within b.devices d r at in
    let count = sound.placed.device_count in
    (subst (λ o. IfSome o (IsDeviceOf d)) at (sound.placed.devices d), (within.0, omega arith))

-- its customer is open, once it was enrolled
pub found_owned : (b : Books) (d : ℕ) (r : DeviceRow) → AreSound b → device_at b d ≡ Some r → IsOwned b.customers r
found_owned b d r sound at = subst (λ o. IfSome o (IsOwned b.customers)) at (in_place (λ o. IfSome o (IsOwned b.customers)) b.devices d tt sound.joined.owned)

pub found_customer : (b : Books) (w : ℕ) (r : CustomerRow) → AreSound b → customer_at b w ≡ Some r → IsCustomerAt w r × IsCustomer w
found_customer b w r sound at =
    let within = some_within b.customers w r at in
    let count = sound.placed.customer_count in
    (subst (λ o. IfSome o (IsCustomerAt w)) at (sound.placed.customers w), (within.0, omega arith))

pub payer_is : (b : Books) (r : DeviceRow) (q : Request) → AreSound b → IsPayer r q (payer_in (in_books b) r q)
payer_is b r q sound = go (payer_in (in_books b) r q) refl
  where
    go : (o : Option CustomerRow) → payer_in (in_books b) r q ≡ o → IsPayer r q o
    go None at = tt
    go (Some c) at =
        let found = found_customer b (payer q (enrolled_in r)) c sound at in
        (found.0.customer, subst IsCustomer (sym found.0.customer) found.1)
