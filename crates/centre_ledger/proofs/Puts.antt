-- A row that is put in its place leaves sound books, where it is sound and its customer can pay.
use Rattle.std.proofs.Common.{◌≡◌, ℕ, ◌+◌, ◌-◌, ◌<◌, ◌≤◌, List, length, length-set, get_or, set, Option, Some, None, refl, sym, ap, subst, ◌∙◌, ⊎_elim, arith}
use Rattle.std.specs.Prelude.{IfSome, IsSome, sum_by}
use Rattle.std.proofs.lemmas.Bool.{cases_eq}
use Rattle.bench_base.specs.Ranges.{IsCustomer, IsDevice, IsWord}
use Rattle.centre_ledger.specs.declared.{rows.DeviceRow.DeviceRow, rows.CustomerRow.CustomerRow, rows.Row.TheVariants.Device, rows.Row.TheVariants.Customer}
use Rattle.centre_ledger.specs.Rows.{enrolled_in, buys_in, returns_in}
use Rattle.centre_ledger.specs.Soundness.{IsSoundDevice, IsSoundCustomer}
use Rattle.centre_ledger.specs.Books.{Books, place_of, device_at, customer_at, put_row, left_in, deposits_in, IsCovered, IsOwned, IsDeviceOf, IsCustomerAt, AreSound}
use Rattle.centre_ledger.proofs.Places.{place_from_1, put_same, put_other, in_place, from_places}
use Rattle.centre_ledger.proofs.Payers.{found_customer}
use Rattle.centre_ledger.proofs.Kept.{sound_devices, nothing_bought, left_is, around}

-- a row is put into one place, and the others stay
pub put_all : {R : Type 0} (P : ℕ → Option R → Type 0) (rows : List (Option R)) (n : ℕ) (o : Option R) → 1 ≤ n → n ≤ length rows → P n o → ((m : ℕ) → (m ≡ n → ⊥) → P m (place_of rows m)) → (m : ℕ) → P m (place_of (set rows (n - 1) o) m)
put_all P rows n o from most here each m = ⊎_elim
    (λ (same : m ≡ n). subst (λ k. P k (place_of (set rows (n - 1) o) k)) (sym same) (subst (P n) (sym (put_same rows n o from most)) here))
    (λ (other : m ≡ n → ⊥). subst (P m) (sym (put_other rows n m o from other)) (each m other))
    (cases_eq m n)

-- what the row takes from its customer beyond the row before is there
pub record CanPay (b : Books) (r : DeviceRow) : Type 0 where
  pub owned : IsOwned b.customers r
  pub paid : (w : ℕ) (c : CustomerRow) → customer_at b w ≡ Some c
      → buys_in w (Some r) + returns_in w (device_at b r.device) ≤ left_in b w + buys_in w (device_at b r.device) + returns_in w (Some r)

pub device_put : (b : Books) (r : DeviceRow) → AreSound b → IsDevice r.device → IsWord r.origin → IsSoundDevice r → CanPay b r → AreSound (put_row b (Device r))
device_put b r sound device origin sound_r can = record {
  placed = record {
    device_count = length-set b.devices (r.device - 1) (Some r) ∙ sound.placed.device_count;
    customer_count = sound.placed.customer_count;
    devices = put_all (λ d o. IfSome o (IsDeviceOf d)) b.devices r.device (Some r) device.0 (omega (arith, sound.placed.device_count)) (record { device = refl; origin = origin; sound = sound_r }) (λ d other. sound.placed.devices d);
    customers = sound.placed.customers;
  };
  joined = record {
    owned = from_places (λ o. IfSome o (IsOwned b.customers)) (set b.devices (r.device - 1) (Some r))
        (put_all (λ d o. IfSome o (IsOwned b.customers)) b.devices r.device (Some r) device.0 (omega (arith, sound.placed.device_count)) can.owned
        (λ d other. in_place (λ o. IfSome o (IsOwned b.customers)) b.devices d tt sound.joined.owned));
    covered = from_places (λ o. IfSome o (IsCovered (set b.devices (r.device - 1) (Some r)))) b.customers (λ w. covered w (customer_at b w) refl);
  };
}
  where
    covered : (w : ℕ) (o : Option CustomerRow) → customer_at b w ≡ o → IfSome o (IsCovered (set b.devices (r.device - 1) (Some r)))
    covered w None at = tt
    covered w (Some c) at =
        let is = left_is b (left_in b w) w c sound at refl in
        let within : r.device - 1 < length b.devices = omega (arith, sound.placed.device_count) in
        let sums = around w b.devices r within (sound_devices b sound.placed) sound_r in
        let before = place_from_1 b.devices r.device device.0 in
        let buys : buys_in w (device_at b r.device) ≡ buys_in w (get_or b.devices (r.device - 1) None) = ap (buys_in w) before in
        let returns : returns_in w (device_at b r.device) ≡ returns_in w (get_or b.devices (r.device - 1) None) = ap (returns_in w) before in
        let own : w ≡ c.customer = sym (found_customer b w c sound at).0.customer in
        let here : sum_by (buys_in w) (set b.devices (r.device - 1) (Some r)) ≤ c.deposits + sum_by (returns_in w) (set b.devices (r.device - 1) (Some r)) =
        omega (arith, can.paid w c at, is.sum, sums.bought, sums.returned, sums.bought_then, sums.returned_then) in
        subst (λ v. sum_by (buys_in v) (set b.devices (r.device - 1) (Some r)) ≤ c.deposits + sum_by (returns_in v) (set b.devices (r.device - 1) (Some r))) own here

-- a customer that has deposited no less than before
pub customer_put : (b : Books) (r : CustomerRow) → AreSound b → IsCustomer r.customer → IsSoundCustomer r → deposits_in (customer_at b r.customer) ≤ r.deposits → AreSound (put_row b (Customer r))
customer_put b r sound in_w sound_r more = record {
  placed = record {
    device_count = sound.placed.device_count;
    customer_count = length-set b.customers (r.customer - 1) (Some r) ∙ sound.placed.customer_count;
    devices = sound.placed.devices;
    customers = put_all (λ w o. IfSome o (IsCustomerAt w)) b.customers r.customer (Some r) in_w.0 most (record { customer = refl; sound = sound_r }) (λ w other. sound.placed.customers w);
  };
  joined = record {
    owned = from_places (λ o. IfSome o (IsOwned (put_row b (Customer r)).customers)) b.devices (λ d. owned (device_at b d) (in_place (λ o. IfSome o (IsOwned b.customers)) b.devices d tt sound.joined.owned));
    covered = from_places (λ o. IfSome o (IsCovered b.devices)) (put_row b (Customer r)).customers
        (put_all (λ w o. IfSome o (IsCovered b.devices)) b.customers r.customer (Some r) in_w.0 most (covered (customer_at b r.customer) refl)
        (λ w other. in_place (λ o. IfSome o (IsCovered b.devices)) b.customers w tt sound.joined.covered));
  };
}
  where
    most : r.customer ≤ length b.customers
    most = omega (arith, sound.placed.customer_count)

    still : (w : ℕ) → IsSome (customer_at b w) → IsSome (customer_at (put_row b (Customer r)) w)
    still w = put_all (λ v o. IsSome (customer_at b v) → IsSome o) b.customers r.customer (Some r) in_w.0 most (λ h. refl) (λ v other h. h) w

    owned : (o : Option DeviceRow) → IfSome o (IsOwned b.customers) → IfSome o (IsOwned (put_row b (Customer r)).customers)
    owned None h = tt
    owned (Some x) h = by (enrolled_in x) h
      where
        by : (own : Option ℕ) → IfSome own (λ w. IsSome (customer_at b w)) → IfSome own (λ w. IsSome (customer_at (put_row b (Customer r)) w))
        by None there = tt
        by (Some w) there = still w there

    covered : (o : Option CustomerRow) → customer_at b r.customer ≡ o → IsCovered b.devices r
    covered None at =
        let none = nothing_bought b.customers b.devices r.customer sound.joined.owned at in
        omega (arith, none.0)
    covered (Some c) at =
        let is = left_is b (left_in b r.customer) r.customer c sound at refl in
        let before : deposits_in (customer_at b r.customer) ≡ c.deposits = ap deposits_in at in
        omega (arith, is.sum)
