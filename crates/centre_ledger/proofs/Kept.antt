-- The balances that are kept are those by the rows, also after a row is put in its place.
use Rattle.std.proofs.Common.{◌≡◌, ℕ, ◌+◌, ◌-◌, ◌^◌, ◌<◌, ◌≤◌, suc, Bool, true, false, List, [], ◌∷◌, length, get_or, set, map, replicate, Option, Some, None, cond, refl, sym, ap, subst, ◌∙◌, ⊎_elim, true≢false, arith}
use Rattle.std.specs.Prelude.{All, IfSome, IsSome, sum_by, is_some}
use Rattle.std.proofs.lemmas.Bool.{cases_eq, ne_eqb}
use Rattle.std.proofs.lemmas.List.{get_or_default, get_or-set_same, get_or-set_other, length-map}
use Rattle.std.proofs.lemmas.List.Elements.{All-set, All-get_or, All-replicate}
use Rattle.std.proofs.lemmas.List.Sums.{sum_by-set, sum_by-cons}
use Rattle.std.proofs.lemmas.Grind.{same_number_lists}
use Rattle.std.proofs.Math.ListN.{get_or-map}
use Rattle.bench_base.specs.Ranges.{IsCustomer, IsDevice}
use Rattle.centre_ledger.specs.declared.{rows.DeviceRow.DeviceRow, rows.CustomerRow.CustomerRow, rows.Row.TheVariants.Device, rows.Row.TheVariants.Customer}
use Rattle.ledger_terms.specs.Centres.{is_some_at}
use Rattle.centre_ledger.specs.Rows.{enrolled_in, buys_in, returns_in}
use Rattle.centre_ledger.specs.Soundness.{IsSoundDevice, IsSoundCustomer}
use Rattle.centre_ledger.specs.Books.{Books, no_rows, place_of, device_at, customer_at, put_row, left_of, balances_by, kept_at, deposits_in, spent_in, IsCovered, IsOwned, IsDeviceOf, IsCustomerAt, ArePlaced, AreSound, IsDerived}
use Rattle.centre_ledger.proofs.Places.{place_from_1, place_next, put_same, put_other, in_place, from_places}

-- == what all rows say ==

pub sound_devices : (b : Books) → ArePlaced b → All (λ o. IfSome o IsSoundDevice) b.devices
sound_devices b placed = from_places (λ o. IfSome o IsSoundDevice) b.devices (λ d. go (device_at b d) d (placed.devices d))
  where
    go : (o : Option DeviceRow) (d : ℕ) → IfSome o (IsDeviceOf d) → IfSome o IsSoundDevice
    go None d h = tt
    go (Some r) d h = h.sound

pub sound_customers : (b : Books) → ArePlaced b → All (λ o. IfSome o IsSoundCustomer) b.customers
sound_customers b placed = from_places (λ o. IfSome o IsSoundCustomer) b.customers (λ w. go (customer_at b w) w (placed.customers w))
  where
    go : (o : Option CustomerRow) (w : ℕ) → IfSome o (IsCustomerAt w) → IfSome o IsSoundCustomer
    go None w h = tt
    go (Some r) w h = h.sound

-- what a sound row gave back for a customer it bought before
returns_most : (w : ℕ) (o : Option DeviceRow) → IfSome o IsSoundDevice → returns_in w o ≤ buys_in w o
returns_most w None h = omega arith
returns_most w (Some r) h = go (is_some_at (enrolled_in r) w)
  where
    go : (b : Bool) → cond b r.returns 0 ≤ cond b r.buys 0
    go true = h.returns_le
    go false = omega arith

sums_most : (w : ℕ) (os : List (Option DeviceRow)) → All (λ o. IfSome o IsSoundDevice) os → sum_by (returns_in w) os ≤ sum_by (buys_in w) os
sums_most w [] h = omega arith
sums_most w (o ∷ os) h =
    let head = returns_most w o (h 0 None (omega arith)) in
    let tail = sums_most w os (λ k d less. h (suc k) d (omega arith)) in
    rw (sum_by-cons (returns_in w) o os, sum_by-cons (buys_in w) o os) (omega arith)

-- an open customer differs from one that isn't open
pub other_customer : (customers : List (Option CustomerRow)) (own : Option ℕ) (w : ℕ) → IfSome own (λ v. IsSome (place_of customers v)) → place_of customers w ≡ None → is_some_at own w ≡ false
other_customer customers None w owned none = refl
other_customer customers (Some v) w owned none =
    ne_eqb v w (λ same. true≢false (sym owned ∙ ap (λ c. is_some (place_of customers c)) same ∙ ap is_some none))

nothing_in : (customers : List (Option CustomerRow)) (o : Option DeviceRow) (w : ℕ) → IfSome o (IsOwned customers) → place_of customers w ≡ None
    → (buys_in w o ≡ 0) × (returns_in w o ≡ 0)
nothing_in customers None w owned none = (refl, refl)
nothing_in customers (Some r) w owned none =
    let other = other_customer customers (enrolled_in r) w owned none in
    (ap (λ b. cond b r.buys 0) other, ap (λ b. cond b r.returns 0) other)

pub nothing_bought : (customers : List (Option CustomerRow)) (os : List (Option DeviceRow)) (w : ℕ) → All (λ o. IfSome o (IsOwned customers)) os → place_of customers w ≡ None
    → (sum_by (buys_in w) os ≡ 0) × (sum_by (returns_in w) os ≡ 0)
nothing_bought customers [] w owned none = (refl, refl)
nothing_bought customers (o ∷ os) w owned none =
    let head = nothing_in customers o w (owned 0 None (omega arith)) none in
    let tail = nothing_bought customers os w (λ k d less. owned (suc k) d (omega arith)) none in
    (rw (sum_by-cons (buys_in w) o os) (omega arith), rw (sum_by-cons (returns_in w) o os) (omega arith))

-- == what is kept of a customer ==

pub kept_left : (b : Books) (balances : List ℕ) (w : ℕ) → balances ≡ balances_by b.devices b.customers → 1 ≤ w → kept_at balances w ≡ left_of b.devices (customer_at b w)
kept_left b balances w h from =
    ap (λ bs. kept_at bs w) h ∙ get_or-map (left_of b.devices) b.customers (w - 1) None ∙ ap (left_of b.devices) (sym (place_from_1 b.customers w from))

kept_by : (devices : List (Option DeviceRow)) (customers : List (Option CustomerRow)) (balances : List ℕ) → length balances ≡ 64 → length customers ≡ 64
    → ((w : ℕ) → IsCustomer w → kept_at balances w ≡ left_of devices (place_of customers w)) → balances ≡ balances_by devices customers
kept_by devices customers balances size count each =
    let sizes : length balances ≡ length (map (left_of devices) customers) = size ∙ sym count ∙ sym (length-map customers (left_of devices)) in
    same_number_lists balances (map (left_of devices) customers) sizes (λ k less.
    let here : kept_at balances (k + 1) ≡ left_of devices (place_of customers (k + 1)) = each (k + 1) (omega arith, omega arith) in
    let k_is : k + 1 - 1 ≡ k = omega arith in
    ap (λ j. get_or balances j 0) (sym k_is) ∙ here ∙ ap (left_of devices) (place_next customers k) ∙ sym (get_or-map (left_of devices) customers k None))

pub kept_size : (b : Books) (balances : List ℕ) → AreSound b → balances ≡ balances_by b.devices b.customers → length balances ≡ 64
kept_size b balances sound kept = ap length kept ∙ length-map b.customers (left_of b.devices) ∙ sound.placed.customer_count

-- what the customer in a place has left, as a sum
pub record LeftIs (devices : List (Option DeviceRow)) (c : CustomerRow) (w left : ℕ) : Type 0 where
  pub sum : left + sum_by (buys_in w) devices ≡ c.deposits + sum_by (returns_in w) devices
  pub most : c.deposits ≤ 1000000000000000

pub left_is : (b : Books) (left w : ℕ) (c : CustomerRow) → AreSound b → customer_at b w ≡ Some c → left ≡ left_of b.devices (customer_at b w) → LeftIs b.devices c w left
left_is b left w c sound at h =
    let placed : IsCustomerAt w c = subst (λ o. IfSome o (IsCustomerAt w)) at (sound.placed.customers w) in
    let covered : IsCovered b.devices c = subst (λ o. IfSome o (IsCovered b.devices)) at (in_place (λ o. IfSome o (IsCovered b.devices)) b.customers w tt sound.joined.covered) in
    let value : left ≡ left_of b.devices (Some c) = h ∙ ap (left_of b.devices) at in
    subst (λ v. LeftIs b.devices c v left) placed.customer (record { sum = omega arith; most = placed.sound.limit })

-- == a device's row is put ==

-- the sums of a customer over all devices, before the row is put and after it, by those of the other devices
pub record Around (w : ℕ) (devices : List (Option DeviceRow)) (before : Option DeviceRow) (r : DeviceRow) : Type 0 where
  pub others_bought : ℕ
  pub others_returned : ℕ
  pub bought : sum_by (buys_in w) devices ≡ others_bought + buys_in w before
  pub returned : sum_by (returns_in w) devices ≡ others_returned + returns_in w before
  pub bought_then : sum_by (buys_in w) (set devices (r.device - 1) (Some r)) ≡ others_bought + buys_in w (Some r)
  pub returned_then : sum_by (returns_in w) (set devices (r.device - 1) (Some r)) ≡ others_returned + returns_in w (Some r)
  pub others : others_returned ≤ others_bought
  pub before_most : returns_in w before ≤ buys_in w before
  pub after_most : returns_in w (Some r) ≤ buys_in w (Some r)

pub around : (w : ℕ) (devices : List (Option DeviceRow)) (r : DeviceRow) → r.device - 1 < length devices → All (λ o. IfSome o IsSoundDevice) devices → IsSoundDevice r
    → Around w devices (get_or devices (r.device - 1) None) r
around w devices r within sound sound_r =
    let i = r.device - 1 in
    let rest = set devices i None in
    let rest_bought = sum_by-set (buys_in w) devices i None None within in
    let rest_returned = sum_by-set (returns_in w) devices i None None within in
    let then_bought = sum_by-set (buys_in w) devices i (Some r) None within in
    let then_returned = sum_by-set (returns_in w) devices i (Some r) None within in
    record {
      others_bought = sum_by (buys_in w) rest;
      others_returned = sum_by (returns_in w) rest;
      bought = omega arith;
      returned = omega arith;
      bought_then = omega arith;
      returned_then = omega arith;
      others = sums_most w rest (All-set (λ o. IfSome o IsSoundDevice) devices i None tt sound);
      before_most = returns_most w (get_or devices i None) (All-get_or (λ o. IfSome o IsSoundDevice) devices i None within sound);
      after_most = returns_most w (Some r) sound_r;
    }

-- the row of a device, and the balances of the books that it is put into
pub record Putting (b : Books) (r : DeviceRow) (balances : List ℕ) : Type 0 where
  pub sound : AreSound b
  pub kept : balances ≡ balances_by b.devices b.customers
  pub after : AreSound (put_row b (Device r))
  pub device : IsDevice r.device

pub putting : (b now : Books) (r : DeviceRow) (balances : List ℕ) (d : ℕ) → IsDerived b balances → b ≡ now → AreSound (put_row now (Device r)) → d ≡ r.device → IsDevice d → Putting b r balances
putting b now r balances d kept is after same device = record {
  sound = kept.sound;
  kept = kept.kept;
  after = subst (λ x. AreSound (put_row x (Device r))) (sym is) after;
  device = subst IsDevice same device;
}

-- what was in the row's place
abbrev pub before_of : Books → DeviceRow → Option DeviceRow
before_of b r = get_or b.devices (r.device - 1) None

row_sound : (b : Books) (r : DeviceRow) (balances : List ℕ) → Putting b r balances → IsSoundDevice r
row_sound b r balances p =
    let count = p.sound.placed.device_count in
    let here = put_same b.devices r.device (Some r) p.device.0 (let d = p.device in omega arith) in
    let placed : IsDeviceOf r.device r = subst (λ o. IfSome o (IsDeviceOf r.device)) here (p.after.placed.devices r.device) in
    placed.sound

around_put : (b : Books) (r : DeviceRow) (balances : List ℕ) (w : ℕ) → Putting b r balances → Around w b.devices (before_of b r) r
around_put b r balances w p =
    let count = p.sound.placed.device_count in
    let d = p.device in
    around w b.devices r (omega arith) (sound_devices b p.sound.placed) (row_sound b r balances p)

-- where there is no such customer, neither row is of it
record NotOf (b : Books) (r : DeviceRow) (w : ℕ) : Type 0 where
  before : spent_in w (before_of b r) ≡ 0
  after : spent_in w (Some r) ≡ 0

not_of : (b : Books) (r : DeviceRow) (balances : List ℕ) (w : ℕ) → Putting b r balances → customer_at b w ≡ None → NotOf b r w
not_of b r balances w p none =
    let d = p.device in
    let count = p.sound.placed.device_count in
    let within : r.device - 1 < length b.devices = omega arith in
    let was = nothing_in b.customers (before_of b r) w (All-get_or (λ o. IfSome o (IsOwned b.customers)) b.devices (r.device - 1) None within p.sound.joined.owned) none in
    let here = put_same b.devices r.device (Some r) p.device.0 (omega arith) in
    let owned : IsOwned b.customers r = subst (λ o. IfSome o (IsOwned b.customers)) here (in_place (λ o. IfSome o (IsOwned b.customers)) (put_row b (Device r)).devices r.device tt p.after.joined.owned) in
    let is = nothing_in b.customers (Some r) w owned none in
    record { before = let e = was.0 in omega arith; after = let e = is.0 in omega arith }

pub fits : (b : Books) (r : DeviceRow) (balances : List ℕ) → Putting b r balances → (w : ℕ) → IsCustomer w → kept_at balances w + spent_in w (before_of b r) < 2 ^ 64
fits b r balances p w in_w = go (customer_at b w) refl
  where
    left : kept_at balances w ≡ left_of b.devices (customer_at b w)
    left = kept_left b balances w p.kept in_w.0

    go : (o : Option CustomerRow) → customer_at b w ≡ o → kept_at balances w + spent_in w (before_of b r) < 2 ^ 64
    go None at =
        let none = not_of b r balances w p at in
        let zero : kept_at balances w ≡ 0 = left ∙ ap (left_of b.devices) at in
        let before = none.before in
        omega arith
    go (Some c) at =
        let is = left_is b (kept_at balances w) w c p.sound at left in
        let sums = around_put b r balances w p in
        omega (arith, is.sum, is.most, sums.bought, sums.returned, sums.others, sums.before_most)

-- after the old row is given back
pub before_is : (b : Books) (r : DeviceRow) (balances : List ℕ) (d : ℕ) (o : Option DeviceRow) → Putting b r balances → d ≡ r.device → o ≡ get_or b.devices (d - 1) o → o ≡ before_of b r
before_is b r balances d o p same is =
    let count = p.sound.placed.device_count in
    let device = p.device in
    is ∙ get_or_default b.devices (d - 1) o None (omega arith) ∙ ap (λ n. get_or b.devices (n - 1) None) same

pub record GivenBack (b : Books) (r : DeviceRow) (balances given : List ℕ) : Type 0 where
  pub each : (w : ℕ) → IsCustomer w → kept_at given w ≡ kept_at balances w + spent_in w (before_of b r)

pub covers : (b : Books) (r : DeviceRow) (balances given : List ℕ) → Putting b r balances → GivenBack b r balances given → (w : ℕ) → IsCustomer w → spent_in w (Some r) ≤ kept_at given w
covers b r balances given p back w in_w = go (customer_at b w) refl
  where
    left : kept_at balances w ≡ left_of b.devices (customer_at b w)
    left = kept_left b balances w p.kept in_w.0

    go : (o : Option CustomerRow) → customer_at b w ≡ o → spent_in w (Some r) ≤ kept_at given w
    go None at = let none = (not_of b r balances w p at).after in omega arith
    go (Some c) at =
        let is = left_is b (kept_at balances w) w c p.sound at left in
        let then = left_is (put_row b (Device r)) (left_of (put_row b (Device r)).devices (customer_at b w)) w c p.after at refl in
        let sums = around_put b r balances w p in
        omega (arith, back.each w in_w, is.sum, then.sum, sums.bought, sums.returned, sums.bought_then, sums.returned_then, sums.before_most, sums.after_most)

pub device_kept : (b : Books) (r : DeviceRow) (balances given after : List ℕ) → Putting b r balances → GivenBack b r balances given → length after ≡ 64
    → ((w : ℕ) → IsCustomer w → kept_at after w + spent_in w (Some r) ≡ kept_at given w) → IsDerived (put_row b (Device r)) after
device_kept b r balances given after p back size taken = record {
  sound = p.after;
  kept = kept_by (put_row b (Device r)).devices b.customers after size p.sound.placed.customer_count each;
}
  where
    each : (w : ℕ) → IsCustomer w → kept_at after w ≡ left_of (put_row b (Device r)).devices (customer_at b w)
    each w in_w = go (customer_at b w) refl
      where
        left : kept_at balances w ≡ left_of b.devices (customer_at b w)
        left = kept_left b balances w p.kept in_w.0

        go : (o : Option CustomerRow) → customer_at b w ≡ o → kept_at after w ≡ left_of (put_row b (Device r)).devices o
        go None at =
            let none = not_of b r balances w p at in
            let zero : kept_at balances w ≡ 0 = left ∙ ap (left_of b.devices) at in
            omega (arith, none.before, none.after, back.each w in_w, taken w in_w)
        go (Some c) at =
            let is = left_is b (kept_at balances w) w c p.sound at left in
            let then = left_is (put_row b (Device r)) (left_of (put_row b (Device r)).devices (Some c)) w c p.after at (ap (left_of (put_row b (Device r)).devices) (sym at)) in
            let sums = around_put b r balances w p in
            omega (arith, back.each w in_w, taken w in_w, is.sum, then.sum, sums.bought, sums.returned, sums.bought_then, sums.returned_then, sums.before_most, sums.after_most)

-- == a customer's row is put ==

-- the row of a customer, and the balances of the books that it is put into
pub record PuttingCustomer (b : Books) (r : CustomerRow) (balances : List ℕ) : Type 0 where
  pub sound : AreSound b
  pub kept : balances ≡ balances_by b.devices b.customers
  pub after : AreSound (put_row b (Customer r))
  pub customer : IsCustomer r.customer

pub putting_customer : (b now : Books) (r : CustomerRow) (balances : List ℕ) → IsDerived b balances → b ≡ now → AreSound (put_row now (Customer r)) → IsCustomer r.customer → PuttingCustomer b r balances
putting_customer b now r balances kept is after customer = record {
  sound = kept.sound;
  kept = kept.kept;
  after = subst (λ x. AreSound (put_row x (Customer r))) (sym is) after;
  customer = customer;
}

-- what the customer had left and has deposited, before the row is put and after it
pub record Had (b : Books) (r : CustomerRow) (balances : List ℕ) : Type 0 where
  pub sum : kept_at balances r.customer + sum_by (buys_in r.customer) b.devices ≡ deposits_in (customer_at b r.customer) + sum_by (returns_in r.customer) b.devices
  pub most : deposits_in (customer_at b r.customer) ≤ 1000000000000000
  pub then_most : r.deposits ≤ 1000000000000000
  pub then_covered : IsCovered b.devices r
  pub given_back : sum_by (returns_in r.customer) b.devices ≤ sum_by (buys_in r.customer) b.devices

pub had : (b : Books) (r : CustomerRow) (balances : List ℕ) → PuttingCustomer b r balances → Had b r balances
had b r balances p = go (customer_at b r.customer) refl
  where
    left : kept_at balances r.customer ≡ left_of b.devices (customer_at b r.customer)
    left = kept_left b balances r.customer p.kept p.customer.0

    here : customer_at (put_row b (Customer r)) r.customer ≡ Some r
    here = let count = p.sound.placed.customer_count in let in_w = p.customer in put_same b.customers r.customer (Some r) in_w.0 (omega arith)

    placed : IsCustomerAt r.customer r
    placed = subst (λ o. IfSome o (IsCustomerAt r.customer)) here (p.after.placed.customers r.customer)

    covered : IsCovered b.devices r
    covered = subst (λ o. IfSome o (IsCovered b.devices)) here (in_place (λ o. IfSome o (IsCovered b.devices)) (put_row b (Customer r)).customers r.customer tt p.after.joined.covered)

    back : sum_by (returns_in r.customer) b.devices ≤ sum_by (buys_in r.customer) b.devices
    back = sums_most r.customer b.devices (sound_devices b p.sound.placed)

    go : (o : Option CustomerRow) → customer_at b r.customer ≡ o → Had b r balances
    go None at =
        let none = nothing_bought b.customers b.devices r.customer p.sound.joined.owned at in
        let zero : kept_at balances r.customer ≡ 0 = left ∙ ap (left_of b.devices) at in
        let before : deposits_in (customer_at b r.customer) ≡ 0 = ap deposits_in at in
        record { sum = omega (arith, none.0, none.1); most = omega arith; then_most = placed.sound.limit; then_covered = covered; given_back = back }
    go (Some c) at =
        let is = left_is b (kept_at balances r.customer) r.customer c p.sound at left in
        let before : deposits_in (customer_at b r.customer) ≡ c.deposits = ap deposits_in at in
        record { sum = omega (arith, is.sum); most = omega (arith, is.most); then_most = placed.sound.limit; then_covered = covered; given_back = back }

-- what a call read of the row before is the same
pub deposits_before : (b : Books) (r : CustomerRow) (balances : List ℕ) (d n : ℕ) (o : Option CustomerRow) → PuttingCustomer b r balances → d ≡ r.customer → n ≡ deposits_in (get_or b.customers (d - 1) o)
    → n ≡ deposits_in (customer_at b r.customer)
deposits_before b r balances d n o p same h =
    let count = p.sound.placed.customer_count in
    let in_w = p.customer in
    h ∙ ap deposits_in (get_or_default b.customers (d - 1) o None (omega arith) ∙ ap (λ e. get_or b.customers (e - 1) None) same ∙ sym (place_from_1 b.customers r.customer in_w.0))

-- what is written to a place is read there, and the other places are as before
pub kept_own : (balances after : List ℕ) (w x : ℕ) → length balances ≡ 64 → IsCustomer w → after ≡ set balances (w - 1) x → kept_at after w ≡ x
kept_own balances after w x size in_w h = ap (λ bs. kept_at bs w) h ∙ get_or-set_same balances (w - 1) x 0 (omega arith)

pub kept_other : (balances after : List ℕ) (v w x : ℕ) → IsCustomer v → IsCustomer w → (w ≡ v → ⊥) → after ≡ set balances (v - 1) x → kept_at after w ≡ kept_at balances w
kept_other balances after v w x in_v in_w other h = ap (λ bs. kept_at bs w) h ∙ get_or-set_other balances (v - 1) (w - 1) x 0 (λ e. other (omega arith))

pub customer_kept : (b : Books) (r : CustomerRow) (balances after : List ℕ) → PuttingCustomer b r balances → length after ≡ 64
    → kept_at after r.customer + deposits_in (customer_at b r.customer) ≡ kept_at balances r.customer + r.deposits
    → ((w : ℕ) → IsCustomer w → (w ≡ r.customer → ⊥) → kept_at after w ≡ kept_at balances w) → IsDerived (put_row b (Customer r)) after
customer_kept b r balances after p size own others = record {
  sound = p.after;
  kept = kept_by b.devices (put_row b (Customer r)).customers after size p.after.placed.customer_count each;
}
  where
    here : customer_at (put_row b (Customer r)) r.customer ≡ Some r
    here = let count = p.sound.placed.customer_count in let in_w = p.customer in put_same b.customers r.customer (Some r) in_w.0 (omega arith)

    each : (w : ℕ) → IsCustomer w → kept_at after w ≡ left_of b.devices (customer_at (put_row b (Customer r)) w)
    each w in_w = ⊎_elim
        (λ (same : w ≡ r.customer).
        let was = had b r balances p in
        let value : kept_at after r.customer ≡ left_of b.devices (Some r) = omega (arith, was.sum, was.then_covered, own) in
        subst (λ v. kept_at after v ≡ left_of b.devices (customer_at (put_row b (Customer r)) v)) (sym same) (value ∙ ap (left_of b.devices) (sym here)))
        (λ (other : w ≡ r.customer → ⊥).
        others w in_w other ∙ kept_left b balances w p.kept in_w.0 ∙ ap (left_of b.devices) (sym (put_other b.customers r.customer w (Some r) p.customer.0 other)))
        (cases_eq w r.customer)

-- == no row ==

pub nothing_at : {R : Type 0} (n k : ℕ) → place_of {R = R} (replicate n None) k ≡ None
nothing_at {R} n k = in_place (λ (o : Option R). o ≡ None) (replicate n None) k refl (All-replicate (λ (o : Option R). o ≡ None) n None refl)

pub none_kept : IsDerived no_rows (replicate 64 0)
none_kept = record {
  sound = record {
    placed = record {
      device_count = refl;
      customer_count = refl;
      devices = λ d. subst (λ o. IfSome o (IsDeviceOf d)) (sym (nothing_at 8 d)) tt;
      customers = λ w. subst (λ o. IfSome o (IsCustomerAt w)) (sym (nothing_at 64 w)) tt;
    };
    joined = record {
      owned = All-replicate (λ o. IfSome o (IsOwned no_rows.customers)) 8 None tt;
      covered = All-replicate (λ o. IfSome o (IsCovered no_rows.devices)) 64 None tt;
    };
  };
  kept = refl;
}
