-- What the books say of balances, and of the customer who pays, is what the commits say.
use Rattle.std.proofs.Common.{◌≡◌, ℕ, List, [], ◌∷◌, length, Option, Some, None, cond, refl, sym, ap, subst, ◌∙◌, arith}
use Rattle.bench_base.specs.Ranges.{IsCustomer}
use Rattle.bench_base.specs.declared.ledger.Commit.{Commit}
use Rattle.psd_wire.specs.declared.message.Request.{Request}
use Rattle.ledger_terms.specs.Centres.{device_numbers, device_share, is_some_at, sum_over, customer_sum, customer_returned, balance}
use Rattle.ledger_terms.specs.Sums.{takes, ruled_sum}
use Rattle.ledger_terms.specs.Rulings.{payer, own_customer}
use Rattle.centre_ledger.specs.declared.{rows.DeviceRow.DeviceRow, rows.CustomerRow.CustomerRow}
use Rattle.centre_ledger.specs.Records.{PaysBy}
use Rattle.centre_ledger.specs.Rows.{enrolled_in}
use Rattle.centre_ledger.specs.Laws.{IsSlotOf, IsCustomerSlotOf, AreSlots}
use Rattle.centre_ledger.specs.Books.{Books, place_of, device_at, customer_at, left_of, left_in, AreSound}
use Rattle.centre_ledger.specs.Acts.{in_books, payer_in, own_left}
use Rattle.centre_ledger.specs.ActLaws.{AreBooksOf}
use Rattle.centre_ledger.proofs.Following.{no_money, share_none, nothing_before}
use Rattle.centre_ledger.proofs.Kept as kept
use Rattle.centre_ledger.proofs.Kept.{other_customer}
use Rattle.centre_ledger.proofs.Payers.{found_customer, found_owned}
use Rattle.centre_ledger.proofs.Slots.{paying}
use Rattle.centre_ledger.proofs.Slots as by_rows

-- the rows in all places are those of all devices
eight : (os : List (Option DeviceRow)) (C : List Commit) → length os ≡ 8 → ((d : ℕ) → IsSlotOf (place_of os d) d C) → AreSlots os device_numbers C
eight (a ∷ b ∷ c ∷ d ∷ e ∷ f ∷ g ∷ h ∷ []) C n each = (each 1, (each 2, (each 3, (each 4, (each 5, (each 6, (each 7, (each 8, tt))))))))
eight [] C n each = absurd (cc)
eight (a ∷ []) C n each = absurd (omega arith)
eight (a ∷ b ∷ []) C n each = absurd (omega arith)
eight (a ∷ b ∷ c ∷ []) C n each = absurd (omega arith)
eight (a ∷ b ∷ c ∷ d ∷ []) C n each = absurd (omega arith)
eight (a ∷ b ∷ c ∷ d ∷ e ∷ []) C n each = absurd (omega arith)
eight (a ∷ b ∷ c ∷ d ∷ e ∷ f ∷ []) C n each = absurd (omega arith)
eight (a ∷ b ∷ c ∷ d ∷ e ∷ f ∷ g ∷ []) C n each = absurd (omega arith)
eight (a ∷ b ∷ c ∷ d ∷ e ∷ f ∷ g ∷ h ∷ i ∷ os) C n each = absurd (omega arith)

slots_of : (b : Books) (C : List Commit) → AreSound b → AreBooksOf b C → AreSlots b.devices device_numbers C
slots_of b C s books = eight b.devices C s.placed.device_count books.devices

-- of a customer that is open
balance_is : (b : Books) (C : List Commit) (w : ℕ) (c : CustomerRow) → AreSound b → AreBooksOf b C → customer_at b w ≡ Some c → left_in b w ≡ balance w C
balance_is b C w c s books at =
    let found = found_customer b w c s at in
    let slot : IsCustomerSlotOf (Some c) w C = subst (λ o. IsCustomerSlotOf o w C) at (books.customers w) in
    let own : left_in b c.customer ≡ left_in b w = ap (left_in b) found.0.customer in
    let is = kept.left_is b (left_in b c.customer) c.customer c s (ap (customer_at b) found.0.customer ∙ at) refl in
    sym own ∙ by_rows.left_is b.devices c (left_in b c.customer) C books.order (subst IsCustomer (sym found.0.customer) found.1) (slots_of b C s books) slot.2 is.sum ∙ ap (λ v. balance v C) found.0.customer

no_sum : (g : ℕ → ℕ) (ds : List ℕ) → ((d : ℕ) → g d ≡ 0) → sum_over g ds ≡ 0
no_sum g [] none = refl
no_sum g (d ∷ ds) none =
    let here = none d in
    let rest = no_sum g ds none in
    omega arith

module _ (b : Books) (C : List Commit) (s : AreSound b) (books : AreBooksOf b C) where
  -- no device is enrolled under a customer that is not open
  no_share : (w : ℕ) → customer_at b w ≡ None → (d : ℕ) → device_share takes w C d ≡ 0
  no_share w shut d = by (device_at b d) refl
    where
      by : (o : Option DeviceRow) → device_at b d ≡ o → device_share takes w C d ≡ 0
      by None at = let slot : IsSlotOf None d C = subst (λ o. IsSlotOf o d C) at (books.devices d) in share_none takes d w C (nothing_before d C books.order slot).enrolled
      by (Some r) at = ap (device_share takes w C) (sym slot.0) ∙ ap (λ x. cond (is_some_at x w) (ruled_sum takes r.device C) 0) slot.2.enrolled
          ∙ ap (λ t. cond t (ruled_sum takes r.device C) 0) (other_customer b.customers (enrolled_in r) w (found_owned b d r s at) shut)
        where
          slot : IsSlotOf (Some r) d C
          slot = subst (λ o. IsSlotOf o d C) at (books.devices d)

  -- what each customer has left
  pub left_is : (w : ℕ) → left_in b w ≡ balance w C
  unfolding customer_sum
  left_is w = by (customer_at b w) refl
    where
      by : (o : Option CustomerRow) → customer_at b w ≡ o → left_in b w ≡ balance w C
      by (Some c) at = balance_is b C w c s books at
      by None at =
          let slot : IsCustomerSlotOf None w C = subst (λ o. IsCustomerSlotOf o w C) at (books.customers w) in
          let deposited = (no_money w C books.order slot).deposits in
          let returned : customer_returned w C ≡ 0 = no_sum (device_share takes w C) device_numbers (no_share w at) in
          let none : left_in b w ≡ 0 = ap (left_of b.devices) at in
          omega arith

-- who pays for a Request of the device, and what its own customer has left
pub pays : (b : Books) (C : List Commit) (r : DeviceRow) (q : Request) → AreSound b → AreBooksOf b C → device_at b r.device ≡ Some r → q.device ≡ r.device → PaysBy q (payer_in (in_books b) r q) (own_left (in_books b) r) C
pays b C r q s books at same =
    let slot : IsSlotOf (Some r) r.device C = subst (λ o. IsSlotOf o r.device C) at (books.devices r.device) in
    subst (λ left. PaysBy q (payer_in (in_books b) r q) left C) (sym (left_is b C s books (own_customer (enrolled_in r))))
    (paying r (payer_in (in_books b) r q) q C books.order slot.2 same (books.customers (payer q (enrolled_in r))))
