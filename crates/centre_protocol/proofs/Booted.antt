-- What was read out of the cells of the centre.
use Rattle.std.proofs.Common.{◌≡◌, ◌≢◌, ◌==◌, inl, inr, ℕ, ◌+◌, ◌-◌, ◌<◌, ◌≤◌, List, length, get_or, Option, None, IfSome, sym, ap, subst, arith}
use Rattle.std.proofs.lemmas.Bool.{cases_eq, cases_lt, ne_eqb}
use Rattle.std.proofs.lemmas.List.{get_or_past}
use Rattle.bench_base.specs.declared.sizes.TheConstants.{MOST_COMMITS, CENTRE_CELLS}
use Rattle.nv_store.specs.Slot.{Held}
use Rattle.nv_store.specs.Store.{count_of}
use Rattle.node_storage.proofs.Called.{if_false}
use Rattle.row_node.specs.Kept.{IsFilled, seen_by}
use Rattle.centre_ledger.specs.declared.{rows.DeviceRow.DeviceRow, rows.CustomerRow.CustomerRow, rows.Row.Row}
use Rattle.centre_ledger.specs.Books.{Books, place_of, ArePlaced, AreSound, IsDeviceOf, IsCustomerAt}
use Rattle.centre_ledger.specs.Seen.{books_in}
use Rattle.centre_protocol.specs.Payloads.{IsPayloadOf, HoldRows}
use Rattle.centre_protocol.specs.Cells.{row_in, device_below, customer_above, books_kept}
use Rattle.centre_protocol.specs.Boots.{DevicesRead, CustomersRead}
use Rattle.centre_protocol.specs.Places.{HasPlaces}
use Rattle.centre_protocol.specs.Table.{centre_table}
use Rattle.centre_protocol.specs.declared.rows.CentreRows.{CentreRows}
use Rattle.row_node.specs.Boots.{Found, HoldNone}

-- each place, counted from 1, by the items
at_place : {R : Type 0} (P : ℕ → R → Type 0) (rows : List (Option R)) (n : ℕ) → length rows ≡ n → ((k : ℕ) → k < n → IfSome (get_or rows k None) (P (k + 1)))
    → (d : ℕ) → IfSome (place_of rows d) (P d)
at_place {R} P rows n long each d = elim (cases_eq d 0) [
  | inl none ↦ subst (λ (o : Option R). IfSome o (P d)) (sym (ap (place_of rows) none)) tt
  | inr some ↦ subst (λ (o : Option R). IfSome o (P d)) (sym (if_false (d == 0) None (get_or rows (d - 1) None) (ne_eqb d 0 some))) (elim (cases_lt (d - 1) n) [
    | inr past ↦ subst (λ (o : Option R). IfSome o (P d)) (sym (get_or_past rows (d - 1) None (omega (arith, long, past)))) tt
    | inl inside ↦ subst (λ (j : ℕ). IfSome (get_or rows (d - 1) None) (P j)) (back d some) (each (d - 1) inside)
  ])
]
  where
    back : (d : ℕ) → d ≢ 0 → d - 1 + 1 ≡ d
    back d some = omega (arith, some)

module _ (held : ℕ → Option Held) (devices : List (Option DeviceRow)) (customers : List (Option CustomerRow)) where
  abbrev books : Books
  books = record { devices = devices; customers = customers }

  module _ (read : DevicesRead held 8 devices) (read' : CustomersRead held 64 customers) (long : length devices ≡ 8) (long' : length customers ≡ 64) where
    pub are_placed : ArePlaced books
    are_placed = record {
      device_count = long;
      customer_count = long';
      devices = at_place IsDeviceOf devices 8 long (λ k lt. (read k lt).own);
      customers = at_place IsCustomerAt customers 64 long' (λ k lt. (read' k lt).own);
    }

    pub hold_rows : HoldRows (row_in books) held
    hold_rows k lt = elim (cases_lt k 8) [
      | inr above ↦ subst (λ (j : ℕ). IsFilled (IsPayloadOf j) (row_in books j) (held j)) (back k above) (customer_filled (k - 8) (omega (arith, lt, above)))
      | inl below ↦ subst (λ (o : Option Row). IsFilled (IsPayloadOf k) o (held k)) (sym (device_below books k below)) (read k below).filled
    ]
      where
        back : (k : ℕ) → 8 ≤ k → 8 + (k - 8) ≡ k
        back k le = omega (arith, le)

        customer_filled : (i : ℕ) → i < 64 → IsFilled (IsPayloadOf (8 + i)) (row_in books (8 + i)) (held (8 + i))
        customer_filled i lt = subst (λ (o : Option Row). IsFilled (IsPayloadOf (8 + i)) o (held (8 + i))) (sym (customer_above books i)) (read' i lt).filled

    are_few : (k : ℕ) → k < CENTRE_CELLS → count_of (held k) ≤ MOST_COMMITS
    are_few k lt = elim (cases_lt k 8) [
      | inr above ↦ subst (λ (j : ℕ). count_of (held j) ≤ MOST_COMMITS) (back k above) (read' (k - 8) (omega (arith, lt, above))).few
      | inl below ↦ (read k below).few
    ]
      where
        back : (k : ℕ) → 8 ≤ k → 8 + (k - 8) ≡ k
        back k le = omega (arith, le)

    places : HasPlaces books
    places = record { devices = long; customers = long' }

    -- so a boot finds these rows, where they are sound
    pub found : (m : CentreRows) → m.accounts ≡ books → AreSound books → Found centre_table m held
    found m is sound = record {
      keeps = record { filled = subst (λ (b : Books). HoldRows (row_in b) held) (sym is) hold_rows; follows = tt };
      agree = subst (λ (b : Books). AreSound (books_in (seen_by CENTRE_CELLS held (row_in b)))) (sym is) (subst AreSound (sym (books_kept books held places hold_rows)) sound);
      few = are_few;
    }

    pub unsound : (AreSound books → ⊥) → HoldNone centre_table held
    unsound breaks = inr (record { rows = row_in books; are = hold_rows; breaks = λ sound. breaks (subst AreSound (books_kept books held places hold_rows) sound) })
