-- The rows of cells, each sound and in its own cell, have their places in the books.
use Rattle.std.proofs.Common.{◌≡◌, ◌≢◌, ◌==◌, inl, inr, ℕ, ◌+◌, ◌-◌, ◌<◌, Bool, true, false, if◌then◌else◌, List, length, get_or, Option, Some, None, IfSome, refl, sym, ap, subst, ◌∙◌, arith}
use Rattle.std.proofs.lemmas.Bool.{cases_eq, cases_lt, ne_eqb}
use Rattle.std.proofs.lemmas.List.{get_or_past}
use Rattle.node_acts.specs.RowList.{row_at, row_of}
use Rattle.node_acts.specs.RowLaws.{listed_long, listed_at}
use Rattle.centre_ledger.specs.declared.{rows.DeviceRow.DeviceRow, rows.CustomerRow.CustomerRow, rows.Row.Row}
use Rattle.centre_ledger.specs.declared.rows.Row.TheVariants as row
use Rattle.centre_ledger.specs.Books.{Books, place_of, ArePlaced, IsDeviceOf, IsCustomerAt}
use Rattle.centre_ledger.specs.Seen.{Seen, device_in, customer_in, books_in}
use Rattle.trace_centre.specs.Records.{IsRowOf}

if_false : {A : Type 0} (b : Bool) (x y : A) → b ≡ false → (if b then x else y) ≡ y
if_false true x y is = cc is
if_false false x y is = refl

-- each place, counted from 1, by the items
at_place : {R : Type 0} (P : ℕ → R → Type 0) (rows : List (Option R)) (n : ℕ) → length rows ≡ n → ((k : ℕ) → k < n → IfSome (get_or rows k None) (P (k + 1)))
    → (d : ℕ) → IfSome (place_of rows d) (P d)
at_place {R} P rows n long each d = elim (cases_eq d 0) [
  | inl none ↦ subst (λ (o : Option R). IfSome o (P d)) (sym (ap (place_of rows) none)) tt
  | inr some ↦ subst (λ (o : Option R). IfSome o (P d)) (sym (if_false (d == 0) None (get_or rows (d - 1) None) (ne_eqb d 0 some))) (elim (cases_lt (d - 1) n) [
    | inr past ↦ subst (λ (o : Option R). IfSome o (P d)) (sym (get_or_past rows (d - 1) None (omega (arith, long, past)))) tt
    | inl inside ↦ subst (λ (j : ℕ). IfSome (get_or rows (d - 1) None) (P j)) (back d some) (each (d - 1) inside)
  ])
]
  where
    back : (d : ℕ) → d ≢ 0 → d - 1 + 1 ≡ d
    back d some = omega (arith, some)

device_here : (k : ℕ) (o : Option (ℕ × Row)) → IfSome (row_of o) (IsRowOf k) → IfSome (device_in o) (IsDeviceOf (k + 1))
device_here k None own = tt
device_here k (Some (n, row.Device r)) own = own.0
device_here k (Some (n, row.Customer r)) own = tt

customer_here : (i : ℕ) (o : Option (ℕ × Row)) → IfSome (row_of o) (IsRowOf (8 + i)) → IfSome (customer_in o) (IsCustomerAt (i + 1))
customer_here i None own = tt
customer_here i (Some (n, row.Device r)) own = tt
customer_here i (Some (n, row.Customer r)) own = subst (λ (w : ℕ). IsCustomerAt w r) (omega arith) own.0

module _ (s : Seen) (rows : (k : ℕ) → IfSome (row_of (row_at s k)) (IsRowOf k)) where
  books_placed : ArePlaced (books_in s)
  books_placed = record {
    device_count = listed_long 8 (λ i. device_in (row_at s i));
    customer_count = listed_long 64 (λ i. customer_in (row_at s (8 + i)));
    devices = at_place IsDeviceOf (books_in s).devices 8 (listed_long 8 (λ i. device_in (row_at s i)))
        (λ k lt. subst (λ (o : Option DeviceRow). IfSome o (IsDeviceOf (k + 1))) (sym (listed_at 8 (λ i. device_in (row_at s i)) None k lt)) (device_here k (row_at s k) (rows k)));
    customers = at_place IsCustomerAt (books_in s).customers 64 (listed_long 64 (λ i. customer_in (row_at s (8 + i))))
        (λ i lt. subst (λ (o : Option CustomerRow). IfSome o (IsCustomerAt (i + 1))) (sym (listed_at 64 (λ j. customer_in (row_at s (8 + j))) None i lt))
        (customer_here i (row_at s (8 + i)) (rows (8 + i))));
  }

-- the books of these rows
abbrev books : List (Option DeviceRow) → List (Option CustomerRow) → Books
books devices customers = record { devices = devices; customers = customers }

pub books_are : (s : Seen) (devices : List (Option DeviceRow)) (customers : List (Option CustomerRow)) → devices ≡ (books_in s).devices → customers ≡ (books_in s).customers
    → books devices customers ≡ books_in s
books_are s devices customers is is' = ap (λ (l : List (Option DeviceRow)). books l customers) is ∙ ap (λ (l : List (Option CustomerRow)). books (books_in s).devices l) is'

pub are_placed : (s : Seen) → ((k : ℕ) → IfSome (row_of (row_at s k)) (IsRowOf k)) → (devices : List (Option DeviceRow)) (customers : List (Option CustomerRow))
    → devices ≡ (books_in s).devices → customers ≡ (books_in s).customers → ArePlaced (books devices customers)
are_placed s rows devices customers is is' = subst ArePlaced (sym (books_are s devices customers is is')) (books_placed s rows)
