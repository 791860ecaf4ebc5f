-- The rows of the centre by their cells: what lies where, and how a row that is put changes that.
use Rattle.std.proofs.Common.{◌≡◌, ◌≢◌, inl, inr, ℕ, zero, suc, replicate, ◌+◌, ◌-◌, ◌<◌, List, length, get_or, set, Option, Some, None, Bool, true, false, option_map, nat_lt, if◌then◌else◌, refl, sym, ◌∙◌, ap, subst, arith}
use Rattle.std.proofs.lemmas.Bool.{cases_eq, lt-ltb, le-ltb, ltb-false}
use Rattle.std.proofs.lemmas.List.{get_or-set_same, get_or-set_other, length-set}
use Rattle.bench_base.specs.declared.sizes.TheConstants.{CENTRE_CELLS}
use Rattle.bench_base.specs.Ranges.{IsDevice, IsCustomer}
use Rattle.node_acts.specs.RowList.{row_at, row_of, put}
use Rattle.node_acts.specs.RowLaws.{listed_long, listed_at, listed_is, listed_same, put_here, put_other}
use Rattle.nv_store.specs.Slot.{Held}
use Rattle.node_storage.proofs.Called.{if_true, if_false}
use Rattle.row_node.specs.Kept.{IsFilled, seen_by, seen_row}
use Rattle.centre_ledger.specs.declared.{rows.DeviceRow.DeviceRow, rows.CustomerRow.CustomerRow, rows.Row.Row}
use Rattle.centre_ledger.specs.declared.rows.Row.TheVariants as row
use Rattle.centre_ledger.specs.Books.{Books, put_row, no_rows}
use Rattle.centre_ledger.specs.Soundness.{IsSoundDevice, IsSoundCustomer}
use Rattle.centre_ledger.specs.Seen.{Seen, cell_of, device_in, customer_in, books_in}
use Rattle.centre_protocol.specs.Payloads.{IsIn, IsPayloadOf, HoldRows}
use Rattle.centre_protocol.specs.Places.{HasPlaces}

-- the row that lies in a cell
abbrev pub row_in : Books → ℕ → Option Row
row_in b k = if nat_lt k 8 then option_map row.Device (get_or b.devices k None) else option_map row.Customer (get_or b.customers (k - 8) None)

-- the row has a place
abbrev pub HasCell : Row → Type 0
HasCell (row.Device r) = IsDevice r.device
HasCell (row.Customer r) = IsCustomer r.customer

abbrev pub IsSoundRow : Row → Type 0
IsSoundRow (row.Device r) = IsSoundDevice r
IsSoundRow (row.Customer r) = IsSoundCustomer r

-- == laws: a row ==

pub cell_inside : (x : Row) → HasCell x → cell_of x < CENTRE_CELLS
cell_inside (row.Device r) has = omega arith
cell_inside (row.Customer r) has = omega arith

pub is_in : (x : Row) → HasCell x → IsIn (cell_of x) x
is_in (row.Device r) has = (omega arith, omega arith)
is_in (row.Customer r) has = (omega arith, omega arith)

-- == laws: by cells ==

pub device_below : (b : Books) (k : ℕ) → k < 8 → row_in b k ≡ option_map row.Device (get_or b.devices k None)
device_below b k lt = if_true (nat_lt k 8) (option_map row.Device (get_or b.devices k None))
    (option_map row.Customer (get_or b.customers (k - 8) None)) (lt-ltb k 8 lt)

pub customer_above : (b : Books) (i : ℕ) → row_in b (8 + i) ≡ option_map row.Customer (get_or b.customers i None)
customer_above b i =
    if_false (nat_lt (8 + i) 8) (option_map row.Device (get_or b.devices (8 + i) None))
    (option_map row.Customer (get_or b.customers (8 + i - 8) None)) (le-ltb (8 + i) 8 (omega arith))
    ∙ ap (λ (j : ℕ). option_map row.Customer (get_or b.customers j None)) (back i)
  where
    back : (i : ℕ) → 8 + i - 8 ≡ i
    back i = omega arith

abbrev device_of : Option Row → Option DeviceRow
device_of None = None
device_of (Some (row.Device r)) = Some r
device_of (Some (row.Customer r)) = None

abbrev customer_of : Option Row → Option CustomerRow
customer_of None = None
customer_of (Some (row.Device r)) = None
customer_of (Some (row.Customer r)) = Some r

device_seen : (o : Option (ℕ × Row)) → device_in o ≡ device_of (row_of o)
device_seen None = refl
device_seen (Some (k, row.Device r)) = refl
device_seen (Some (k, row.Customer r)) = refl

customer_seen : (o : Option (ℕ × Row)) → customer_in o ≡ customer_of (row_of o)
customer_seen None = refl
customer_seen (Some (k, row.Device r)) = refl
customer_seen (Some (k, row.Customer r)) = refl

device_back : (o : Option DeviceRow) → device_of (option_map row.Device o) ≡ o
device_back None = refl
device_back (Some r) = refl

customer_back : (o : Option CustomerRow) → customer_of (option_map row.Customer o) ≡ o
customer_back None = refl
customer_back (Some r) = refl

abbrev with_both : List (Option DeviceRow) → List (Option CustomerRow) → Books
with_both devices customers = record { devices = devices; customers = customers }

same_books : (a b : Books) → a.devices ≡ b.devices → a.customers ≡ b.customers → a ≡ b
same_books a b is is' = ap (λ (l : List (Option DeviceRow)). with_both l a.customers) is ∙ ap (λ (l : List (Option CustomerRow)). with_both b.devices l) is'

-- what is seen of cells that hold these rows are the rows
pub books_kept : (b : Books) (held : ℕ → Option Held) → HasPlaces b → HoldRows (row_in b) held → books_in (seen_by CENTRE_CELLS held (row_in b)) ≡ b
books_kept b held places filled =
    same_books (books_in s) b
    (listed_is 8 (λ i. device_in (row_at s i)) None b.devices places.devices (λ i lt.
    sym (device_seen (row_at s i) ∙ ap device_of (row_is i (omega (arith, lt)) ∙ device_below b i lt) ∙ device_back (get_or b.devices i None))))
    (listed_is 64 (λ i. customer_in (row_at s (8 + i))) None b.customers places.customers (λ i lt.
    sym (customer_seen (row_at s (8 + i)) ∙ ap customer_of (row_is (8 + i) (omega (arith, lt)) ∙ customer_above b i)
    ∙ customer_back (get_or b.customers i None))))
  where
    s : Seen
    s = seen_by CENTRE_CELLS held (row_in b)

    row_is : (k : ℕ) → k < CENTRE_CELLS → row_of (row_at s k) ≡ row_in b k
    row_is k lt = seen_row CENTRE_CELLS IsPayloadOf (row_in b) held filled k lt

-- == laws: a row that is put ==

-- the cells of the books with the row put
pub cells_put : (s : Seen) (x : Row) → length s ≡ CENTRE_CELLS → HasCell x → books_in (put s (cell_of x) x) ≡ put_row (books_in s) x
cells_put s (row.Device r) long has =
    same_books (books_in t) (put_row (books_in s) (row.Device r))
    (listed_is 8 (λ i. device_in (row_at t i)) None (set (books_in s).devices cell (Some r))
    (length-set (books_in s).devices cell (Some r) ∙ listed_long 8 (λ i. device_in (row_at s i)))
    (λ i lt. elim (cases_eq i cell) [
      | inl is ↦
          ap (λ (j : ℕ). get_or (set (books_in s).devices cell (Some r)) j None) is
          ∙ get_or-set_same (books_in s).devices cell (Some r) None (omega (arith, has, listed_long 8 (λ j. device_in (row_at s j))))
          ∙ sym (ap (λ (o : Option (ℕ × Row)). device_in o) (ap (row_at t) is ∙ put_here s cell (row.Device r) (omega (arith, has, long))))
      | inr differs ↦
          get_or-set_other (books_in s).devices cell i (Some r) None differs ∙ listed_at 8 (λ j. device_in (row_at s j)) None i lt
          ∙ sym (ap (λ (o : Option (ℕ × Row)). device_in o) (put_other s cell (row.Device r) i differs))
    ]))
    (listed_same 64 (λ i. customer_in (row_at t (8 + i))) (λ i. customer_in (row_at s (8 + i))) (λ i lt.
    ap (λ (o : Option (ℕ × Row)). customer_in o) (put_other s cell (row.Device r) (8 + i) (λ is. omega (arith, has, is)))))
  where
    cell : ℕ
    cell = r.device - 1

    t : Seen
    t = put s cell (row.Device r)
cells_put s (row.Customer r) long has =
    same_books (books_in t) (put_row (books_in s) (row.Customer r))
    (listed_same 8 (λ i. device_in (row_at t i)) (λ i. device_in (row_at s i)) (λ i lt.
    ap (λ (o : Option (ℕ × Row)). device_in o) (put_other s cell (row.Customer r) i (λ is. omega (arith, lt, is)))))
    (listed_is 64 (λ i. customer_in (row_at t (8 + i))) None (set (books_in s).customers place (Some r))
    (length-set (books_in s).customers place (Some r) ∙ listed_long 64 (λ i. customer_in (row_at s (8 + i))))
    (λ i lt. elim (cases_eq i place) [
      | inl is ↦
          ap (λ (j : ℕ). get_or (set (books_in s).customers place (Some r)) j None) is
          ∙ get_or-set_same (books_in s).customers place (Some r) None (omega (arith, has, listed_long 64 (λ j. customer_in (row_at s (8 + j)))))
          ∙ sym (ap (λ (o : Option (ℕ × Row)). customer_in o) (ap (row_at t) (at_cell i is) ∙ put_here s cell (row.Customer r) (omega (arith, has, long))))
      | inr differs ↦
          get_or-set_other (books_in s).customers place i (Some r) None differs ∙ listed_at 64 (λ j. customer_in (row_at s (8 + j))) None i lt
          ∙ sym (ap (λ (o : Option (ℕ × Row)). customer_in o) (put_other s cell (row.Customer r) (8 + i) (λ is. differs (omega (arith, has, is)))))
    ]))
  where
    cell : ℕ
    cell = 7 + r.customer

    place : ℕ
    place = r.customer - 1

    t : Seen
    t = put s cell (row.Customer r)

    at_cell : (i : ℕ) → i ≡ place → 8 + i ≡ cell
    at_cell i is = omega (arith, has, is)

-- the row lies in its cell, and all others lie where they were
pub row_here : (b : Books) (x : Row) → HasPlaces b → HasCell x → row_in (put_row b x) (cell_of x) ≡ Some x
row_here b (row.Device r) places has =
    device_below (put_row b (row.Device r)) (r.device - 1) (omega (arith, has))
    ∙ ap (λ (o : Option DeviceRow). option_map row.Device o) (get_or-set_same b.devices (r.device - 1) (Some r) None (omega (arith, has, places.devices)))
row_here b (row.Customer r) places has =
    ap (row_in (put_row b (row.Customer r))) (from_place r.customer has) ∙ customer_above (put_row b (row.Customer r)) (r.customer - 1)
    ∙ ap (λ (o : Option CustomerRow). option_map row.Customer o)
    (get_or-set_same b.customers (r.customer - 1) (Some r) None (omega (arith, has, places.customers)))
  where
    from_place : (w : ℕ) → IsCustomer w → 7 + w ≡ 8 + (w - 1)
    from_place w is = omega (arith, is)

pub row_other : (b : Books) (x : Row) (k : ℕ) → HasCell x → k ≢ cell_of x → row_in (put_row b x) k ≡ row_in b k
row_other b (row.Device r) k has differs =
    ap (λ (o : Option DeviceRow). if nat_lt k 8 then option_map row.Device o else option_map row.Customer (get_or b.customers (k - 8) None))
    (get_or-set_other b.devices (r.device - 1) k (Some r) None differs)
row_other b (row.Customer r) k has differs =
    else_same (nat_lt k 8) (option_map row.Device (get_or b.devices k None))
    (option_map row.Customer (get_or (set b.customers (r.customer - 1) (Some r)) (k - 8) None))
    (option_map row.Customer (get_or b.customers (k - 8) None))
    (λ is. ap (λ (o : Option CustomerRow). option_map row.Customer o)
    (get_or-set_other b.customers (r.customer - 1) (k - 8) (Some r) None (λ same. differs (omega (arith, has, ltb-false k 8 is, same)))))
  where
    else_same : (t : Bool) (x y z : Option Row) → (t ≡ false → y ≡ z) → (if t then x else y) ≡ (if t then x else z)
    else_same true x y z same = refl
    else_same false x y z same = same refl

-- == laws: no rows ==

abbrev nones : {A : Type 0} → ℕ → List (Option A)
nones n = replicate n None

none_at : {A : Type 0} (n k : ℕ) → get_or (nones {A = A} n) k None ≡ None
none_at zero k = refl
none_at (suc n) zero = refl
none_at {A} (suc n) (suc k) = none_at {A = A} n k

no_row : (k : ℕ) → row_in no_rows k ≡ None
no_row k =
    ap (λ (o : Option DeviceRow). if nat_lt k 8 then option_map row.Device o else option_map row.Customer (get_or no_rows.customers (k - 8) None)) (none_at 8 k)
    ∙ ap (λ (o : Option CustomerRow). if nat_lt k 8 then None else option_map row.Customer o) (none_at 64 (k - 8))
    ∙ either (nat_lt k 8)
  where
    none : Option Row
    none = None

    either : (t : Bool) → (if t then none else none) ≡ none
    either true = refl
    either false = refl

-- blank cells hold none
pub none_hold : (held : ℕ → Option Held) → ((k : ℕ) → held k ≡ None) → HoldRows (row_in no_rows) held
none_hold held none k lt =
    subst (λ (o : Option Row). IsFilled (IsPayloadOf k) o (held k)) (sym (no_row k))
    (subst (λ (h : Option Held). IsFilled (IsPayloadOf k) None h) (sym (none k)) tt)
