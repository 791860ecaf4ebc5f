-- The rows of the centre after some commits, by its cells: they are those of the commits, and what one commit of the centre does to them.
use Rattle.std.proofs.Common.{◌≡◌, ◌⊎◌, inl, inr, ⊎_elim, ℕ, ◌+◌, ◌-◌, ◌<◌, ◌≤◌, List, [], ◌∷◌, length, Option, Some, None, Bool, true, false, option_map, refl, sym, ◌∙◌, ap, subst, true≢false, arith}
use Rattle.std.specs.Prelude.{◌==◌, nat_le, IsSome, IfSome, All}
use Rattle.std.proofs.lemmas.Bool.{cases_Bool, eqb-true, ne_eqb, lt-ltb, le-ltb}
use Rattle.std.proofs.lemmas.Bool.Decides.{nat_tests}
use Rattle.std.proofs.lemmas.List.{get_or_past}
use Rattle.std.proofs.lemmas.List.Elements.{All-head, All-tail}
use Rattle.std.proofs.lemmas.Option.{same_Some}
use Rattle.bench_base.specs.declared.{sizes.TheConstants.CENTRE_CELLS, ledger.Commit.Commit}
use Rattle.bench_base.specs.declared.ledger.Commit.TheVariants as c
use Rattle.bench_base.specs.Ranges.{InRange, IsDevice, IsCustomer}
use Rattle.bench_base.specs.Cells.{OfRow, OfCustomer, same_place, place_of}
use Rattle.bench_base.specs.Cells as cells
use Rattle.bench_base.proofs.Facts.{not_none}
use Rattle.node_acts.specs.RowList.{row_at}
use Rattle.node_acts.specs.RowLaws.{listed_at}
use Rattle.centre_ledger.specs.Rows.{is_withdrawn}
use Rattle.ledger_terms.specs.Centres.{registered, enrolled, withdrawn, opened}
use Rattle.centre_ledger.specs.declared.{rows.DeviceRow.DeviceRow, rows.CustomerRow.CustomerRow, rows.Row.Row}
use Rattle.centre_ledger.specs.declared.rows.Row.TheVariants as row
use Rattle.centre_ledger.specs.Books.{Books, AreSound, IsDeviceOf, IsCustomerAt, device_at, customer_at}
use Rattle.centre_ledger.specs.Books as books
use Rattle.centre_ledger.specs.Order.{InOrder, Follows}
use Rattle.centre_ledger.specs.Laws.{IsSlotOf, IsCustomerSlotOf, touches_device, touches_customer}
use Rattle.centre_ledger.specs.ActLaws.{AreBooksOf}
use Rattle.centre_ledger.specs.Records.{enrolment_of, device_row_with, device_row, customer_row_with, customer_row, IsRowOf, IsCustomerOf}
use Rattle.centre_ledger.specs.Seen.{books_in, device_in, customer_in}
use Rattle.centre_ledger.proofs.ByCommits.{enrolled_is}
use Rattle.bench_abstraction.specs.Centre.{place_in, row_in, cell_after, seen_in}

-- == where there is no row, no commit lies ==

device_place : (d : ℕ) (x : Commit) → same_place (place_of x) (OfRow d) ≡ touches_device d x
device_place d (c.Registered e o k) = refl
device_place d _ = refl

customer_place : (w : ℕ) (x : Commit) → same_place (place_of x) (OfCustomer w) ≡ touches_customer w x
customer_place w (c.Opened e) = refl
customer_place w _ = refl

touched_device : (d : ℕ) (x : Commit) (C : List Commit) → Follows x C → touches_device d x ≡ true → IsSome (registered d (x ∷ C))
touched_device d (c.Registered e o k) C follows t = rw t refl
touched_device d (c.Ruled e n v note) C follows t = subst (λ (k : ℕ). IsSome (registered k C)) (eqb-true e d t) follows.0
touched_device d (c.Settled e n) C follows t = subst (λ (k : ℕ). IsSome (registered k C)) (eqb-true e d t) follows
touched_device d _ C follows t = absurd (true≢false (sym t))

touched_customer : (w : ℕ) (x : Commit) (C : List Commit) → Follows x C → touches_customer w x ≡ true → opened w (x ∷ C) ≡ true
touched_customer w (c.Opened e) C follows t = rw t refl
touched_customer w (c.Deposited e n a) C follows t = ap (λ (k : ℕ). opened k C) (sym (eqb-true e w t)) ∙ follows.0
touched_customer w (c.Flagged e flag) C follows t = ap (λ (k : ℕ). opened k C) (sym (eqb-true e w t)) ∙ follows
touched_customer w _ C follows t = absurd (true≢false (sym t))

untouched_device : (d : ℕ) (x : Commit) (C : List Commit) → touches_device d x ≡ false → registered d (x ∷ C) ≡ registered d C
untouched_device d (c.Registered e o k) C t = rw t refl
untouched_device d _ C t = refl

untouched_customer : (w : ℕ) (x : Commit) (C : List Commit) → touches_customer w x ≡ false → opened w (x ∷ C) ≡ opened w C
untouched_customer w (c.Opened e) C t = rw t refl
untouched_customer w _ C t = refl

pub no_device_commits : (d : ℕ) (C : List Commit) → InOrder C → registered d C ≡ None → cells.commits_at (OfRow d) C ≡ 0
no_device_commits d [] order none = refl
no_device_commits d (x ∷ C) order none = ⊎_elim
    (λ (t : touches_device d x ≡ true). not_none (registered d (x ∷ C)) (touched_device d x C order.0 t) none)
    (λ (t : touches_device d x ≡ false). rw (device_place d x, t) (no_device_commits d C order.1 (sym (untouched_device d x C t) ∙ none)))
    (cases_Bool (touches_device d x))

pub no_customer_commits : (w : ℕ) (C : List Commit) → InOrder C → opened w C ≡ false → cells.commits_at (OfCustomer w) C ≡ 0
no_customer_commits w [] order none = refl
no_customer_commits w (x ∷ C) order none = ⊎_elim
    (λ (t : touches_customer w x ≡ true). absurd (true≢false (sym (touched_customer w x C order.0 t) ∙ none)))
    (λ (t : touches_customer w x ≡ false). rw (customer_place w x, t) (no_customer_commits w C order.1 (sym (untouched_customer w x C t) ∙ none)))
    (cases_Bool (touches_customer w x))

-- == the rows in their cells ==

device_cell : (k : ℕ) (C : List Commit) → k < 8 → (place_in k ≡ OfRow (k + 1)) × (row_in k C ≡ option_map row.Device (device_row (k + 1) C))
device_cell k C lt = (rw (lt-ltb k 8 lt) refl, rw (lt-ltb k 8 lt) refl)

customer_cell : (k : ℕ) (C : List Commit) → 8 ≤ k → (place_in k ≡ OfCustomer (k - 7)) × (row_in k C ≡ option_map row.Customer (customer_row (k - 7) C))
customer_cell k C le = (rw (le-ltb k 8 le) refl, rw (le-ltb k 8 le) refl)

device_kept : (n : ℕ) (o : Option DeviceRow) → device_in (option_map (λ r. (n, r)) (option_map row.Device o)) ≡ o
device_kept n None = refl
device_kept n (Some r) = refl

customer_kept : (n : ℕ) (o : Option CustomerRow) → customer_in (option_map (λ r. (n, r)) (option_map row.Customer o)) ≡ o
customer_kept n None = refl
customer_kept n (Some r) = refl

pub seen_at : (C : List Commit) (k : ℕ) → k < CENTRE_CELLS → row_at (seen_in C) k ≡ cell_after k C
seen_at C k lt = listed_at CENTRE_CELLS (λ j. cell_after j C) None k lt

-- the rows that are seen after the commits
pub device_seen : (C : List Commit) (d : ℕ) → 1 ≤ d → d ≤ 8 → device_at (books_in (seen_in C)) d ≡ device_row d C
device_seen C d low high = rw (ne_eqb d 0 (λ is. omega (arith, low, is)))
    (listed_at 8 (λ j. device_in (row_at (seen_in C) j)) None (d - 1) (omega (arith, low, high))
    ∙ ap (λ (o : Option (ℕ × Row)). device_in o) (seen_at C (d - 1) (omega (arith, low, high)))
    ∙ ap (λ (o : Option Row). device_in (option_map (λ r. (cells.commits_at (place_in (d - 1)) C, r)) o)) (device_cell (d - 1) C (omega (arith, low, high))).1
    ∙ device_kept (cells.commits_at (place_in (d - 1)) C) (device_row (d - 1 + 1) C)
    ∙ ap (λ (k : ℕ). device_row k C) (omega (arith, low)))

pub customer_seen : (C : List Commit) (w : ℕ) → 1 ≤ w → w ≤ 64 → customer_at (books_in (seen_in C)) w ≡ customer_row w C
customer_seen C w low high = rw (ne_eqb w 0 (λ is. omega (arith, low, is)))
    (listed_at 64 (λ j. customer_in (row_at (seen_in C) (8 + j))) None (w - 1) (omega (arith, low, high))
    ∙ ap (λ (o : Option (ℕ × Row)). customer_in o) (seen_at C (8 + (w - 1)) (omega (arith, low, high)))
    ∙ ap (λ (o : Option Row). customer_in (option_map (λ r. (cells.commits_at (place_in (8 + (w - 1))) C, r)) o)) (customer_cell (8 + (w - 1)) C (omega (arith, low))).1
    ∙ customer_kept (cells.commits_at (place_in (8 + (w - 1))) C) (customer_row (8 + (w - 1) - 7) C)
    ∙ ap (λ (k : ℕ). customer_row k C) (omega (arith, low)))

-- == the rows that are seen are those of the commits ==

no_device : (d : ℕ) (C : List Commit) → All InRange C → (IsDevice d → ⊥) → registered d C ≡ None
no_device d [] range none = refl
no_device d (x ∷ C) range none = ⊎_elim
    (λ (t : touches_device d x ≡ true). absurd (none (device_in_range d x t (All-head InRange x C range))))
    (λ (t : touches_device d x ≡ false). untouched_device d x C t ∙ no_device d C (All-tail InRange x C range) none)
    (cases_Bool (touches_device d x))
  where
    device_in_range : (e : ℕ) (y : Commit) → touches_device e y ≡ true → InRange y → IsDevice e
    device_in_range e (c.Registered f o k) t fits = subst IsDevice (eqb-true f e t) fits.0
    device_in_range e (c.Ruled f n v note) t fits = subst IsDevice (eqb-true f e t) fits.0
    device_in_range e (c.Settled f n) t fits = subst IsDevice (eqb-true f e t) fits.0
    device_in_range e _ t fits = absurd (true≢false (sym t))

no_customer : (w : ℕ) (C : List Commit) → All InRange C → (IsCustomer w → ⊥) → opened w C ≡ false
no_customer w [] range none = refl
no_customer w (x ∷ C) range none = ⊎_elim
    (λ (t : touches_customer w x ≡ true). absurd (none (customer_in_range w x t (All-head InRange x C range))))
    (λ (t : touches_customer w x ≡ false). untouched_customer w x C t ∙ no_customer w C (All-tail InRange x C range) none)
    (cases_Bool (touches_customer w x))
  where
    customer_in_range : (e : ℕ) (y : Commit) → touches_customer e y ≡ true → InRange y → IsCustomer e
    customer_in_range e (c.Opened f) t fits = subst IsCustomer (eqb-true f e t) fits
    customer_in_range e (c.Deposited f n a) t fits = subst IsCustomer (eqb-true f e t) fits.0
    customer_in_range e (c.Flagged f flag) t fits = subst IsCustomer (eqb-true f e t) fits
    customer_in_range e _ t fits = absurd (true≢false (sym t))

withdrawn_is : (w : Option ℕ) (gone : Bool) → (gone ≡ true → IsSome w) → is_withdrawn (enrolment_of w gone) ≡ gone
withdrawn_is None true some = absurd (true≢false (sym (some refl)))
withdrawn_is None false some = refl
withdrawn_is (Some w) true some = refl
withdrawn_is (Some w) false some = refl

-- == in the places, and outside of them ==

within : (d n : ℕ) → ((1 ≤ d) × (d ≤ n)) ⊎ ((1 ≤ d) × (d ≤ n) → ⊥)
within d n = ⊎_elim
    (λ (low : nat_le 1 d ≡ true). ⊎_elim (λ (high : nat_le d n ≡ true). inl (leb_true 1 d low, leb_true d n high)) (λ (high : nat_le d n ≡ false). inr (λ is. leb_no d n high is.1)) (cases_Bool (nat_le d n)))
    (λ (low : nat_le 1 d ≡ false). inr (λ is. leb_no 1 d low is.0))
    (cases_Bool (nat_le 1 d))
  where
    leb_true : (i j : ℕ) → nat_le i j ≡ true → i ≤ j
    leb_true i j is = grind (arith, nat_tests)

    leb_no : (i j : ℕ) → nat_le i j ≡ false → i ≤ j → ⊥
    leb_no i j is le = grind (arith, nat_tests)

outside : {R : Type 0} (d : ℕ) (rows : List (Option R)) (n : ℕ) → length rows ≡ n → (1 ≤ d → d ≤ n → ⊥) → books.place_of rows d ≡ None
outside d rows n long none = ⊎_elim
    (λ (is : (d == 0) ≡ true). rw is refl)
    (λ (is : (d == 0) ≡ false). rw is (get_or_past rows (d - 1) None (⊎_elim (λ (in_it : (1 ≤ d) × (d ≤ n)). absurd (none in_it.0 in_it.1)) (λ (isnt : (1 ≤ d) × (d ≤ n) → ⊥). past isnt (not_zero is)) (within d n))))
    (cases_Bool (d == 0))
  where
    not_zero : (d == 0) ≡ false → 1 ≤ d
    not_zero is = grind (arith, nat_tests)

    past : ((1 ≤ d) × (d ≤ n) → ⊥) → 1 ≤ d → length rows ≤ d - 1
    past isnt low = ⊎_elim (λ (le : nat_le d n ≡ true). absurd (isnt (low, most le))) (λ (le : nat_le d n ≡ false). let more = least le in omega (arith, long, more)) (cases_Bool (nat_le d n))
      where
        most : nat_le d n ≡ true → d ≤ n
        most is = grind (arith, nat_tests)

        least : nat_le d n ≡ false → n < d
        least is = grind (arith, nat_tests)

module _ (C : List Commit) (order : InOrder C) (range : All InRange C) (owned : (d : ℕ) → withdrawn d C ≡ true → IsSome (enrolled d C)) (sound : AreSound (books_in (seen_in C))) where
  abbrev b : Books
  b = books_in (seen_in C)

  -- the row of a device that is registered, and of a customer that is open
  row_of : (d : ℕ) (x : ℕ × List ℕ) (r : DeviceRow) → registered d C ≡ Some x → Some (device_row_with d C x) ≡ Some r → IsRowOf r C
  row_of d x r made is = subst (λ (y : DeviceRow). IsRowOf y C) (same_Some _ _ is) (record {
    registered = made;
    enrolled = sym (enrolled_is (enrolled d C) (withdrawn d C));
    withdrawn = sym (withdrawn_is (enrolled d C) (withdrawn d C) (owned d));
    ruled = refl;
    settled = refl;
    bought = refl;
    returned = refl;
    request = refl;
    reply = refl;
  })

  customer_of : (w : ℕ) (r : CustomerRow) → opened w C ≡ true → Some (customer_row_with w C) ≡ Some r → IsCustomerOf r C
  customer_of w r open_is is = subst (λ (y : CustomerRow). IsCustomerOf y C) (same_Some _ _ is) (record { opened = open_is; suspended = refl; deposits = refl; receipt = refl })

  slot_of : (d : ℕ) (o : Option DeviceRow) → device_row d C ≡ o → IfSome o (IsDeviceOf d) → IsSlotOf o d C
  slot_of d o is placed = by (registered d C) refl o is placed
    where
      there : (x : ℕ × List ℕ) → registered d C ≡ Some x → device_row d C ≡ Some (device_row_with d C x)
      there x made = rw made refl

      by : (x : Option (ℕ × List ℕ)) → registered d C ≡ x → (q : Option DeviceRow) → device_row d C ≡ q → IfSome q (IsDeviceOf d) → IsSlotOf q d C
      by None made None at fits = made
      by None made (Some r) at fits = let none : device_row d C ≡ None = rw made refl in absurd (cc)
      by (Some x) made None at fits = let some = there x made in absurd (cc)
      by (Some x) made (Some r) at fits = (fits.device, fits.sound, row_of d x r made (sym (there x made) ∙ at))

  customer_slot_of : (w : ℕ) (o : Option CustomerRow) → customer_row w C ≡ o → IfSome o (IsCustomerAt w) → IsCustomerSlotOf o w C
  customer_slot_of w o is placed = by (opened w C) refl o is placed
    where
      by : (x : Bool) → opened w C ≡ x → (q : Option CustomerRow) → customer_row w C ≡ q → IfSome q (IsCustomerAt w) → IsCustomerSlotOf q w C
      by false made None at fits = made
      by false made (Some r) at fits = let none : customer_row w C ≡ None = rw made refl in absurd (cc)
      by true made None at fits = let some : customer_row w C ≡ Some (customer_row_with w C) = rw made refl in absurd (cc)
      by true made (Some r) at fits = (fits.customer, fits.sound, customer_of w r made (sym (the made) ∙ at))
        where
          the : opened w C ≡ true → customer_row w C ≡ Some (customer_row_with w C)
          the h = rw h refl

  pub books_of : AreBooksOf b C
  books_of = record {
    order = order;
    devices = λ d. ⊎_elim
        (λ (is : IsDevice d). slot_of d (device_at b d) (sym (device_seen C d is.0 is.1)) (sound.placed.devices d))
        (λ (none : IsDevice d → ⊥). subst (λ (o : Option DeviceRow). IsSlotOf o d C) (sym (outside d b.devices 8 sound.placed.device_count (λ low high. none (low, high)))) (no_device d C range none))
        (within d 8);
    customers = λ w. ⊎_elim
        (λ (is : IsCustomer w). customer_slot_of w (customer_at b w) (sym (customer_seen C w is.0 is.1)) (sound.placed.customers w))
        (λ (none : IsCustomer w → ⊥). subst (λ (o : Option CustomerRow). IsCustomerSlotOf o w C) (sym (outside w b.customers 64 sound.placed.customer_count (λ low high. none (low, high)))) (no_customer w C range none))
        (within w 64);
  }
