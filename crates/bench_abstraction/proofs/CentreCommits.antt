-- What one commit of the centre does to what is seen of it.
use Rattle.std.proofs.Common.{◌≡◌, ◌≢◌, ℕ, ◌+◌, ◌-◌, ◌<◌, ◌≤◌, List, ◌∷◌, Option, Some, None, Bool, true, false, option_map, refl, sym, ◌∙◌, ap, arith}
use Rattle.std.specs.Prelude.{◌==◌, nat_lt, nat_le, get_or, set, if◌then◌else◌}
use Rattle.std.proofs.lemmas.Bool.{eq-eqb, ne_eqb, lt-ltb, le-ltb, ltb-false}
use Rattle.std.proofs.lemmas.List.{get_or-set_same, get_or-set_other}
use Rattle.bench_base.specs.declared.{sizes.TheConstants.CENTRE_CELLS, sizes.TheConstants.MOST_COMMITS, ledger.Commit.Commit}
use Rattle.bench_base.specs.Ranges.{IsDevice, IsCustomer}
use Rattle.bench_base.specs.Cells.{Place, OfDevice, OfRow, OfCustomer, OfJob, OfTrust, OfBlock, same_place, place_of}
use Rattle.bench_base.specs.Cells as cells
use Rattle.node_acts.specs.RowList.{row_at, put, commits_at}
use Rattle.node_acts.specs.RowList as rows
use Rattle.node_acts.specs.RowLaws.{put_listed}
use Rattle.centre_ledger.specs.declared.{rows.Row.Row, rows.DeviceRow.DeviceRow, rows.CustomerRow.CustomerRow}
use Rattle.centre_ledger.specs.declared.rows.Row.TheVariants as row
use Rattle.centre_ledger.specs.Books.{Books, ArePlaced, device_at, customer_at, put_row}
use Rattle.centre_ledger.specs.ActLaws.{AreBooksOf}
use Rattle.centre_ledger.specs.Order.{InOrder}
use Rattle.centre_ledger.specs.Seen.{cell_of, IsKnown}
use Rattle.ledger_terms.specs.Centres.{registered, opened}
use Rattle.std.proofs.lemmas.Bool.Decides.{nat_tests}
use Rattle.centre_ledger.specs.Records.{device_row_with, device_row, customer_row_with, customer_row}
use Rattle.centre_ledger.proofs.ByCommits.{one_device, one_customer}
use Rattle.bench_abstraction.specs.Centre.{place_in, row_in, cell_after, seen_in}
use Rattle.bench_abstraction.proofs.CentreRows.{seen_at, no_device_commits, no_customer_commits}
use Rattle.bench_abstraction.proofs.Counts.{top_is}

-- the row has a cell
abbrev pub HasCell : Row → Type 0
HasCell (row.Device r) = IsDevice r.device
HasCell (row.Customer r) = IsCustomer r.customer

cell_inside : (x : Row) → HasCell x → cell_of x < CENTRE_CELLS
cell_inside (row.Device r) has = omega arith
cell_inside (row.Customer r) has = omega arith

-- == one cell or another ==

same_place_self : (p : Place) → same_place p p ≡ true
same_place_self (OfDevice d) = eq-eqb d d refl
same_place_self (OfRow d) = eq-eqb d d refl
same_place_self (OfCustomer w) = eq-eqb w w refl
same_place_self (OfJob j) = eq-eqb j j refl
same_place_self (OfTrust d) = eq-eqb d d refl
same_place_self (OfBlock d b) = rw (eq-eqb d d refl, eq-eqb b b refl) refl

is_small : (k : ℕ) → nat_lt k 8 ≡ true → k < 8
is_small k is = grind (arith, nat_tests)

apart_by : (j k : ℕ) → j ≢ k → (low high : Bool) → nat_lt j 8 ≡ low → nat_lt k 8 ≡ high → same_place (place_in j) (place_in k) ≡ false
apart_by j k differs true true is is' = rw (is, is') (ne_eqb (j + 1) (k + 1) (λ same. differs (omega (arith, same))))
apart_by j k differs true false is is' = rw (is, is') refl
apart_by j k differs false true is is' = rw (is, is') refl
apart_by j k differs false false is is' = rw (is, is') (ne_eqb (j - 7) (k - 7) (λ same. differs (omega (arith, same, ltb-false j 8 is, ltb-false k 8 is'))))

apart : (j k : ℕ) → j ≢ k → same_place (place_in j) (place_in k) ≡ false
apart j k differs = apart_by j k differs (nat_lt j 8) (nat_lt k 8) refl refl

-- == the rows after a commit ==

same_rows : (k : ℕ) (C D : List Commit) → (k < 8 → device_row (k + 1) D ≡ device_row (k + 1) C) → (8 ≤ k → customer_row (k - 7) D ≡ customer_row (k - 7) C) → row_in k D ≡ row_in k C
same_rows k C D device customer = by (nat_lt k 8) refl
  where
    by : (low : Bool) → nat_lt k 8 ≡ low → row_in k D ≡ row_in k C
    by true is = rw is (ap (λ (o : Option DeviceRow). option_map row.Device o) (device (is_small k is)))
    by false is = rw is (ap (λ (o : Option CustomerRow). option_map row.Customer o) (customer (ltb-false k 8 is)))

place_stays : {R : Type 0} (rows : List (Option R)) (i d : ℕ) (r : R) → d - 1 ≢ i → (if d == 0 then None else get_or (set rows i (Some r)) (d - 1) None) ≡ (if d == 0 then None else get_or rows (d - 1) None)
place_stays {R} rows i d r differs = ap (λ (o : Option R). if d == 0 then None else o) (get_or-set_other rows i (d - 1) (Some r) None differs)

device_put : (b : Books) (r : DeviceRow) → ArePlaced b → IsDevice r.device → device_at (put_row b (row.Device r)) r.device ≡ Some r
device_put b r placed has = rw (ne_eqb r.device 0 (λ is. omega (arith, has, is))) (get_or-set_same b.devices (r.device - 1) (Some r) None (omega (arith, has, placed.device_count)))

customer_put : (b : Books) (r : CustomerRow) → ArePlaced b → IsCustomer r.customer → customer_at (put_row b (row.Customer r)) r.customer ≡ Some r
customer_put b r placed has = rw (ne_eqb r.customer 0 (λ is. omega (arith, has, is))) (get_or-set_same b.customers (r.customer - 1) (Some r) None (omega (arith, has, placed.customer_count)))

-- how many commits are seen of a cell
pub counted_at : (k : ℕ) (C : List Commit) → InOrder C → commits_at (cell_after k C) ≡ cells.commits_at (place_in k) C
counted_at k C order = by (nat_lt k 8) refl
  where
    by_device : (o : Option (ℕ × List ℕ)) → registered (k + 1) C ≡ o → commits_at (option_map (λ x. (cells.commits_at (OfRow (k + 1)) C, x)) (option_map row.Device (option_map (λ y. device_row_with (k + 1) C y) o))) ≡ cells.commits_at (OfRow (k + 1)) C
    by_device None is = sym (no_device_commits (k + 1) C order is)
    by_device (Some x) is = refl

    by_customer : (o : Bool) → opened (k - 7) C ≡ o
        → commits_at (option_map (λ x. (cells.commits_at (OfCustomer (k - 7)) C, x)) (option_map row.Customer (if o then Some (customer_row_with (k - 7) C) else None))) ≡ cells.commits_at (OfCustomer (k - 7)) C
    by_customer false is = sym (no_customer_commits (k - 7) C order is)
    by_customer true is = refl

    by : (low : Bool) → nat_lt k 8 ≡ low → commits_at (cell_after k C) ≡ cells.commits_at (place_in k) C
    by true is = rw is (by_device (registered (k + 1) C) refl)
    by false is = rw is (by_customer (opened (k - 7) C) refl)

module _ (C : List Commit) (b : Books) (are : AreBooksOf b C) (placed : ArePlaced b) (c : Commit) where
  module _ (x : Row) (later : AreBooksOf (put_row b x) (c ∷ C)) where
    device_stays : (d : ℕ) → device_at (put_row b x) d ≡ device_at b d → device_row d (c ∷ C) ≡ device_row d C
    device_stays d same = one_device (device_at (put_row b x) d) d (c ∷ C) (later.devices d) ∙ same ∙ sym (one_device (device_at b d) d C (are.devices d))

    customer_stays : (w : ℕ) → customer_at (put_row b x) w ≡ customer_at b w → customer_row w (c ∷ C) ≡ customer_row w C
    customer_stays w same = one_customer (customer_at (put_row b x) w) w (c ∷ C) (later.customers w) ∙ same ∙ sym (one_customer (customer_at b w) w C (are.customers w))

  -- the row of another cell
  row_stays : (x : Row) → HasCell x → AreBooksOf (put_row b x) (c ∷ C) → (k : ℕ) → k ≢ cell_of x → row_in k (c ∷ C) ≡ row_in k C
  row_stays (row.Device r) has later k differs =
      same_rows k C (c ∷ C)
      (λ lt. device_stays (row.Device r) later (k + 1) (place_stays b.devices (r.device - 1) (k + 1) r (λ same. differs (omega (arith, same, has)))))
      (λ le. customer_stays (row.Device r) later (k - 7) refl)
  row_stays (row.Customer r) has later k differs =
      same_rows k C (c ∷ C)
      (λ lt. device_stays (row.Customer r) later (k + 1) refl)
      (λ le. customer_stays (row.Customer r) later (k - 7) (place_stays b.customers (r.customer - 1) (k - 7) r (λ same. differs (omega (arith, same, has, le)))))

  -- the row of its own
  row_here : (x : Row) → HasCell x → AreBooksOf (put_row b x) (c ∷ C) → row_in (cell_of x) (c ∷ C) ≡ Some x
  row_here (row.Device r) has later =
      rw (lt-ltb (r.device - 1) 8 (omega (arith, has)))
      (ap (λ (o : Option DeviceRow). option_map row.Device o)
      (ap (λ (d : ℕ). device_row d (c ∷ C)) (omega (arith, has)) ∙ one_device (device_at (put_row b (row.Device r)) r.device) r.device (c ∷ C) (later.devices r.device) ∙ device_put b r placed has))
  row_here (row.Customer r) has later =
      rw (le-ltb (7 + r.customer) 8 (omega (arith, has)))
      (ap (λ (o : Option CustomerRow). option_map row.Customer o)
      (ap (λ (w : ℕ). customer_row w (c ∷ C)) (omega (arith, has)) ∙ one_customer (customer_at (put_row b (row.Customer r)) r.customer) r.customer (c ∷ C) (later.customers r.customer) ∙ customer_put b r placed has))

  module _ (x : Row) (has : HasCell x) (later : AreBooksOf (put_row b x) (c ∷ C)) (at : place_of c ≡ place_in (cell_of x)) where
    count_here : cells.commits_at (place_in (cell_of x)) (c ∷ C) ≡ cells.commits_at (place_in (cell_of x)) C + 1
    count_here = rw (ap (λ (p : Place). same_place p (place_in (cell_of x))) at ∙ same_place_self (place_in (cell_of x))) refl

    count_there : (k : ℕ) → k ≢ cell_of x → cells.commits_at (place_in k) (c ∷ C) ≡ cells.commits_at (place_in k) C
    count_there k differs = rw (ap (λ (p : Place). same_place p (place_in k)) at ∙ apart (cell_of x) k (λ same. differs (sym same))) refl

    -- what is seen after the commit
    pub seen_put : seen_in (c ∷ C) ≡ put (seen_in C) (cell_of x) x
    seen_put = put_listed CENTRE_CELLS (λ k. cell_after k C) (λ k. cell_after k (c ∷ C)) (cell_of x) x (cell_inside x has)
        (ap (λ (o : Option Row). option_map (λ y. (cells.commits_at (place_in (cell_of x)) (c ∷ C), y)) o) (row_here x has later)
        ∙ ap (λ (n : ℕ). Some (n, x)) (count_here ∙ ap (λ (n : ℕ). n + 1) (sym (counted_at (cell_of x) C are.order))))
        (λ k differs. ap (λ (o : Option Row). option_map (λ y. (cells.commits_at (place_in k) (c ∷ C), y)) o) (row_stays x has later k differs)
        ∙ ap (λ (n : ℕ). option_map (λ y. (n, y)) (row_in k C)) (count_there k differs))

    -- its cell is worn where the ledger says so
    pub worn : IsKnown (seen_in C) → cells.is_worn c C ≡ rows.is_worn (seen_in C) (cell_of x)
    unfolding cells.is_worn
    worn known =
        let here : commits_at (row_at (seen_in C) (cell_of x)) ≡ cells.commits_at (place_of c) C =
        ap (λ (o : Option (ℕ × Row)). commits_at o) (seen_at C (cell_of x) (cell_inside x has)) ∙ counted_at (cell_of x) C are.order ∙ ap (λ (p : Place). cells.commits_at p C) (sym at) in
        ap (λ (n : ℕ). nat_le MOST_COMMITS n) (sym here) ∙ top_is (commits_at (row_at (seen_in C) (cell_of x))) MOST_COMMITS (known.few (cell_of x))
