-- The centre before its first commit: nothing is seen of it, which is sound.
use Rattle.std.proofs.Common.{◌≡◌, ℕ, zero, suc, ◌+◌, [], Option, None, Bool, true, false, get_or, replicate, refl, sym, ◌∙◌, ap, subst}
use Rattle.std.specs.Prelude.{nat_lt, IfSome}
use Rattle.bench_base.specs.declared.sizes.TheConstants.{CENTRE_CELLS}
use Rattle.node_acts.specs.RowList.{row_at, row_of}
use Rattle.node_acts.specs.RowLaws.{listed_long, listed_is}
use Rattle.node_acts.proofs.Blanks.{none_at, few_none}
use Rattle.centre_ledger.specs.declared.{rows.DeviceRow.DeviceRow, rows.CustomerRow.CustomerRow, rows.Row.Row}
use Rattle.centre_ledger.specs.Books.{AreSound, no_rows}
use Rattle.centre_ledger.specs.Seen.{books_in, device_in, customer_in}
use Rattle.centre_ledger.proofs.Kept.{none_kept}
use Rattle.centre_protocol.specs.Payloads.{IsIn}
use Rattle.centre_protocol.specs.Sound.{IsSound}
use Rattle.bench_abstraction.specs.Centre.{cell_after, seen_in}

no_cell : (k : ℕ) → cell_after k [] ≡ None
no_cell k = by (nat_lt k 8) refl
  where
    by : (low : Bool) → nat_lt k 8 ≡ low → cell_after k [] ≡ None
    by true is = rw is refl
    by false is = rw is refl

pub centre_nothing : (k : ℕ) → row_at (seen_in []) k ≡ None
centre_nothing k = none_at CENTRE_CELLS (λ j. cell_after j []) no_cell k

same_in : {X : Type 0} (x : X) (n k : ℕ) → get_or (replicate n x) k x ≡ x
same_in x zero k = refl
same_in x (suc n) zero = refl
same_in x (suc n) (suc k) = same_in x n k

no_books : books_in (seen_in []) ≡ no_rows
no_books = λ i. record {
  devices = listed_is 8 (λ k. device_in (row_at (seen_in []) k)) None (replicate 8 None) refl (λ k lt. same_in {X = Option DeviceRow} None 8 k ∙ sym (ap (λ (o : Option (ℕ × Row)). device_in o) (centre_nothing k))) i;
  customers = listed_is 64 (λ k. customer_in (row_at (seen_in []) (8 + k))) None (replicate 64 None) refl (λ k lt. same_in {X = Option CustomerRow} None 64 k ∙ sym (ap (λ (o : Option (ℕ × Row)). customer_in o) (centre_nothing (8 + k)))) i;
}

pub centre_sound : IsSound (seen_in [])
centre_sound = record {
  known = record { long = listed_long CENTRE_CELLS (λ k. cell_after k []); few = few_none (seen_in []) centre_nothing; sound = subst AreSound (sym no_books) none_kept.sound };
  placed = λ k. subst (λ (o : Option (ℕ × Row)). IfSome (row_of o) (IsIn k)) (sym (centre_nothing k)) tt;
}
