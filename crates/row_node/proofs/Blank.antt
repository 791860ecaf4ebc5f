-- Zeros show cells of which nothing is seen, and rows that are blank.
use Rattle.std.proofs.Common.{◌≡◌, ℕ, zero, suc, ◌+◌, ◌*◌, ◌-◌, List, take, replicate, Option, Some, None, refl, sym, ◌∙◌, ap, subst}
use Rattle.std.proofs.lemmas.List.{drop-replicate}
use Rattle.nv_store.specs.Slot.{Held, slot, slots_at}
use Rattle.nv_store.specs.Store.{Shows}
use Rattle.nv_store.specs.Current.{current_none}
use Rattle.node_acts.specs.RowList.{RowList, row_at}
use Rattle.row_node.specs.Shows.{IsHeldAs, ShowsRows}

-- a front of zeros is no open slot
zero_slot : (n m : ℕ) → slot (take n (replicate m 0)) ≡ None
zero_slot zero m = refl
zero_slot (suc n) zero = refl
zero_slot (suc zero) (suc m) = refl
zero_slot (suc (suc n)) (suc zero) = refl
zero_slot (suc (suc zero)) (suc (suc m)) = refl
zero_slot (suc (suc (suc n))) (suc (suc zero)) = refl
zero_slot (suc (suc (suc zero))) (suc (suc (suc m))) = refl
zero_slot (suc (suc (suc (suc n)))) (suc (suc (suc zero))) = refl
zero_slot (suc (suc (suc (suc zero)))) (suc (suc (suc (suc m)))) = refl
zero_slot (suc (suc (suc (suc (suc n))))) (suc (suc (suc (suc zero)))) = refl
zero_slot (suc (suc (suc (suc (suc n))))) (suc (suc (suc (suc (suc m))))) = refl

zero_slots : (size at m i : ℕ) → slots_at size at (replicate m 0) i ≡ None
zero_slots size at m i =
    ap (λ (bytes : List ℕ). slot (take (1 + (4 + size)) bytes)) (drop-replicate (at + i * (5 + size)) m 0) ∙ zero_slot (1 + (4 + size)) (m - (at + i * (5 + size)))

pub zeros_show : (size n cells m : ℕ) → Shows size n cells (λ k. None) (replicate m 0)
zeros_show size n cells m = record {
  each = λ k lt. current_none n (slots_at size (k * (n * (5 + size))) (replicate m 0)) (λ i less. zero_slots size (k * (n * (5 + size))) m i);
  clear = λ k lt. record {
    counted = λ i a less is. let no = zero_slots size (k * (n * (5 + size))) m i in cc (no, is);
    distinct = λ i j a b less lesser here there same. let no = zero_slots size (k * (n * (5 + size))) m i in cc (no, here);
  };
}

-- == cells of which nothing is seen ==

module _ {R : Type 0} (s : RowList R) (none : (k : ℕ) → row_at s k ≡ None) where
  -- zeros show them
  pub blank_shown : (size cells bytes : ℕ) (reads : ℕ → R → List ℕ → Type 0) → ShowsRows size cells reads s (replicate bytes 0)
  blank_shown size cells bytes reads =
      let zeros = zeros_show size 2 cells bytes in
      record {
        each = λ k lt. subst (λ (h : Option Held). IsHeldAs (reads k) (row_at s k) h) (sym (zeros.each k lt)) (subst (λ (o : Option (ℕ × R)). IsHeldAs (reads k) o None) (sym (none k)) tt);
        clear = λ k lt. zeros.clear k lt;
      }
