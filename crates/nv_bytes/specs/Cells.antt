-- The bytes of a cell, out of an image: they show what the cell of the image shows.
use Rattle.std.proofs.Common.{◌≡◌, ℕ, suc, ◌+◌, ◌-◌, ◌*◌, ◌<◌, ◌≤◌, List, take, drop, sym, ◌∙◌, ap, arith}
use Rattle.std.proofs.Math.Nat.{mul-le-mul_right}
use Rattle.std.proofs.lemmas.List.{drop-take, drop-drop, take-take}
use Rattle.nv_model.specs.Bytes.{range}
use Rattle.nv_store.specs.Slot.{slot, slots_at, current, IsClear}
use Rattle.nv_store.specs.Current.{current_same, clear_same}

-- the bytes of the cell of so many slots that begins at a place
abbrev pub cell_at : ℕ → ℕ → ℕ → List ℕ → List ℕ
cell_at size n at image = range image at (n * (5 + size))

pub slot_same : (size n at i : ℕ) (image : List ℕ) → i < n → slots_at size 0 (cell_at size n at image) i ≡ slots_at size at image i
slot_same size n at i image inside =
    ap slot (ap (λ (k : ℕ). take (1 + (4 + size)) (drop k (take (n * (5 + size)) (drop at image)))) (omega arith)
    ∙ ap (λ (k : ℕ). take (1 + (4 + size)) (drop (i * (5 + size)) (take k (drop at image))))
    (room (mul-le-mul_right {m = suc i} {n = n} (5 + size) (omega arith)))
    ∙ ap (λ (l : List ℕ). take (1 + (4 + size)) l) (drop-take (i * (5 + size)) (n * (5 + size) - i * (5 + size)) (drop at image))
    ∙ take-take (1 + (4 + size)) (n * (5 + size) - i * (5 + size)) (drop (i * (5 + size)) (drop at image))
    (wide (mul-le-mul_right {m = suc i} {n = n} (5 + size) (omega arith)))
    ∙ ap (λ (l : List ℕ). take (1 + (4 + size)) l) (drop-drop (i * (5 + size)) at image ∙ ap (λ (k : ℕ). drop k image) (omega arith)))
  where
    step : suc i * (5 + size) ≡ i * (5 + size) + (5 + size)
    step = omega arith

    room : suc i * (5 + size) ≤ n * (5 + size) → n * (5 + size) ≡ i * (5 + size) + (n * (5 + size) - i * (5 + size))
    room le = omega (arith, le, step)

    wide : suc i * (5 + size) ≤ n * (5 + size) → 1 + (4 + size) ≤ n * (5 + size) - i * (5 + size)
    wide le = omega (arith, le, step)

pub shown_same : (size n at : ℕ) (image : List ℕ) → current n (slots_at size 0 (cell_at size n at image)) ≡ current n (slots_at size at image)
shown_same size n at image = current_same n (slots_at size at image) (slots_at size 0 (cell_at size n at image))
    (λ i inside. slot_same size n at i image inside)

pub clear_here : (size n at : ℕ) (image : List ℕ) → IsClear n (slots_at size at image) → IsClear n (slots_at size 0 (cell_at size n at image))
clear_here size n at image clear = clear_same n (slots_at size at image) (slots_at size 0 (cell_at size n at image))
    (λ i inside. slot_same size n at i image inside) clear

pub clear_there : (size n at : ℕ) (image : List ℕ) → IsClear n (slots_at size 0 (cell_at size n at image)) → IsClear n (slots_at size at image)
clear_there size n at image clear =
    clear_same n (slots_at size 0 (cell_at size n at image)) (slots_at size at image) (λ i inside. sym (slot_same size n at i image inside)) clear
