-- The slots of a ring are filled in turn.
use Rattle.std.specs.Prelude.{◌≡◌, ℕ, zero, suc, ◌+◌, ◌%◌, ◌<◌, slice_index, sum, if◌then◌else◌, ◌==◌}
use Rattle.nv_store.specs.declared.head.Head.{Head}
use Rattle.nv_ring.specs.declared.wear.Wear.{Wear}

-- the slot that commits go on from: the current one, 15 of a blank ring
abbrev pub start_of : Head → ℕ
start_of head = if head.count == 0 then 15 else head.place

-- the slot that commit number n from `start` on fills
abbrev pub slot_after : ℕ → ℕ → ℕ
slot_after start n = (start + n) % 16

-- how many of the first n commits from `start` on fill slot i
abbrev pub fills_of : ℕ → ℕ → ℕ → ℕ
fills_of start zero i = 0
fills_of start (suc n) i = fills_of start n i + (if i == slot_after start (suc n) then 1 else 0)

-- the wear of a ring with this head: since the mount so many commits filled the slots in turn
pub record IsWearOf (wear : Wear) (head : Head) : Type 0 where
  pub start : wear.start < 16
  pub count : wear.first + sum wear.fills ≡ head.count
  pub fills : (i : ℕ) → i < 16 → slice_index wear.fills i ≡ fills_of wear.start (sum wear.fills) i
  pub place : 0 < head.count → head.place ≡ slot_after wear.start (sum wear.fills)
  pub blank : head.count ≡ 0 → wear.start ≡ 15
