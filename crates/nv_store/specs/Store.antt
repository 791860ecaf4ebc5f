-- A store of cells over a storage: what an image shows, what a commit may leave, and why it answers so.
use Rattle.std.specs.Prelude.{◌≡◌, ◌≢◌, ◌⊎◌, ◌↔◌, ◌||◌, ℕ, zero, suc, ◌+◌, ◌-◌, ◌*◌, ◌<◌, ◌≤◌, ◌^◌, List, Bool, true, false, Option, Some, None, Result, IsOk, IsErrOf, OnOk, OnErr, if◌then◌else◌, ◌==◌, get_or}
use Rattle.bench_base.specs.declared.{refusals.StoreFail.StoreFail, refusals.StoreFail.TheVariants.Power, refusals.StoreFail.TheVariants.Fault, refusals.StoreFail.TheVariants.Worn, refusals.StoreFail.TheVariants.Failed}
use Rattle.bench_base.specs.Causes.{Rose}
use Rattle.nv_model.specs.declared.nv.Nv.{Ghosts}
use Rattle.nv_model.specs.Meters.{Meters, WasCut, Uses, UsesExactly}
use Rattle.nv_model.specs.Moments.{Times, Only, Elapses, Rests}
use Rattle.nv_store.specs.Slot.{Held, slots_at, IsClear}
use Rattle.nv_store.specs.Cells.{Known, shown, next_of}
use Rattle.nv_store.specs.Fails.{ends_failed}
use Rattle.nv_store.specs.declared.head.Head.{Head}

-- cells of n slots lie one after the other: what the image shows in cell k, its count and its payload
abbrev pub cell_shown : ℕ → ℕ → List ℕ → ℕ → Option Held
cell_shown size n image k = shown size n (k * (n * (5 + size))) image

-- cell k is not mixed
abbrev pub CellClear : ℕ → ℕ → List ℕ → ℕ → Type 0
CellClear size n image k = IsClear n (slots_at size (k * (n * (5 + size))) image)

-- The part of *Shows* on slots and counts, for cells of n slots with payloads of `size` bytes. In each cell the open slot
-- with the greatest count has what the cell holds, and where the cell holds nothing no slot is open. No open slot has
-- count 0, and no two of a cell have equal counts.
pub record Shows (size n cells : ℕ) (held : ℕ → Option Held) (image : List ℕ) : Type 0 where
  pub each : (k : ℕ) → k < cells → cell_shown size n image k ≡ held k
  pub clear : (k : ℕ) → k < cells → CellClear size n image k

-- the only image of now is this content, and it shows these cells
pub record OnlyShows (size n cells : ℕ) (held : ℕ → Option Held) (now : Times) (content : List ℕ) : Type 0 where
  pub only : Only now content
  pub shows : Shows size n cells held content

-- the count of what a cell holds, 0 where it is blank
abbrev pub count_of : Option Held → ℕ
count_of None = 0
count_of (Some held) = held.0

-- the payload of what a cell holds
abbrev pub payload_of : Option Held → Option (List ℕ)
payload_of None = None
payload_of (Some held) = Some held.1

-- what a cell holds after a commit
abbrev pub after_commit : Option Held → List ℕ → Option Held
after_commit before payload = Some (count_of before + 1, payload)

-- an image of a commit to `cell`: this cell shows what it held or the new payload with one commit more, the others what they held, and no cell is mixed
pub record Between (size n cells cell : ℕ) (before : ℕ → Option Held) (payload : List ℕ) (image : List ℕ) : Type 0 where
  pub here : (cell_shown size n image cell ≡ before cell) ⊎ (cell_shown size n image cell ≡ after_commit (before cell) payload)
  pub others : (k : ℕ) → k < cells → k ≢ cell → cell_shown size n image k ≡ before k
  pub clear : (k : ℕ) → k < cells → CellClear size n image k

-- why a commit answers so, and what it costs the storage
pub record Causes (before now : Meters) (had_failed : Bool) (count : ℕ) (result : Result (Unit {0}) StoreFail) : Type 0 where
  pub cuts : before.cuts ≤ now.cuts
  pub faults : before.faults ≤ now.faults
  pub fuse : Uses 6 before.fuse now.fuse
  pub power : IsErrOf result Power → WasCut before now
  pub fault : IsErrOf result Fault → Rose before.faults now.faults
  pub failed : IsErrOf result Failed ↔ (had_failed ≡ true)
  pub worn : IsErrOf result Worn ↔ ((had_failed ≡ false) × (count ≡ 2 ^ 32 - 1))
  pub powered : IsOk result → now.lost ≡ false

-- how often a commit calls the storage to write or sync: twice more where the slot that it fills is open
abbrev pub commit_calls : Bool → ℕ
commit_calls true = 6
commit_calls false = 4

-- so many at all events
abbrev pub UsesCommit : Option ℕ → Option ℕ → Type 0
UsesCommit before now = UsesExactly 4 before now ⊎ UsesExactly 6 before now

-- whether the slot that the next commit fills is open
abbrev pub next_is_open : ℕ → Head → Bool
next_is_open n head = get_or head.gates (next_of head.count head.place n) false

-- what a cell with so many commits holds
abbrev pub one_held : ℕ → List ℕ → Option Held
one_held count payload = if count == 0 then None else Some (count, payload)

-- the sum of the counts of the first n cells
abbrev pub count_sum : ℕ → (ℕ → Option Held) → ℕ
count_sum zero held = 0
count_sum (suc n) held = count_sum n held + count_of (held n)

-- what a running value that hasn't failed knows of a storage with one cell at its front: the only image is the content,
-- and the cell's slots are those of the head and the payload
pub record Holds (size n : ℕ) (head : Head) (payload : List ℕ) (now : Times) (content : List ℕ) : Type 0 where
  pub only : Only now content
  pub known : Known n (slots_at size 0 content) head.count head.place head.gates payload

-- what contracts see of a store
pub record StoreView : Type 1 where
  -- the number of its cells, and what each holds: the number of its commits and its payload, or nothing
  pub cells : ℕ
  pub held : ℕ → Option Held
  -- whether an earlier commit answered Power or Fault
  pub failed : Bool
  -- whether the slot that the next commit to a cell fills is open
  pub fills_open : ℕ → Bool
  -- what a read of its storage gives, and the size of the storage in bytes
  pub content : List ℕ
  pub size : ℕ
  -- the moment of the storage, and its images since each moment
  pub times : Times
  -- the counts of the storage, whether its power is lost, and its fuse
  pub meters : Meters

-- that of a store of one cell of n slots
abbrev pub one_view : {N : Type 0} → Ghosts N → ℕ → N → Head → List ℕ → Bool → StoreView
one_view g n nv head payload failed = record {
  cells = 1;
  held = λ k. one_held head.count payload;
  failed = failed;
  fills_open = λ k. next_is_open n head;
  content = g.content nv;
  size = g.size nv;
  times = g.times nv;
  meters = g.meters nv;
}

-- a commit to `cell` changes what this cell holds, and no other, or nothing
pub record ChangesCell (cell : ℕ) (payload : List ℕ) (before now : StoreView) (result : Result (Unit {0}) StoreFail) : Type 0 where
  pub here : OnOk result (now.held cell ≡ after_commit (before.held cell) payload)
  pub others : (k : ℕ) → k < before.cells → k ≢ cell → now.held k ≡ before.held k
  pub unchanged : OnErr result (now.held cell ≡ before.held cell)
  pub cells : now.cells ≡ before.cells
  pub failed : now.failed ≡ (before.failed || ends_failed result)

-- what the storage may show of it
pub record ShowsChange (tells : Type 0) (L slots cell : ℕ) (payload : List ℕ) (before now : StoreView) (result : Result (Unit {0}) StoreFail) : Type 0 where
  -- each image since the call began shows what was before, or the new payload in this cell
  pub any_moment : tells → before.failed ≡ false → (c : List ℕ) → now.times.since before.times.moment c
      → Between L slots before.cells cell before.held payload c
  pub time : tells → Elapses before.times now.times
  -- after Ok the only image shows what the store holds then
  pub shows : tells → OnOk result (OnlyShows L slots now.cells now.held now.times now.content)
  -- Worn and Failed leave it alone
  pub untouched : tells → (IsErrOf result Worn ⊎ IsErrOf result Failed) → Rests before.content now.content before.times now.times

-- what a commit of a payload to a store with cells of so many slots did
pub record CommitsCell (tells : Type 0) (L slots cell : ℕ) (payload : List ℕ) (before now : StoreView) (result : Result (Unit {0}) StoreFail) : Type 0 where
  pub held : ChangesCell cell payload before now result
  pub images : ShowsChange tells L slots cell payload before now result
  pub size : now.size ≡ before.size
  pub causes : Causes before.meters now.meters before.failed (count_of (before.held cell)) result
  -- of an armed fuse a commit that succeeds uses six calls, four where the slot that it fills was closed
  pub calls : OnOk result (UsesExactly (commit_calls (before.fills_open cell)) before.meters.fuse now.meters.fuse)
  pub free : (IsErrOf result Worn ⊎ IsErrOf result Failed) → now.meters ≡ before.meters
