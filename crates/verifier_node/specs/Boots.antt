-- What a boot of the verifier finds in its cells.
use Rattle.std.specs.Prelude.{◌≡◌, ◌⊎◌, ℕ, ◌+◌, ◌<◌, ◌≤◌, List, length, Option, Some, None, IsSome}
use Rattle.bench_base.specs.declared.sizes.TheConstants.{MOST_COMMITS, VERIFIER_CELLS, FIRST_BLOCK}
use Rattle.nv_store.specs.Slot.{Held}
use Rattle.nv_store.specs.Store.{count_of, payload_of}
use Rattle.node_acts.specs.RowList.{row_at}
use Rattle.row_node.specs.Kept.{IsFilled, HoldsForeign}
use Rattle.verifier.specs.declared.index.Entry.{Entry}
use Rattle.verifier.specs.Index.{cell_in, IsIndexOf}
use Rattle.verifier.specs.Payload.{IsPayloadOf, word_at}
use Rattle.verifier.specs.Seen.{Seen, row_in, block_in, key_at, AreTogether}
use Rattle.verifier_node.specs.Payloads.{rows_held, seen_held, HoldRows}

-- the payload of cell k, where it has one, reads as a row
pub record CellRead (held : ℕ → Option Held) (k : ℕ) : Type 0 where
  pub filled : IsFilled (IsPayloadOf k) (rows_held held k) (held k)
  pub few : count_of (held k) ≤ MOST_COMMITS

-- a payload reads as none
abbrev pub HasForeign : (ℕ → Option Held) → Type 0
HasForeign held = HoldsForeign VERIFIER_CELLS IsPayloadOf held

-- each payload reads as a row
abbrev pub AreRead : (ℕ → Option Held) → Type 0
AreRead held = (k : ℕ) → k < VERIFIER_CELLS → CellRead held k

-- device and number of the block that a payload spells; 0 and 0 if there is no payload
abbrev pub block_spelled : Option (List ℕ) → ℕ × ℕ
block_spelled None = (0, 0)
block_spelled (Some payload) = (word_at 0 payload, word_at 1 payload)

-- device and number of the block in cell k
abbrev pub block_held : (ℕ → Option Held) → ℕ → ℕ × ℕ
block_held held k = block_spelled (payload_of (held k))

-- each cell of blocks before n holds a block of a trusted device
pub record AreListed (held : ℕ → Option Held) (n : ℕ) : Type 0 where
  pub from : FIRST_BLOCK ≤ n
  pub blocks : (k : ℕ) → FIRST_BLOCK ≤ k → k < n → block_in (row_in (seen_held held) k) ≡ Some (block_held held k)
  pub trusted : (k : ℕ) → FIRST_BLOCK ≤ k → k < n → IsSome (key_at (seen_held held) (block_held held k).0)

-- the index has the blocks of the cells before n, which have no gap; their devices are trusted
pub record IsIndexed (s : Seen) (es : List Entry) (n : ℕ) : Type 0 where
  pub many : FIRST_BLOCK + length es ≡ n
  pub found : (k d b : ℕ) → k < n → block_in (row_in s k) ≡ Some (d, b) → cell_in es d b ≡ Some k
  pub only : (d b k : ℕ) → cell_in es d b ≡ Some k → (k < n) × (block_in (row_in s k) ≡ Some (d, b))
  pub trusted : (k d b : ℕ) → k < n → block_in (row_in s k) ≡ Some (d, b) → IsSome (key_at s d)
  pub packed : (k : ℕ) → FIRST_BLOCK ≤ k → k < n → IsSome (row_at s k)

-- the cells from n on are blank
abbrev pub AreBlank : (ℕ → Option Held) → ℕ → Type 0
AreBlank held n = (k : ℕ) → n ≤ k → k < VERIFIER_CELLS → held k ≡ None

-- one of them is not
pub record HasGap (held : ℕ → Option Held) (n : ℕ) : Type 0 where
  pub cell : ℕ
  pub kept : Held
  pub behind : n ≤ cell
  pub inside : cell < VERIFIER_CELLS
  pub is : held cell ≡ Some kept

-- the rows break a condition together
abbrev pub Breaks : (ℕ → Option Held) → Type 0
Breaks held = AreTogether (seen_held held) → ⊥

-- the rows agree, and the index is theirs
pub record AreJoined (held : ℕ → Option Held) (es : List Entry) : Type 0 where
  pub together : AreTogether (seen_held held)
  pub indexed : IsIndexOf es (seen_held held)

-- the cells hold no sound rows
abbrev pub HoldNone : (ℕ → Option Held) → Type 0
HoldNone held = HasForeign held ⊎ (HoldRows held × Breaks held)

-- the cells hold sound rows, and this is their index
pub record HoldSound (held : ℕ → Option Held) (es : List Entry) : Type 0 where
  pub read : AreRead held
  pub joined : AreJoined held es
