-- The rows of the verifier as those of a node, and the laws that they meet.
use Rattle.std.proofs.Common.{◌≡◌, ℕ, List, Option, false, sym, ◌∙◌, arith}
use Rattle.std.proofs.Props.{props}
use Rattle.bench_base.specs.declared.sizes.TheConstants.{BLOCK_BYTES, VERIFIER_CELLS}
use Rattle.nv_store.specs.Slot.{Held}
use Rattle.row_node.specs.ShowsLaws.{ReadsOne}
use Rattle.row_node.specs.Tables.{Table}
use Rattle.row_node.specs.Boots.{Found}
use Rattle.row_node.specs.Counts.{few_found, few_after}
use Rattle.row_node.specs.Laws.{Laws}
use Rattle.verifier.specs.declared.{acts.Change.Change, index.Entry.Entry}
use Rattle.verifier.specs.ActLaws.{IsFit}
use Rattle.verifier.specs.Payload.{IsPayloadOf, row_bytes}
use Rattle.verifier.specs.Rows.{Row, TrustRow, BlockRow}
use Rattle.verifier.specs.Seen.{Seen, AreTogether, IsKnown, cell_of, row_with, counting}
use Rattle.verifier.proofs.Laid.{payload_laws}
use Rattle.verifier_node.specs.Payloads.{rows_held, seen_held}
use Rattle.verifier_node.specs.Boots.{AreJoined}
use Rattle.verifier_node.specs.Held.{held_sound}
use Rattle.verifier_node.specs.Sound.{HasCell}
use Rattle.verifier_node.specs.declared.rows.VerifierRows.{VerifierRows}

pub payload_prop : (k : ℕ) (x : Row) (p : List ℕ) → IsProp (IsPayloadOf k x p)
payload_prop k (TrustRow d key) p = hlevel props
payload_prop k (BlockRow d b scans) p = hlevel props

pub joined_prop : (held : ℕ → Option Held) (es : List Entry) → IsProp (AreJoined held es)
joined_prop held es = hlevel props

abbrev pub verifier_table : Table VerifierRows Change
verifier_table = record {
  Row = Row;
  cells = VERIFIER_CELLS;
  reads = IsPayloadOf;
  one_way = payload_prop;
  spelled = row_bytes;
  cell = cell_of;
  row = row_with;
  HasCell = HasCell;
  IsFit = IsFit;
  Agree = AreTogether;
  IsSound = IsKnown;
  kept = λ m held k. rows_held held k;
  Follows = λ m held. AreJoined held m.index;
  one_follows = λ m held. joined_prop held m.index;
}

-- the payload of a cell reads as one row
reads_one : ReadsOne IsPayloadOf
reads_one k x y p reads reads' = sym (payload_laws.one_row k x p reads) ∙ payload_laws.one_row k y p reads'

-- what is seen of cells that hold sound rows
sound_found : (m : VerifierRows) (held : ℕ → Option Held) → Found verifier_table m held → IsKnown (seen_held held)
sound_found m held found = record {
  sound = held_sound held found.keeps.filled found.agree;
  few = few_found verifier_table m held found;
}

stays_sound : (s : Seen) (x : Change) → IsKnown s → HasCell x → IsFit s x → counting.is_worn s x ≡ false → IsKnown (counting.after s x)
stays_sound s x known has fits fresh = record {
  sound = fits.sound;
  few = few_after s (cell_of x) (row_with s x) (omega (arith, has, known.sound.long)) known.few fresh;
}

pub verifier_laws : Laws BLOCK_BYTES verifier_table
verifier_laws = record {
  small = omega arith;
  inside = λ x has. has;
  one_row = reads_one;
  long = λ s known. known.sound.long;
  agree = λ s known. known.sound.together;
  sound = sound_found;
  stays_sound = stays_sound;
}
