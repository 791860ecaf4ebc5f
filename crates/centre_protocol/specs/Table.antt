-- The rows of the centre as those of a node, and the laws that they meet.
use Rattle.std.proofs.Common.{◌≡◌, inl, inr, ℕ, ◌+◌, List, length, Option, Some, None, false, IfSome, sym, ◌∙◌, ap, subst, arith}
use Rattle.std.proofs.Props.{props}
use Rattle.std.proofs.Math.Logic.{∥∥₁_elim}
use Rattle.std.proofs.lemmas.Bool.{cases_eq, cases_lt}
use Rattle.std.proofs.lemmas.List.{get_or_past}
use Rattle.bench_base.specs.declared.sizes.TheConstants.{ROW_BYTES, CENTRE_CELLS}
use Rattle.nv_store.specs.Slot.{Held}
use Rattle.node_acts.specs.RowList.{row_at, row_of, commits_at, put}
use Rattle.node_acts.specs.RowLaws.{put_long, put_here, put_other}
use Rattle.row_node.specs.ShowsLaws.{ReadsOne}
use Rattle.row_node.specs.Kept.{IsFilled, seen_long, seen_row}
use Rattle.row_node.specs.Tables.{Table, seen_of}
use Rattle.row_node.specs.Boots.{Found}
use Rattle.row_node.specs.Counts.{few_found, few_after}
use Rattle.row_node.specs.Laws.{Laws}
use Rattle.centre_ledger.specs.declared.{rows.DeviceRow.DeviceRow, rows.CustomerRow.CustomerRow, rows.Row.Row}
use Rattle.centre_ledger.specs.declared.rows.Row.TheVariants as row
use Rattle.centre_ledger.specs.Books.{AreSound}
use Rattle.centre_ledger.specs.Payload.{row_bytes}
use Rattle.centre_ledger.proofs.OneRow.{one_device_row}
use Rattle.centre_ledger.proofs.CustomerBytes.{one_customer_row}
use Rattle.centre_ledger.specs.Seen.{Seen, cell_of, counting, books_in}
use Rattle.centre_protocol.specs.Payloads.{IsIn, IsPayloadOf}
use Rattle.centre_protocol.specs.Cells.{HasCell, row_in, cell_inside, is_in, cells_put}
use Rattle.centre_protocol.specs.Sound.{IsSound, IsFit}
use Rattle.centre_protocol.specs.declared.rows.CentreRows.{CentreRows}

pub payload_prop : (k : ℕ) (x : Row) (p : List ℕ) → IsProp (IsPayloadOf k x p)
payload_prop k (row.Device r) p = hlevel props
payload_prop k (row.Customer r) p = hlevel props

abbrev pub centre_table : Table CentreRows Row
centre_table = record {
  Row = Row;
  cells = CENTRE_CELLS;
  reads = IsPayloadOf;
  one_way = payload_prop;
  spelled = row_bytes;
  cell = cell_of;
  row = λ s x. x;
  HasCell = HasCell;
  IsFit = IsFit;
  Agree = λ s. AreSound (books_in s);
  IsSound = IsSound;
  kept = λ m held k. row_in m.accounts k;
  Follows = λ m held. Unit {0};
  one_follows = λ m held. hlevel props;
}

device_set : IsSet DeviceRow
device_set = hlevel props

customer_set : IsSet CustomerRow
customer_set = hlevel props

-- the payload of a cell reads as one row
reads_one : ReadsOne IsPayloadOf
reads_one k (row.Device r) (row.Device s) p reads reads' =
    ap (λ (x : DeviceRow). row.Device x) (∥∥₁_elim reads.1 (device_set r s) (λ a. ∥∥₁_elim reads'.1 (device_set r s) (λ b. one_device_row p r s a b)))
reads_one k (row.Device r) (row.Customer s) p reads reads' = absurd (omega (arith, reads.0.1, reads'.0.1))
reads_one k (row.Customer r) (row.Device s) p reads reads' = absurd (omega (arith, reads.0.1, reads'.0.1))
reads_one k (row.Customer r) (row.Customer s) p reads reads' =
    ap (λ (x : CustomerRow). row.Customer x) (∥∥₁_elim reads.1 (customer_set r s) (λ a. ∥∥₁_elim reads'.1 (customer_set r s) (λ b. one_customer_row p r s a b)))

-- what is seen of cells that hold sound rows
sound_found : (m : CentreRows) (held : ℕ → Option Held) → Found centre_table m held → IsSound (seen_of centre_table m held)
sound_found m held found = record {
  known = record { long = long; few = few_found centre_table m held found; sound = found.agree };
  placed = λ k. elim (cases_lt k CENTRE_CELLS) [
    | inr past ↦ subst (λ (o : Option (ℕ × Row)). IfSome (row_of o) (IsIn k)) (sym (get_or_past s k None (omega (arith, long, past)))) tt
    | inl inside ↦
        subst (λ (o : Option Row). IfSome o (IsIn k)) (sym (seen_row CENTRE_CELLS IsPayloadOf (row_in m.accounts) held found.keeps.filled k inside))
        (in_cell k (row_in m.accounts k) (held k) (found.keeps.filled k inside))
  ];
}
  where
    s : Seen
    s = seen_of centre_table m held

    long : length s ≡ CENTRE_CELLS
    long = seen_long CENTRE_CELLS IsPayloadOf (row_in m.accounts) held

    in_cell : (k : ℕ) (o : Option Row) (h : Option Held) → IsFilled (IsPayloadOf k) o h → IfSome o (IsIn k)
    in_cell k None h filled = tt
    in_cell k (Some x) None filled = absurd filled
    in_cell k (Some x) (Some h) filled = filled.0

stays_sound : (s : Seen) (x : Row) → IsSound s → HasCell x → IsFit s x → counting.is_worn s x ≡ false → IsSound (counting.after s x)
stays_sound s x sound has fits fresh = record {
  known = record {
    long = put_long s (cell_of x) x ∙ sound.known.long;
    few = few_after s (cell_of x) x (omega (arith, cell_inside x has, sound.known.long)) sound.known.few fresh;
    sound = subst AreSound (sym (cells_put s x sound.known.long has)) fits;
  };
  placed = λ k. elim (cases_eq k (cell_of x)) [
    | inl is ↦
        subst (λ (o : Option (ℕ × Row)). IfSome (row_of o) (IsIn k)) (sym (ap (row_at (put s (cell_of x) x)) is ∙ here))
        (subst (λ (j : ℕ). IsIn j x) (sym is) (is_in x has))
    | inr differs ↦ subst (λ (o : Option (ℕ × Row)). IfSome (row_of o) (IsIn k)) (sym (put_other s (cell_of x) x k differs)) (sound.placed k)
  ];
}
  where
    here : row_at (put s (cell_of x) x) (cell_of x) ≡ Some (commits_at (row_at s (cell_of x)) + 1, x)
    here = put_here s (cell_of x) x (omega (arith, cell_inside x has, sound.known.long))

pub centre_laws : Laws ROW_BYTES centre_table
centre_laws = record {
  small = omega arith;
  inside = cell_inside;
  one_row = reads_one;
  long = λ s sound. sound.known.long;
  agree = λ s sound. sound.known.sound;
  sound = sound_found;
  stays_sound = stays_sound;
}
