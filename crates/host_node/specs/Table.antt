-- The jobs of the host as the rows of a node, and the laws that they meet.
use Rattle.std.proofs.Common.{◌≡◌, ℕ, List, Option, false, sym, ◌∙◌, subst, arith}
use Rattle.std.proofs.Props.{props}
use Rattle.std.proofs.Math.Logic.{∥∥₁_elim}
use Rattle.nv_store.specs.Slot.{Held}
use Rattle.node_acts.specs.RowLaws.{put_long}
use Rattle.row_node.specs.ShowsLaws.{ReadsOne}
use Rattle.row_node.specs.Kept.{seen_long}
use Rattle.row_node.specs.Tables.{Table, seen_of}
use Rattle.row_node.specs.Boots.{Found}
use Rattle.row_node.specs.Counts.{few_found, few_after}
use Rattle.row_node.specs.Laws.{Laws}
use Rattle.host_jobs.specs.declared.{rows.JobRow.JobRow, sizes.TheConstants.JOB_BYTES, sizes.TheConstants.HOST_CELLS}
use Rattle.host_jobs.specs.Payload.{job_bytes}
use Rattle.host_jobs.specs.Rows.{row_in}
use Rattle.host_jobs.specs.Soundness.{AreSound, IsDerived}
use Rattle.host_jobs.specs.Seen.{Seen, cell_of, counting, rows_in, IsKnown}
use Rattle.host_jobs.proofs.JobBytes.{one_job}
use Rattle.host_node.specs.Unique.{kept_prop}
use Rattle.host_node.specs.Payloads.{IsPayloadOf}
use Rattle.host_node.specs.Cells.{cell_inside, rows_put}
use Rattle.host_node.specs.Sound.{IsFit}
use Rattle.host_node.specs.declared.rows.HostRows.{HostRows}

pub payload_prop : (k : ℕ) (x : JobRow) (p : List ℕ) → IsProp (IsPayloadOf k x p)
payload_prop k x p = hlevel props

abbrev pub host_table : Table HostRows JobRow
host_table = record {
  Row = JobRow;
  cells = HOST_CELLS;
  reads = IsPayloadOf;
  one_way = payload_prop;
  spelled = job_bytes;
  cell = cell_of;
  row = λ s x. x;
  HasCell = λ x. Unit {0};
  IsFit = IsFit;
  Agree = λ s. AreSound (rows_in s);
  IsSound = IsKnown;
  kept = λ m held k. row_in m.jobs k;
  Follows = λ m held. IsDerived m.jobs m.kept;
  one_follows = λ m held. kept_prop m.jobs m.kept;
}

job_set : IsSet JobRow
job_set = hlevel props

-- the payload of a cell reads as one job
reads_one : ReadsOne IsPayloadOf
reads_one k x y p reads reads' = ∥∥₁_elim reads.1 (job_set x y) (λ a. ∥∥₁_elim reads'.1 (job_set x y) (λ b. one_job p x y a b))

-- what is seen of cells that hold sound jobs
sound_found : (m : HostRows) (held : ℕ → Option Held) → Found host_table m held → IsKnown (seen_of host_table m held)
sound_found m held found = record {
  long = seen_long HOST_CELLS IsPayloadOf (row_in m.jobs) held;
  few = few_found host_table m held found;
  sound = found.agree;
}

stays_sound : (s : Seen) (x : JobRow) → IsKnown s → IsFit s x → counting.is_worn s x ≡ false → IsKnown (counting.after s x)
stays_sound s x sound fits fresh = record {
  long = put_long s (cell_of x) x ∙ sound.long;
  few = few_after s (cell_of x) x (omega (arith, cell_inside x, sound.long)) sound.few fresh;
  sound = subst AreSound (sym (rows_put s x)) fits.sound;
}

pub host_laws : Laws JOB_BYTES host_table
host_laws = record {
  small = omega arith;
  inside = λ x has. cell_inside x;
  one_row = reads_one;
  long = λ s sound. sound.long;
  agree = λ s known. known.sound;
  sound = sound_found;
  stays_sound = λ s x sound has. stays_sound s x sound;
}
