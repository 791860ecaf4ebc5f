-- What is found of the cells of a node, as what its image shows.
use Rattle.std.proofs.Common.{◌≡◌, ℕ, ◌<◌, List, length, take, Option, Some, None, IfSome, Result, Ok, Err, IfOk, refl, sym, ◌∙◌, ap, subst, arith}
use Rattle.std.proofs.lemmas.List.{take-append-le, take_all}
use Rattle.std.specs.Io.KnownBytes.{Consumes}
use Rattle.bench_base.specs.declared.sizes.TheConstants.{ROW_BYTES, CENTRE_CELLS, BLOCK_BYTES, VERIFIER_CELLS}
use Rattle.node_acts.specs.RowList.{row_at}
use Rattle.centre_ledger.specs.declared.rows.Row.{Row}
use Rattle.centre_ledger.specs.Seen as centre_seen
use Rattle.centre_protocol.specs.Cells as centre_cells
use Rattle.centre_protocol.specs.Payloads as centre_rows
use Rattle.host_jobs.specs.declared.{rows.JobRow.JobRow, sizes.TheConstants.JOB_BYTES, sizes.TheConstants.HOST_CELLS}
use Rattle.host_jobs.specs.Seen as host_seen
use Rattle.host_node.specs.Cells as host_cells
use Rattle.host_node.specs.Payloads as host_rows
use Rattle.verifier.specs.declared.acts.Change.{Change}
use Rattle.verifier.specs.Seen as verifier_seen
use Rattle.verifier.specs.Payload as verifier_rows
use Rattle.node_images.specs.declared.cell.CellShows.{CellShows}
use Rattle.node_images.specs.declared.cell.CellShows.TheVariants as cell
use Rattle.node_images.specs.Cells.{ShowsCell, ShowsOpen, IsWhat}
use Rattle.node_images.specs.Joined.{bytes_of}
use Rattle.trace_nodes.specs.declared.traced.Traced.{Traced}
use Rattle.trace_centre.specs.declared.record.CentreRecord.{CentreRecord}
use Rattle.trace_centre.specs.Cells as centre
use Rattle.trace_host.specs.declared.record.HostRecord.{HostRecord}
use Rattle.trace_host.specs.Cells as host
use Rattle.trace_verifier.specs.declared.record.ScanRecord.{ScanRecord}
use Rattle.trace_verifier.specs.Cells as verifier
use Rattle.trace_folder.specs.Changes.{at_place}
use Rattle.trace_folder.specs.Images.{ImageIs, CentreImageIs, HostImageIs, VerifierImageIs}
use Rattle.trace_folder.specs.Walks.{CellsAre, image_of}
use Rattle.trace_folder.specs.declared.shows.Shows.{Shows}
use Rattle.trace_folder.proofs.SoundRecords.{some_as}
use Rattle.trace_folder.proofs.Tables.{Leaves, leaves, table_is}

-- == an image of one cell ==

-- what holds of the bytes that were taken holds of as many of those that were left
pub of_taken : (P : List ℕ → Type 0) (n : ℕ) (a b : Option (List ℕ)) (cell : List ℕ) → Consumes a b cell → length cell ≡ n → P cell → IfSome a (λ bytes. P (take n bytes))
of_taken P n None b cell taken long is = tt
of_taken P n (Some x) None cell taken long is = absurd taken
of_taken P n (Some x) (Some y) cell taken long is =
    subst P (sym (ap (λ (l : List ℕ). take n l) taken ∙ take-append-le n cell y (omega (arith, long)) ∙ take_all n cell (omega (arith, long)))) is

-- where nothing was found there is nothing to say of it
pub none_found : {A T E : Type 0} (Q : A → T → Type 0) (a : Option A) (e : E) → IfSome a (λ x. IfOk {T = T} {E = E} (Err e) (Q x))
none_found Q None e = tt
none_found Q (Some x) e = tt

one_is : (c o : Type 0) (x : CellShows) → IsWhat c o x → ImageIs c o (λ k. k ≡ 0) (image_of x)
one_is c o cell.Counted is = is
one_is c o cell.Open is = is
one_is c o cell.Other is = (is.0, is.1, refl)

pub one_cell : (c o : Type 0) (x : CellShows) (s : Shows) → s ≡ image_of x → IsWhat c o x → ImageIs c o (λ k. k ≡ 0) s
one_cell c o x s same is = subst (λ (t : Shows). ImageIs c o (λ k. k ≡ 0) t) (sym same) (one_is c o x is)

-- == an image of many ==

-- what was found of the bytes is so in other words
pub found_as : {A T E : Type 0} (P Q : A → T → Type 0) (a : Option A) (r : Result T E) → ((x : A) (t : T) → P x t → Q x t) → IfSome a (λ x. IfOk r (P x)) → IfSome a (λ x. IfOk r (Q x))
found_as P Q None r each is = tt
found_as P Q (Some x) (Ok t) each is = each x t is
found_as P Q (Some x) (Err e) each is = tt

module _ (t : Traced CentreRecord Row) (settled : centre.IsSettled t) where
  centre_leaves : Leaves (λ k. at_place centre_seen.cell_of (λ x. x) k t.open) (centre.cells_of t.record) (centre.view_of t).next
  centre_leaves =
      leaves centre_seen.cell_of (λ x. x) (centre.cells_of t.record) t.open
      (some_as _ _ t.open (λ x can. omega (arith, centre_cells.cell_inside x can.fits.has, t.record.kept.long)) settled.takes)

  pub centre_is : (image : List ℕ) (s : Shows)
      → CellsAre (λ k c. ShowsCell ROW_BYTES (centre_rows.IsPayloadOf k) (row_at (centre.cells_of t.record) k) c)
      (λ k c. ShowsOpen ROW_BYTES (centre_rows.IsPayloadOf k) (row_at (centre.cells_of t.record) k) (at_place centre_seen.cell_of (λ x. x) k t.open) c)
      (λ k. bytes_of ROW_BYTES k image) CENTRE_CELLS s
      → CentreImageIs t image s
  centre_is image s are =
      table_is ROW_BYTES CENTRE_CELLS centre_rows.IsPayloadOf (λ k. at_place centre_seen.cell_of (λ x. x) k t.open) image (centre.view_of t) centre_leaves s are

module _ (t : Traced HostRecord JobRow) where
  host_leaves : Leaves (λ k. at_place host_seen.cell_of (λ x. x) k t.open) (host.cells_of t.record) (host.view_of t).next
  host_leaves =
      leaves host_seen.cell_of (λ x. x) (host.cells_of t.record) t.open
      (every t.open (λ x. omega (arith, host_cells.cell_inside x, t.record.joined.long)))
    where
      every : (o : Option JobRow) → ((x : JobRow) → host_seen.cell_of x < length (host.cells_of t.record)) → IfSome o (λ x. host_seen.cell_of x < length (host.cells_of t.record))
      every None each = tt
      every (Some x) each = each x

  pub host_is : (image : List ℕ) (s : Shows)
      → CellsAre (λ k c. ShowsCell JOB_BYTES (host_rows.IsPayloadOf k) (row_at (host.cells_of t.record) k) c)
      (λ k c. ShowsOpen JOB_BYTES (host_rows.IsPayloadOf k) (row_at (host.cells_of t.record) k) (at_place host_seen.cell_of (λ x. x) k t.open) c)
      (λ k. bytes_of JOB_BYTES k image) HOST_CELLS s
      → HostImageIs t image s
  host_is image s are = table_is JOB_BYTES HOST_CELLS host_rows.IsPayloadOf (λ k. at_place host_seen.cell_of (λ x. x) k t.open) image (host.view_of t) host_leaves s are

module _ (t : Traced ScanRecord Change) (settled : verifier.IsSettled t) where
  verifier_leaves : Leaves (λ k. at_place verifier_seen.cell_of (λ x. verifier_seen.row_with (verifier.cells_of t.record) x) k t.open) (verifier.cells_of t.record) (verifier.view_of t).next
  verifier_leaves =
      leaves verifier_seen.cell_of (λ x. verifier_seen.row_with (verifier.cells_of t.record) x) (verifier.cells_of t.record) t.open
      (some_as _ _ t.open (λ x can. omega (arith, can.fits.inside, t.record.kept.sound.long)) settled.takes)

  pub verifier_is : (image : List ℕ) (s : Shows)
      → CellsAre (λ k c. ShowsCell BLOCK_BYTES (verifier_rows.IsPayloadOf k) (row_at (verifier.cells_of t.record) k) c)
      (λ k c. ShowsOpen BLOCK_BYTES (verifier_rows.IsPayloadOf k) (row_at (verifier.cells_of t.record) k) (at_place verifier_seen.cell_of (λ x. verifier_seen.row_with (verifier.cells_of t.record) x) k t.open) c)
      (λ k. bytes_of BLOCK_BYTES k image) VERIFIER_CELLS s
      → VerifierImageIs t image s
  verifier_is image s are =
      table_is BLOCK_BYTES VERIFIER_CELLS verifier_rows.IsPayloadOf (λ k. at_place verifier_seen.cell_of (λ x. verifier_seen.row_with (verifier.cells_of t.record) x) k t.open) image (verifier.view_of t) verifier_leaves s are
