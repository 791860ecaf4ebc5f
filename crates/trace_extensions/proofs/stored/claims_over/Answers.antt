use Rattle.std.proofs.Common.{List, ℕ}
use Rattle.row_node.specs.Shows.{ShowsRows}
use Rattle.row_store.specs.Seen.{ReadsAs}
use Rattle.spoil_claims.specs.Payload.{decoded}
use Rattle.spoil_claims.specs.View.{rows_of, storage_of}
use Rattle.spoil_claims.specs.declared.claim.TheConstants.{CLAIM_CELLS}
use Rattle.trace_extensions.proofs.Mounted.{made_of}
use Rattle.trace_extensions.proofs.stored.claims_over.Goals as goal

pub returns-in-Ok-boot : goal.returns-in-Ok-boot
returns-in-Ok-boot c =
    let tells = c.store_of.ensures.tells in
    let desk = c.in-Ok-boot.desk in
    record {
      shows = made_of (λ (i : List ℕ). ShowsRows 73 CLAIM_CELLS (ReadsAs decoded) (rows_of desk) i) c.args.bytes.items c.in-Some.nv (storage_of desk)
          (c.in-Ok-boot.ensures.mounts tells) c.in-Some.ensures.only (c.in-Ok-boot.ensures.shows tells);
    }
