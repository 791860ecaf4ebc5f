use Rattle.std.proofs.Common.{ap, subst, sym, ◌≡◌, ◌+◌, ◌-◌, ◌<◌, length, Option, arith}
use Rattle.std.specs.Prelude.{is_some, IsSome}
use Rattle.nv_store.specs.RoomView.{cells_of, kept_in}
use Rattle.node_acts.specs.RowList.{put}
use Rattle.spoil_claims.specs.Claims.{HasNoGaps, kept, last_claim}
use Rattle.spoil_claims.specs.Courses.{row_for}
use Rattle.spoil_claims.specs.View.{rows_of}
use Rattle.spoil_claims.specs.declared.claim.ClaimRow.{ClaimRow}
use Rattle.spoil_claims.proofs.Keeping.{next_packed, put_claim, rows_long}
use Rattle.spoil_claims.proofs.desk.Desk.unknown.Goals as goal

pub commit-requires-clause-packed : goal.commit-requires-clause-packed
commit-requires-clause-packed g c =
    let s = c.args.self.now in
    let next : c.args.claim ≡ last_claim (rows_of s) + 1 = omega (arith, c.if-claim-last.false, c.last-last.ensures.is) in
    let lt : c.args.claim - 1 < length (rows_of s) =
    omega (arith, rows_long (cells_of s.room) (kept_in s.room), s.cells, c.if-claim-last.false, c.if-claim.false, c.last-last.ensures.range, c.requires.claim.first) in
    subst (λ (x : ClaimRow). HasNoGaps (put (rows_of s) (x.claim - 1) x)) (sym c.open_claim-row.ensures) (next_packed (rows_of s) (row_for c.args.claim c.args.customer c.args.mark.now) s.packed next lt)

pub commit-requires-clause-waits : goal.commit-requires-clause-waits
commit-requires-clause-waits g c =
    let s = c.args.self.now in
    let lt : c.args.claim - 1 < length (rows_of s) =
    omega (arith, rows_long (cells_of s.room) (kept_in s.room), s.cells, c.if-claim-last.false, c.if-claim.false, c.last-last.ensures.range, c.requires.claim.first) in (
      c.requires.claim.first,
      subst (λ (x : ClaimRow). IsSome (kept (put (rows_of s) (x.claim - 1) x) c.args.claim)) (sym c.open_claim-row.ensures)
          (ap (λ (o : Option ClaimRow). is_some o) (put_claim (rows_of s) (c.args.claim - 1) (row_for c.args.claim c.args.customer c.args.mark.now) lt)),
    )
