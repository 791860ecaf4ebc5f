use Rattle.std.proofs.Common.{arith}
use Rattle.spoil_claims.proofs.Keeping.{kept_past, here_by}
use Rattle.spoil_claims.proofs.desk.Desk.kept.Goals as goal

pub returns-then-claim-gt-CLAIM_CELLS-clause-is : goal.returns-then-claim-gt-CLAIM_CELLS-clause-is
returns-then-claim-gt-CLAIM_CELLS-clause-is g c =
    let s = c.args.self.now in
    kept_past _ _ c.args.claim (omega (arith, s.cells, c.if-claim-gt-CLAIM_CELLS.true))

pub returns-clause-here : goal.returns-clause-here
returns-clause-here g c =
    let s = c.args.self.now in
    here_by _ _ s.read s.cells c.args.claim c.requires.first (omega (arith, c.if-claim-gt-CLAIM_CELLS.false)) c.row_in.result c.row_in.ensures
