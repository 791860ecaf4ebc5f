use Rattle.verifier.specs.Payload.{scans_of}
use Rattle.payload_rows.proofs.Same.{one_number, one_scans}
use Rattle.payload_rows.proofs.verifier_rows.reads_as_block.Goals as goal

pub returns-then-not-is_same-clause-no : goal.returns-then-not-is_same-clause-no
returns-then-not-is_same-clause-no c is reads =
    c.is_same.ensures.no c.if-not-is_same.true
    (one_number c.in-Some.found c.args.device c.args.block (scans_of c.args.payload.now) c.args.scans.now c.args.payload.now c.in-Some.ensures reads)

pub returns-clause-no : goal.returns-clause-no
returns-clause-no c is reads =
    c.has_scans.ensures.no is
    (one_scans c.in-Some.found.0 c.in-Some.found.1 c.args.device c.args.block (scans_of c.args.payload.now) c.args.scans.now c.args.payload.now c.in-Some.ensures reads)
