use Rattle.std.proofs.Common.{arith}
use Rattle.payload_rows.proofs.Same.{scans_same}
use Rattle.payload_rows.proofs.verifier_rows.has_scans.Goals as goal

pub returns-clause-yes : goal.returns-clause-yes
returns-clause-yes c is =
    scans_same c.args.payload.now c.args.scans.now c.told-scans (λ j lt. c.loop-place.invariant j (omega (arith, lt, c.loop-place-test.false)))
