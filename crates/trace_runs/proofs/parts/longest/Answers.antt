use Rattle.std.proofs.Common.{arith}
use Rattle.trace_runs.proofs.PrintParts.{line_ends, goes_on}
use Rattle.trace_runs.proofs.parts.longest.Goals as goal
use Rattle.trace_runs.proofs.parts.longest.Goals.{else-part-bytes-via-then-part-bytes+else-bytes-part-eq10, else-part-bytes-via-else-part-bytes}

pub returns-then-bytes-part-eq10 : goal.returns-then-bytes-part-eq10
returns-then-bytes-part-eq10 c =
    let e = c.common-part.ensures in
    line_ends c.args.digits.now c.args.bytes.now c.common-part.result e.within e.inside e.alike e.most c.if-part-bytes.true c.if-bytes-part-eq10.true

pub returns-else-part-bytes : goal.returns-else-part-bytes
returns-else-part-bytes c =
    let e = c.common-part.ensures in
    goes_on c.args.digits.now c.args.bytes.now c.common-part.result e.within e.inside e.alike e.most (λ more is. elim c.else-part-bytes.branch [
      | else-part-bytes-via-then-part-bytes+else-bytes-part-eq10 w ↦ w.if-bytes-part-eq10.false is
      | else-part-bytes-via-else-part-bytes w ↦ let few = w.if-part-bytes.false in omega (arith, more, few)
    ])
