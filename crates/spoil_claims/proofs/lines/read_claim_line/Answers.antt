use Rattle.spoil_claims.proofs.Reading.{none_alone}
use Rattle.spoil_claims.proofs.lines.read_claim_line.Goals as goal

pub returns-in-None-clause-none : goal.returns-in-None-clause-none
returns-in-None-clause-none c = none_alone c.args.line.now c.args.line.now c.in-None.ensures.split
