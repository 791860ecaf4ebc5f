use Rattle.run_laws.proofs.Going.{all_moved, after_both, stays, scanned_among}
use Rattle.run_laws.proofs.laws.trace.Goals as goal

pub returns-clause-moved : goal.returns-clause-moved
returns-clause-moved c τ H steps unforged run = all_moved τ H steps unforged run

pub returns-clause-both : goal.returns-clause-both
returns-clause-both c τ H a b = after_both τ H a b

pub returns-clause-stays : goal.returns-clause-stays
returns-clause-stays c τ H steps n bytes is = stays τ n bytes H steps is

pub returns-clause-scans : goal.returns-clause-scans
returns-clause-scans c τ H steps d n bytes did within event accepts = scanned_among τ n bytes d event accepts H steps did within
