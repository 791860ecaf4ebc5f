use Rattle.trace_runs.proofs.One.{one_run}
use Rattle.trace_runs.proofs.laws.one_ledger.Goals as goal

pub returns : goal.returns
returns c τ H left a b run run' alike = one_run c.one_reply.ensures.law τ H left a b run run' alike
