use Rattle.bench_base.specs.Rules.{todays_rules}
use Rattle.trace_runs.proofs.AllRuns.{runs_history}
use Rattle.trace_runs.proofs.Running.{trace_runs, runs}
use Rattle.trace_runs.proofs.laws.fits_are_lawful.Goals as goal

pub returns-clause-history : goal.returns-clause-history
returns-clause-history c τ H left trace history run = runs τ H left trace history run

pub returns-clause-told : goal.returns-clause-told
returns-clause-told c τ H left trace history are =
    (c.histories.ensures.holds τ todays_rules _ _ c.histories.ensures.today (trace_runs τ H left trace history are)).lawful

pub returns-clause-lawful : goal.returns-clause-lawful
returns-clause-lawful c τ H K runs history fit =
    (c.histories.ensures.holds τ todays_rules _ _ c.histories.ensures.today (runs_history c.histories.ensures.today τ H K runs history fit)).lawful
