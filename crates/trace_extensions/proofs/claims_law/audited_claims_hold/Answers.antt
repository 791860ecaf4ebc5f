use Rattle.spoil_claims.specs.ClaimsDesk.{by_keeper}
use Rattle.trace_runs.specs.Verdicts.{status_of}
use Rattle.trace_extensions.specs.ClaimsModel.{standing_keeper}
use Rattle.trace_extensions.proofs.ClaimsKept.{run_keeps, kept_if_lawful}
use Rattle.trace_extensions.proofs.Ran.{whole_end}
use Rattle.trace_extensions.proofs.claims_law.audited_claims_hold.Goals as goal

pub returns-clause-run : goal.returns-clause-run
returns-clause-run c audit τ H v end script report rates at fits =
    run_keeps τ H v (status_of end) (whole_end (by_keeper standing_keeper) end) script report rates fits at.numbers c.histories.ensures.today at.history at.backed

pub returns-clause-verdict : goal.returns-clause-verdict
returns-clause-verdict c script report rates v w old new verdict fits = kept_if_lawful c.histories.ensures.today script report rates v w old new verdict fits
