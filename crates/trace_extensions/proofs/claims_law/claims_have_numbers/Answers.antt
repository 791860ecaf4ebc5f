use Rattle.std.proofs.Common.{[]}
use Rattle.spoil_claims.specs.ClaimsDesk.{by_keeper}
use Rattle.trace_runs.specs.Verdicts.{status_of}
use Rattle.trace_extensions.specs.ClaimsModel.{standing_keeper}
use Rattle.trace_extensions.proofs.ClaimsKept.{left_numbers, none_numbers, first_backed}
use Rattle.trace_extensions.proofs.Ran.{whole_end}
use Rattle.trace_extensions.proofs.claims_law.claims_have_numbers.Goals as goal

pub returns-clause-none : goal.returns-clause-none
returns-clause-none c rows none = none_numbers rows none

pub returns-clause-left : goal.returns-clause-left
returns-clause-left c τ H v end script report rates numbers fits = left_numbers τ H v (status_of end) (whole_end (by_keeper standing_keeper) end) script report rates fits numbers

pub returns-clause-first : goal.returns-clause-first
returns-clause-first c audit rows τ texts sees none =
    first_backed audit rows τ texts sees none (c.first_claims_are_backed.ensures.first rows [] none c.first_claims_are_backed.ensures.nothing)
