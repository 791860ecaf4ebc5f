use Rattle.std.proofs.Common.{[]}
use Rattle.host_departments.specs.View.{rows_of}
use Rattle.host_departments.proofs.Agreeing.{desk_agrees}
use Rattle.host_departments.proofs.Blank.{none_backed}
use Rattle.trace_extensions.proofs.DepartmentsHold.{hold_through, hold_if_lawful}
use Rattle.trace_extensions.proofs.departments_law.audited_departments_hold.Goals as goal

pub returns-clause-run : goal.returns-clause-run
returns-clause-run g c τ H script report rates v end history agree backed fits = hold_through c.histories.ensures.today τ H history rates v agree backed script report end fits

pub returns-clause-lawful : goal.returns-clause-lawful
returns-clause-lawful g c script report rates v w old new verdict agree fits = hold_if_lawful c.histories.ensures.today script report rates v w old new verdict agree fits

pub returns-clause-agree : goal.returns-clause-agree
returns-clause-agree g c desk = desk_agrees desk

pub returns-clause-first : goal.returns-clause-first
returns-clause-first g c desk none = none_backed (rows_of desk) [] none
