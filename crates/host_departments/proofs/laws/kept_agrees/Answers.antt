use Rattle.host_departments.proofs.Agreeing.{desk_agrees, none_agree}
use Rattle.host_departments.proofs.laws.kept_agrees.Goals as goal

pub returns-clause-kept : goal.returns-clause-kept
returns-clause-kept g c desk = desk_agrees desk

pub returns-clause-none : goal.returns-clause-none
returns-clause-none g c rows long none = none_agree rows long none
