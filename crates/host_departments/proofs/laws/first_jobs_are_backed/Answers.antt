use Rattle.host_departments.proofs.Blank.{none_backed}
use Rattle.host_departments.proofs.laws.first_jobs_are_backed.Goals as goal

pub returns : goal.returns
returns c = record { first = none_backed }
