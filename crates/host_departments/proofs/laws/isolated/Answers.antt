use Rattle.host_departments.proofs.Isolating.{isolation}
use Rattle.host_departments.proofs.laws.isolated.Goals as goal

pub returns : goal.returns
returns c = record { law = isolation }
