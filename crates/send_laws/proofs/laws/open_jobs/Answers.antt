use Rattle.send_laws.proofs.Opening.{by_states}
use Rattle.send_laws.proofs.laws.open_jobs.Goals as goal

pub returns-clause-turns : goal.returns-clause-turns
returns-clause-turns c C turn = by_states C turn

pub returns-clause-histories : goal.returns-clause-histories
returns-clause-histories c τ ρ ρs H edition history = by_states _ (c.orders.ensures.ordered τ ρ ρs H edition history).turns
