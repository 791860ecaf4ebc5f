use Rattle.centre_statement.proofs.Following.{all_follow}
use Rattle.centre_statement.proofs.Funds.{all_fit}
use Rattle.centre_statement.proofs.laws.balances.Goals as goal

pub returns-clause-follows : goal.returns-clause-follows
returns-clause-follows c = λ τ ρ ρs H editions history. let held = c.histories.ensures.holds τ ρ ρs H editions history in all_follow ρ H held.lawful held.owners held.fitting

pub returns-clause-fits : goal.returns-clause-fits
returns-clause-fits c = λ τ ρ ρs H editions history. all_fit τ ρ ρs H editions history (c.histories.ensures.holds τ ρ ρs H editions history).lawful
