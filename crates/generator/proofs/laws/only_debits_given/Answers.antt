use Rattle.generator.proofs.Every.{all_debits}
use Rattle.generator.proofs.laws.only_debits_given.Goals as goal

pub returns : goal.returns
returns c = record { law = all_debits }
