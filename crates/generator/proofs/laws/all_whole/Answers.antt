use Rattle.generator.proofs.Every.{all_whole}
use Rattle.generator.proofs.laws.all_whole.Goals as goal

pub returns : goal.returns
returns c = record { law = all_whole }
