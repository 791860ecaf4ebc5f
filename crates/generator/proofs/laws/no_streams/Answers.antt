use Rattle.generator.proofs.Every.{all_alone}
use Rattle.generator.proofs.laws.no_streams.Goals as goal

pub returns : goal.returns
returns c = record { law = all_alone }
