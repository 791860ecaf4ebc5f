use Rattle.script_words.proofs.Splits.{not_one}
use Rattle.script_words.proofs.word.one.Goals as goal

pub returns-in-Some-clause-none : goal.returns-in-Some-clause-none
returns-in-Some-clause-none g c = λ a fits. not_one c.args.bytes.now _ _ c.in-Some.ensures.split _
