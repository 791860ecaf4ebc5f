use Rattle.std.proofs.lemmas.Bool.Decides.{Decides-eqb}
use Rattle.std.proofs.lemmas.Slice.Eq.{strip_prefix_is}
use Rattle.script_words.proofs.word.after.Goals as goal

pub returns : goal.returns
returns c = record { split = strip_prefix_is Decides-eqb c.args.word.now c.args.front.now _ c.strip_prefix.ensures.cases }
