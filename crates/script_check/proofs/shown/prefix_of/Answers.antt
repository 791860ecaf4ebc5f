use Rattle.std.proofs.Common.{sym, arith}
use Rattle.std.proofs.lemmas.List.{take_all}
use Rattle.script_check.proofs.shown.prefix_of.Goals as goal

pub returns-then-word-lt-MOST : goal.returns-then-word-lt-MOST
returns-then-word-lt-MOST c = sym (take_all 40 c.args.word.now (omega (arith, c.if-word-lt-MOST.true)))
