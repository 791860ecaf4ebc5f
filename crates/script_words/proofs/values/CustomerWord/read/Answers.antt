use Rattle.std.proofs.Common.{arith}
use Rattle.script_words.proofs.Numbers.{none_within}
use Rattle.script_words.proofs.values.CustomerWord.read.Goals as goal

pub returns-clause-none : goal.returns-clause-none
returns-clause-none c =
    let found = c.in_ok-value.ensures.found in none_within _ 64 _ _ c.new.ensures.valid (omega arith) found.0 found.1
