use Rattle.std.proofs.Common.{arith}
use Rattle.script_words.proofs.Numbers.{none_behind}
use Rattle.script_words.proofs.values.DevNoWord.read.Goals as goal

pub returns-clause-none : goal.returns-clause-none
returns-clause-none c =
    let found = c.in_ok-value.ensures.found in
    none_behind _ 8 _ _ _ c.new.ensures.valid (omega arith) found.0 c.in_ok-digits.ensures.split found.1
