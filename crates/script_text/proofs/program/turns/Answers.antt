use Rattle.std.proofs.Common.{arith}
use Rattle.script_words.proofs.Numbers.{same_number}
use Rattle.script_text.proofs.program.turns.Goals as goal

pub returns-then-count-gt-MOST_TURNS-clause-none : goal.returns-then-count-gt-MOST_TURNS-clause-none
returns-then-count-gt-MOST_TURNS-clause-none c = λ n few e.
    let found = c.in_ok-count.ensures.found in
    let same = same_number _ _ n (omega (arith, found.0)) (omega (arith, few)) found.1 e in omega (arith, same, few, c.if-count-gt-MOST_TURNS.true)
