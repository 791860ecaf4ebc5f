use Rattle.std.proofs.Common.{arith}
use Rattle.script_words.proofs.Numbers.{same_number}
use Rattle.script_words.proofs.values.U32Word.read.Goals as goal

pub returns-then-value-gt4294967295-clause-none : goal.returns-then-value-gt4294967295-clause-none
returns-then-value-gt4294967295-clause-none c = λ v fits e.
    let found = c.in_ok-value.ensures.found in
    let same = same_number _ _ v found.1 (omega (arith, fits)) found.0 e in omega (arith, same, fits, c.if-value-gt4294967295.true)
