use Rattle.script_words.proofs.Numbers.{wide, not_empty, not_long, not_zero, number_found, number_none}
use Rattle.std.proofs.Common.{arith, ◌≡◌, ◌<◌, length, get_or}
use Rattle.std.proofs.lemmas.Bool.Decides.{nat_tests}
use Rattle.script_words.proofs.digits.number.Goals as goal
use Rattle.script_words.proofs.digits.number.Goals.{else-word-eq48-via-then-word-eq48+else-word-gt1, else-word-eq48-via-else-word-eq48}

pub returns-then-is_empty-clause-none : goal.returns-then-is_empty-clause-none
returns-then-is_empty-clause-none c =
    let empty : length c.args.word.now ≡ 0 = grind (arith, nat_tests) in λ n small. not_empty c.args.word.now empty n (wide n small)

pub returns-then-word-gt10-clause-none : goal.returns-then-word-gt10-clause-none
returns-then-word-gt10-clause-none c = not_long c.args.word.now c.if-word-gt10.true

pub returns-then-word-gt1-clause-none : goal.returns-then-word-gt1-clause-none
returns-then-word-gt1-clause-none c = λ n small. not_zero c.args.word.now c.if-word-eq48.true c.if-word-gt1.true n (wide n small)

pub returns-clause-none : goal.returns-clause-none
returns-clause-none c = number_none c.digits.result c.args.word.now c.digits.ensures.value

pub returns-clause-found : goal.returns-clause-found
returns-clause-found c =
    let some : 0 < length c.args.word.now = grind (arith, nat_tests) in
    let lead : get_or c.args.word.now 0 0 ≡ 48 → length c.args.word.now ≡ 1 =
    elim c.else-word-eq48.branch [
      | else-word-eq48-via-then-word-eq48+else-word-gt1 w ↦ λ z. omega (arith, some, w.if-word-gt1.false)
      | else-word-eq48-via-else-word-eq48 w ↦ λ z. absurd (w.if-word-eq48.false z)
    ] in
    number_found c.digits.result c.args.word.now some c.if-word-gt10.false lead c.digits.ensures.value
