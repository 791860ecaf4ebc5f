use Rattle.std.proofs.Common.{arith, ◌≡◌, ◌<◌, length, get_or}
use Rattle.std.proofs.lemmas.Bool.Decides.{nat_tests}
use Rattle.script_words.proofs.Numbers.{not_empty, not_twenty, not_zero, not_digits, wide_found, wide_none}
use Rattle.script_words.proofs.wide.wide_number.Goals as goal
use Rattle.script_words.proofs.wide.wide_number.Goals.{else-word-eq48-via-then-word-eq48+else-word-gt1, else-word-eq48-via-else-word-eq48}

pub returns-then-is_empty-clause-none : goal.returns-then-is_empty-clause-none
returns-then-is_empty-clause-none c =
    let empty : length c.args.word.now ≡ 0 = grind (arith, nat_tests) in not_empty c.args.word.now empty

pub returns-then-word-gt-WIDE_DIGITS-clause-none : goal.returns-then-word-gt-WIDE_DIGITS-clause-none
returns-then-word-gt-WIDE_DIGITS-clause-none c = not_twenty c.args.word.now c.if-word-gt-WIDE_DIGITS.true

pub returns-then-word-gt1-clause-none : goal.returns-then-word-gt1-clause-none
returns-then-word-gt1-clause-none c = not_zero c.args.word.now c.if-word-eq48.true c.if-word-gt1.true

pub returns-in-None-clause-none : goal.returns-in-None-clause-none
returns-in-None-clause-none c = not_digits c.args.word.now c.in-None.ensures.value

pub returns-in-Some-clause-none : goal.returns-in-Some-clause-none
returns-in-Some-clause-none c = wide_none c.narrow.result c.args.word.now c.in-Some.value c.in-Some.ensures.value.1 c.narrow.ensures.none

pub returns-in-Some-clause-found : goal.returns-in-Some-clause-found
returns-in-Some-clause-found c =
    let some : 0 < length c.args.word.now = grind (arith, nat_tests) in
    let lead : get_or c.args.word.now 0 0 ≡ 48 → length c.args.word.now ≡ 1 =
    elim c.else-word-eq48.branch [
      | else-word-eq48-via-then-word-eq48+else-word-gt1 w ↦ λ z. omega (arith, some, w.if-word-gt1.false)
      | else-word-eq48-via-else-word-eq48 w ↦ λ z. absurd (w.if-word-eq48.false z)
    ] in
    wide_found c.narrow.result c.args.word.now c.in-Some.value some lead c.in-Some.ensures.value.0 c.in-Some.ensures.value.1 c.narrow.ensures.found
