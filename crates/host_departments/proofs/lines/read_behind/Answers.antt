use Rattle.std.proofs.Common.{sym, ◌∙◌, true≢false}
use Rattle.host_departments.proofs.Reading.{none_of, dept_none, print_none, others_none}
use Rattle.host_departments.proofs.lines.read_behind.Goals as goal

pub returns-then-is_word-clause-none : goal.returns-then-is_word-clause-none
returns-then-is_word-clause-none c = none_of c.read_dept.result (dept_none c.args.line.now c.args.word.now c.args.rest.now c.requires.split (c.is_word.ensures.0 c.if-is_word.true)) c.read_dept.ensures.none

pub returns-in-None-clause-none : goal.returns-in-None-clause-none
returns-in-None-clause-none c = print_none c.args.line.now c.args.word.now c.args.rest.now c.requires.split (c.is_word-2.ensures.0 c.if-is_word-2.true) c.in-None.ensures.none

pub returns-clause-none : goal.returns-clause-none
returns-clause-none c =
    others_none c.args.line.now c.args.word.now c.args.rest.now c.requires.split
    (λ is. true≢false (sym (c.is_word.ensures.1 is) ∙ c.if-is_word.false)) (λ is. true≢false (sym (c.is_word-2.ensures.1 is) ∙ c.if-is_word-2.false))
