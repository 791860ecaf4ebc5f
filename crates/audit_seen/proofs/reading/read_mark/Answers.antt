use Rattle.std.proofs.Common.{sym, ◌∙◌}
use Rattle.audit_seen.proofs.Written.{none_by_bytes, none_of_length}
use Rattle.audit_seen.proofs.reading.read_mark.Goals as goal

pub returns-then-line-ne-DIGITS-clause-none : goal.returns-then-line-ne-DIGITS-clause-none
returns-then-line-ne-DIGITS-clause-none c mark of = none_of_length c.args.line.now c.if-line-ne-DIGITS.true mark of.written

pub returns-in-Err-Version-clause-none : goal.returns-in-Err-Version-clause-none
returns-in-Err-Version-clause-none c = none_by_bytes c.args.line.now c.in-Some.mark c.in-Some.ensures.found _ (sym c.read_indicium.ensures.exact ∙ c.in-Err-Version.is)

pub returns-in-Err-Algorithm-clause-none : goal.returns-in-Err-Algorithm-clause-none
returns-in-Err-Algorithm-clause-none c = none_by_bytes c.args.line.now c.in-Some.mark c.in-Some.ensures.found _ (sym c.read_indicium.ensures.exact ∙ c.in-Err-Algorithm.is)

pub returns-in-Err-Length-clause-none : goal.returns-in-Err-Length-clause-none
returns-in-Err-Length-clause-none c = none_by_bytes c.args.line.now c.in-Some.mark c.in-Some.ensures.found _ (sym c.read_indicium.ensures.exact ∙ c.in-Err-Length.is)
