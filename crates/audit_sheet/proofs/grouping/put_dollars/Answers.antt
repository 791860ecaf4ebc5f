use Rattle.audit_sheet.proofs.Reading.{dollars_three, dollars_two}
use Rattle.audit_sheet.proofs.grouping.put_dollars.Goals as goal

pub returns-then-has_mills : goal.returns-then-has_mills
returns-then-has_mills c = dollars_three c.args.mills c.put_own.ensures c.put_grouped.ensures c.put_own-2.ensures c.put_three.ensures

pub returns : goal.returns
returns c = dollars_two c.args.mills c.if-rest-ne0.false c.put_own.ensures c.put_grouped.ensures c.put_own-2.ensures c.put_two.ensures
