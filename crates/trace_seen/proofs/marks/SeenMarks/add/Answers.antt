use Rattle.std.proofs.Common.{sym}
use Rattle.trace_seen.proofs.Writing.{adds_new}
use Rattle.trace_seen.proofs.marks.SeenMarks.add.Goals as goal

pub returns-in-Ok-clause-adds : goal.returns-in-Ok-clause-adds
returns-in-Ok-clause-adds c = adds_new c.args.mark.now c.args.line c.args.self.now _ (sym c.in_default.ensures.value) c.in-Ok.ensures.updates
