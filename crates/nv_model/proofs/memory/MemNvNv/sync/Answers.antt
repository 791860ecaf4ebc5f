use Rattle.std.proofs.Common.{List, Bool, false, get_or, ap, ◌∙◌}
use Rattle.nv_model.proofs.memory.MemNvNv.sync.Goals as goal

pub invariant_of-self-in-Some-clause-last_is : goal.invariant_of-self-in-Some-clause-last_is
invariant_of-self-in-Some-clause-last_is c r is i le lt = c.tear_last.ensures.stays_written i (c.args.self.now.last_is r is i le lt)

pub invariant_of-self-in-Some-clause-marks : goal.invariant_of-self-in-Some-clause-marks
invariant_of-self-in-Some-clause-marks c full i = ap (λ (l : List Bool). get_or l i false) c.tear_last.ensures.marks ∙ c.args.self.now.marks full i
