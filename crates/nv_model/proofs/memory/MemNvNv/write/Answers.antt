use Rattle.std.proofs.Common.{List, Bool, false, get_or, ap, refl, rules, ◌∙◌}
use Rattle.nv_model.proofs.Runs.{outside_none, elapses_none}
use Rattle.nv_model.proofs.memory.MemNvNv.write.Goals as goal

pub invariant_of-self-then-not-fits-clause-last_is : goal.invariant_of-self-then-not-fits-clause-last_is
invariant_of-self-then-not-fits-clause-last_is c r is i le lt = c.mark.ensures.stays_written i (c.args.self.now.last_is r is i le lt)

pub invariant_of-self-in-Some-clause-last_is : goal.invariant_of-self-in-Some-clause-last_is
invariant_of-self-in-Some-clause-last_is c r is i le lt = c.write_torn.ensures.stays_written i (c.args.self.now.last_is r is i le lt)

pub invariant_of-self-in-Some-clause-marks : goal.invariant_of-self-in-Some-clause-marks
invariant_of-self-in-Some-clause-marks c full i = ap (λ (l : List Bool). get_or l i false) c.write_torn.ensures.marks ∙ c.args.self.now.marks full i

pub returns-then-self-clause-did : goal.returns-then-self-clause-did
returns-then-self-clause-did c = record {
  written = search rules;
  others = search rules;
  base = λ tells live. refl;
  places = search rules;
  images = λ tells d now. (d, now, outside_none _ _ d);
  off = λ tells lost d now. now;
  time = λ tells. elapses_none _;
  size = refl;
  answer = search rules;
  fuse = search rules;
  burnt = search rules;
}

pub returns-then-not-fits-clause-did : goal.returns-then-not-fits-clause-did
returns-then-not-fits-clause-did c = record {
  written = search rules;
  others = search rules;
  base = λ tells live. c.mark.ensures.base;
  places = λ tells live. c.mark.ensures.places;
  images = λ tells. c.mark.ensures.images;
  off = search rules;
  time = λ tells. c.mark.ensures.time;
  size = search rules;
  answer = search rules;
  fuse = search rules;
  burnt = search rules;
}
