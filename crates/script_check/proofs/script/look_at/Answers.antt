use Rattle.std.proofs.Common.{◌∷◌, [], refl, true≢false, IsTrue, false, subst, Bool}
use Rattle.script_check.specs.Checks.{at_line, skipped, event, wrong}
use Rattle.script_check.specs.declared.fault.Fault.TheVariants as fault
use Rattle.script_check.proofs.Checking.{writes_none, writes_one}
use Rattle.script_check.proofs.script.look_at.Goals as goal

pub returns-then-is_skipped-clause-looks : goal.returns-then-is_skipped-clause-looks
returns-then-is_skipped-clause-looks g c = record { reports = []; has = skipped (c.if-is_skipped.ensures.0 refl); writes = writes_none _ }

pub returns-in-None-clause-looks : goal.returns-in-None-clause-looks
returns-in-None-clause-looks g c = record { reports = []; has = event (c.in-None.ensures.none.0 refl); writes = writes_none _ }

pub returns-in-Ok-clause-looks : goal.returns-in-Ok-clause-looks
returns-in-Ok-clause-looks g c = record {
  reports = at_line c.args.number (fault.Word c.in-Some.fault) ∷ [];
  has = wrong c.in-Some.fault (record {
    not_skipped = λ yes. let t : IsTrue false = subst (λ (b : Bool). IsTrue b) c.if-is_skipped.false (c.is_skipped.ensures.1 yes) in cc t;
    no_event = λ is. absurd (true≢false (c.in-Some.ensures.none.1 is));
    first = c.in-Some.ensures.first;
    found = c.in-Some.ensures.found;
  });
  writes = writes_one c.args.number (fault.Word c.in-Some.fault) _ _ c.in-Ok.ensures.told;
}
