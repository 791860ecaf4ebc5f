use Rattle.std.proofs.Common.{◌+◌, List, sym, subst}
use Rattle.trace_runs.specs.declared.{imprint.Printed.Printed, imprint.Printed.TheVariants.Part, places.Places.Places}
use Rattle.trace_runs.specs.Places.{Adds}
use Rattle.trace_runs.proofs.Reaching.{part_added}
use Rattle.trace_runs.proofs.places.add.Goals as goal

pub returns-in_ok-push-in-Part : goal.returns-in_ok-push-in-Part
returns-in_ok-push-in-Part c =
    let g = c.args.imprint.now.given in
    let e = c.last_after-last.ensures in
    subst (λ (t : Printed). Adds t g.mark c.args.prints.now c.args.places.first (c.args.places.last + 1) c.args.found.now.items c.push.new.self.items) (sym c.in-Part.is)
    (subst (λ (l : List Places). Adds Part g.mark c.args.prints.now c.args.places.first (c.args.places.last + 1) c.args.found.now.items l) (sym c.in_ok-push-in-Part.ensures.items)
    (part_added g.mark c.args.prints.now c.args.found.now.items _ c.args.places.last c.requires.some c.requires.inside e.later e.is))
