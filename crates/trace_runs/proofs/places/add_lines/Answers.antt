use Rattle.std.proofs.Common.{◌≡◌, ◌+◌, ℕ, subst, arith}
use Rattle.trace_runs.specs.declared.imprint.Printed.TheVariants.{Whole}
use Rattle.trace_runs.specs.Places.{Adds}
use Rattle.trace_runs.proofs.Reaching.{adds_none, adds_more}
use Rattle.trace_runs.proofs.places.add_lines.Goals as goal

pub loop-place-init : goal.loop-place-init
loop-place-init c = record { from = omega arith; adds = adds_none Whole c.args.mark.now c.args.prints.now c.args.places.first c.args.found.now.items }

pub loop-place-preserved : goal.loop-place-preserved
loop-place-preserved c =
    let i = c.loop-place.invariant in
    record {
      from = let before = i.from in omega (arith, before);
      adds = adds_more Whole c.args.mark.now c.args.prints.now c.args.places.first c.loop-place.place (c.loop-place.place + 1) c.args.found.now.items c.loop-place.found.items c.add_line.new.found.items i.from (omega arith) i.adds
          c.in_ok-add_line.ensures;
    }

pub returns : goal.returns
returns c =
    let over : c.loop-place.place ≡ c.args.places.last + 1 =
    let a = c.loop-place-test.false in
    let b = c.loop-place.auto.place-end in
    omega (arith, a, b) in
    subst (λ (n : ℕ). Adds Whole c.args.mark.now c.args.prints.now c.args.places.first n c.args.found.now.items c.loop-place.found.items) over c.loop-place.invariant.adds
