use Rattle.std.proofs.Common.{List, sym, subst, arith}
use Rattle.std.proofs.lemmas.List.{drop_all}
use Rattle.trace_runs.specs.declared.places.Places.{Places}
use Rattle.trace_runs.proofs.Reaching.{Going, going, goes_more, gone, next_inside}
use Rattle.trace_runs.proofs.places.after.Goals as goal

pub loop-at-init : goal.loop-at-init
loop-at-init c = record {
  going = subst (λ (l : List Places). Going c.args.imprint.now.given.taken c.args.imprint.now.given.mark c.args.prints.now c.args.all.now l 0) (sym c.new-found.ensures.items)
      (going c.args.imprint.now.given.taken c.args.imprint.now.given.mark c.args.prints.now c.args.all.now);
}

pub add-requires-clause-some : goal.add-requires-clause-some
add-requires-clause-some c =
    (next_inside c.args.imprint.now.given.taken c.args.imprint.now.given.mark c.args.prints.now c.args.all.now c.loop-at.at c.places_in.result c.requires.inside c.places_in.ensures).0

pub add-requires-clause-inside : goal.add-requires-clause-inside
add-requires-clause-inside c =
    (next_inside c.args.imprint.now.given.taken c.args.imprint.now.given.mark c.args.prints.now c.args.all.now c.loop-at.at c.places_in.result c.requires.inside c.places_in.ensures).1

pub loop-at-preserved : goal.loop-at-preserved
loop-at-preserved c = record {
  going = goes_more c.args.imprint.now.given.taken c.args.imprint.now.given.mark c.args.prints.now c.args.all.now c.loop-at.found.items c.add.new.found.items c.loop-at.at c.places_in.result c.loop-at.invariant.going
      c.places_in.ensures c.in_ok-add.ensures;
}

pub returns : goal.returns
returns c =
    gone c.args.imprint.now.given.taken c.args.imprint.now.given.mark c.args.prints.now c.args.all.now c.loop-at.found.items c.loop-at.at c.loop-at.invariant.going
    (drop_all c.loop-at.at c.args.all.now (let a = c.loop-at-test.false in omega (arith, a)))
