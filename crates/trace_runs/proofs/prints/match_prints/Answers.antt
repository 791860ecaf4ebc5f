use Rattle.std.proofs.Common.{◌≡◌, ◌+◌, ◌<◌, List, [], ◌∷◌, ◌++◌, drop, length, refl, sym, ◌∙◌, ap, subst, arith}
use Rattle.trace_runs.specs.declared.places.Places.{Places}
use Rattle.trace_runs.specs.Places.{Has, AreAfter}
use Rattle.bench_base.proofs.Facts.{is_so, not_so}
use Rattle.trace_runs.proofs.Matching.{Reached, begun, goes_on, stops, fit, left_over, is_none, is_some}
use Rattle.trace_runs.proofs.prints.match_prints.Goals as goal

pub loop-place-init : goal.loop-place-init
loop-place-init c = record {
  reached = subst (λ (l : List Places). Reached c.args.imprints.now c.args.prints.now l 0) (sym (c.in_ok-push.ensures.items ∙ ap (λ (l : List Places). l ++ _ ∷ []) c.new-all.ensures.items))
      (begun c.args.imprints.now c.args.prints.now _ refl refl);
}

pub returns-then-is_empty : goal.returns-then-is_empty
returns-then-is_empty c =
    let all = c.loop-place.all.items in
    let found = c.in_ok-found.found.items in
    let g = c.imprint_in.result.given in
    let after : AreAfter g.taken g.mark c.args.prints.now all found = subst (λ (l : List Places). AreAfter g.taken g.mark c.args.prints.now l found) c.as_slice.ensures.value c.in_ok-found.ensures in
    stops c.args.imprints.now c.args.prints.now all found c.loop-place.place c.imprint_in.result (drop (c.loop-place.place + 1) c.args.imprints.now) c.loop-place.invariant.reached c.imprint_in.ensures after
    (sym (ap (λ (l : List Places). length l) c.as_slice-in-loop-place.ensures.value) ∙ is_none _ c.is_empty.result c.is_empty.ensures c.if-is_empty.true) c.loop-place-test.true c.one_of.result
    (subst (λ (l : List Places). Has l c.one_of.result) c.as_slice-then-is_empty.ensures.value c.one_of.ensures.has) c.one_of.ensures.inside

pub loop-place-preserved : goal.loop-place-preserved
loop-place-preserved c =
    let all = c.loop-place.all.items in
    let found = c.in_ok-found.found.items in
    let g = c.imprint_in.result.given in
    let after : AreAfter g.taken g.mark c.args.prints.now all found = subst (λ (l : List Places). AreAfter g.taken g.mark c.args.prints.now l found) c.as_slice.ensures.value c.in_ok-found.ensures in
    record {
      reached = goes_on c.args.imprints.now c.args.prints.now all found c.loop-place.place c.imprint_in.result (drop (c.loop-place.place + 1) c.args.imprints.now) c.loop-place.invariant.reached c.imprint_in.ensures after
          (subst (λ (l : List Places). 0 < length l) c.as_slice-in-loop-place.ensures.value (is_some _ c.is_empty.result c.is_empty.ensures c.if-is_empty.false));
    }

pub returns-then-has : goal.returns-then-has
returns-then-has c =
    let all = c.loop-place.all.items in
    let done : c.loop-place.place ≡ length c.args.imprints.now =
    let a = c.loop-place-test.false in
    let b = c.loop-place.auto.place-end in
    omega (arith, a, b) in
    fit c.args.imprints.now c.args.prints.now all c.loop-place.place c.loop-place.invariant.reached done
    (subst (λ (l : List Places). Has l (length c.args.prints.now)) c.as_slice-2.ensures.value (is_so c.has.result _ c.has.ensures c.if-has.true))

pub returns : goal.returns
returns c =
    let all = c.loop-place.all.items in
    let done : c.loop-place.place ≡ length c.args.imprints.now =
    let a = c.loop-place-test.false in
    let b = c.loop-place.auto.place-end in
    omega (arith, a, b) in
    left_over c.args.imprints.now c.args.prints.now all c.loop-place.place c.loop-place.invariant.reached done
    (λ has. not_so c.has.result _ c.has.ensures c.if-has.false (subst (λ (l : List Places). Has l (length c.args.prints.now)) (sym c.as_slice-2.ensures.value) has)) c.one_of-else-has.result
    (subst (λ (l : List Places). Has l c.one_of-else-has.result) c.as_slice-else-has.ensures.value c.one_of-else-has.ensures.has) c.one_of-else-has.ensures.inside
