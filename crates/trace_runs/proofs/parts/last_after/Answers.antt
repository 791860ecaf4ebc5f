use Rattle.std.proofs.Common.{◌≡◌, ◌+◌, ℕ, List, drop, subst, arith}
use Rattle.hex.specs.Hex.{encode_lower}
use Rattle.trace_runs.specs.Places.{IsLast, IsLongest}
use Rattle.trace_runs.proofs.PrintParts.{last_none, last_next}
use Rattle.trace_runs.proofs.parts.last_after.Goals as goal

pub loop-place-init : goal.loop-place-init
loop-place-init c = record { from = omega arith; later = omega arith; is = last_none (encode_lower c.args.mark.now) c.args.prints.now c.args.first c.args.last c.requires.inside }

pub loop-place-preserved : goal.loop-place-preserved
loop-place-preserved c =
    let i = c.loop-place.invariant in
    let longest : IsLongest (encode_lower c.args.mark.now) (drop c.loop-place.place c.args.prints.now) c.longest.result =
    subst (λ (d : List ℕ). IsLongest d (drop c.loop-place.place c.args.prints.now) c.longest.result) c.digits_of-digits.ensures
    (subst (λ (b : List ℕ). IsLongest c.digits_of-digits.result b c.longest.result) c.behind.ensures c.longest.ensures) in
    let before = c.loop-place-test.true in
    let w = last_next (encode_lower c.args.mark.now) c.args.prints.now c.args.first c.loop-place.place c.args.last c.loop-place.found c.longest.result c.max-found.result i.is i.from (omega (arith, before)) c.requires.inside i.later longest
    c.max-found.ensures in
    record { from = let before = i.from in omega (arith, before); later = w.0; is = w.1 }

pub returns-clause-is : goal.returns-clause-is
returns-clause-is c =
    let over : c.loop-place.place ≡ c.args.last + 1 =
    let a = c.loop-place-test.false in
    let b = c.loop-place.auto.place-end in
    omega (arith, a, b) in
    subst (λ (n : ℕ). IsLast (encode_lower c.args.mark.now) c.args.prints.now c.args.first n c.args.last c.loop-place.found) over c.loop-place.invariant.is
