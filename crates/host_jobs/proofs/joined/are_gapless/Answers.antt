use Rattle.std.proofs.Common.{◌≡◌, ◌-◌, ℕ, refl, subst, arith}
use Rattle.std.specs.Prelude.{IsSome}
use Rattle.host_jobs.specs.Rows.{job_row}
use Rattle.host_jobs.proofs.joined.are_gapless.Goals as goal

pub returns : goal.returns
returns c = (
  λ t j from most near.
      let last = c.args.last in
      let below = c.many-back-end.ensures.all j from (omega (arith, most, c.requires)) (omega (arith, near, c.requires)) in
      let at : last - (last - j) ≡ j = omega (arith, most, c.requires) in
      subst (λ (i : ℕ). IsSome (job_row c.args.rows.now i)) at (c.loop-back.invariant (last - j) (omega (arith, below, most, c.requires, c.loop-back-test.false))),
  λ all. refl,
)
