use Rattle.std.proofs.Common.{inl, inr, refl, arith}
use Rattle.std.proofs.lemmas.Bool.{cases_order}
use Rattle.host_departments.proofs.Keeping.{job_place}
use Rattle.host_departments.proofs.kept.are_lone.Goals as goal

pub returns : goal.returns
returns c = (
  λ yes j k l at at'.
      let place = job_place c.args.room.now c.requires.filled k j at in
      let place' = job_place c.args.room.now c.requires.filled l j at' in
      elim (cases_order k l) [
        | inl is ↦ is
        | inr apart ↦ elim apart [
          | inl lt ↦ absurd (c.loop-cell.invariant.alone k (omega (arith, place.1, c.requires.all, c.loop-cell-test.false)) j l lt at at')
          | inr gt ↦ absurd (c.loop-cell.invariant.alone l (omega (arith, place'.1, c.requires.all, c.loop-cell-test.false)) j k gt at' at)
        ]
      ],
  λ once. refl,
)
