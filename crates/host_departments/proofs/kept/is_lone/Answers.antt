use Rattle.std.proofs.Common.{refl, arith}
use Rattle.host_departments.proofs.Keeping.{job_place}
use Rattle.host_departments.proofs.kept.is_lone.Goals as goal

pub returns : goal.returns
returns c = (
  λ yes k behind keeps.
      let place = job_place c.args.room.now c.requires.filled k c.args.job keeps in
      c.loop-other.invariant.none k behind (omega (arith, place.1, c.requires.all, c.loop-other-test.false)) keeps,
  λ lone. refl,
)
