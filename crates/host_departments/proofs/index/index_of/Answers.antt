use Rattle.std.proofs.Common.{arith}
use Rattle.host_departments.proofs.Keeping.{job_place}
use Rattle.host_departments.proofs.index.index_of.Goals as goal

pub returns : goal.returns
returns c = record {
  indexed = λ k j keeps.
      let place = job_place c.args.room.now c.requires.filled k j keeps in
      c.loop-cell.invariant.noted k j (omega (arith, place.1, c.requires.all, c.loop-cell-test.false)) keeps;
}
