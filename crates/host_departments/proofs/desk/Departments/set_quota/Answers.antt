use Rattle.std.proofs.Common.{arith}
use Rattle.host_departments.specs.View.{rows_of}
use Rattle.host_departments.proofs.Keeping.{rows_long}
use Rattle.host_departments.proofs.Puts.{quota_sound}
use Rattle.host_departments.proofs.desk.Departments.set_quota.Goals as goal

pub commit-requires-clause-sound : goal.commit-requires-clause-sound
commit-requires-clause-sound g c =
    let s = c.args.self.now in
    quota_sound (rows_of s) c.args.department c.args.quota c.requires.is (omega (arith, rows_long s.room, s.cells, c.requires.is.1)) s.sound
    (omega (arith, c.spent-spent.ensures, c.from.ensures, c.if-from-spent.false))
