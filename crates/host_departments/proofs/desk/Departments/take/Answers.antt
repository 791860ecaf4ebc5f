use Rattle.std.proofs.Common.{◌+◌, ◌-◌, ◌<◌, ℕ, sym, subst, arith}
use Rattle.std.specs.Prelude.{length}
use Rattle.node_acts.specs.RowList.{put}
use Rattle.host_departments.specs.Courses.{Tries}
use Rattle.host_departments.specs.Rows.{IsSound, first_cell, quota, spent}
use Rattle.host_departments.specs.View.{rows_of}
use Rattle.host_departments.specs.declared.row.DepartmentRow.TheVariants.{Job}
use Rattle.host_departments.specs.declared.answer.Answer.TheVariants as answers
use Rattle.host_departments.proofs.Keeping.{rows_long}
use Rattle.host_departments.proofs.Places.{some_room}
use Rattle.host_departments.proofs.Puts.{job_sound}
use Rattle.host_departments.proofs.Taking.{limit_is, not_above}
use Rattle.host_departments.proofs.desk.Departments.take.Goals as goal

pub commit-requires-clause-sound : goal.commit-requires-clause-sound
commit-requires-clause-sound g c =
    let s = c.args.self.now in
    let d = c.args.department in
    let may = c.requires.may in
    let room : c.jobs.result < 64 = some_room (rows_of s) d c.jobs.result c.jobs.ensures may.2 in
    let inside : first_cell d + c.jobs.result < length (rows_of s) = omega (arith, rows_long s.room, s.cells, room, may.0.1) in
    let limit = limit_is (quota (rows_of s) d) c.args.left (spent (rows_of s) d) may.1 c.requires.left in
    subst (λ (n : ℕ). IsSound (put (rows_of s) (n + c.jobs.result) (Job c.args.job c.args.postage))) (sym c.first_cell.ensures.is)
    (job_sound (rows_of s) d c.jobs.result c.args.job c.args.postage may.0 c.jobs.ensures room inside s.sound may.3 (omega (arith, limit, c.if-left-from.false, c.from.ensures)))

pub returns-clause-takes : goal.returns-clause-takes
returns-clause-takes g c =
    let s = c.args.self.now in
    let d = c.args.department in
    let may = c.requires.may in
    let room : c.jobs.result < 64 = some_room (rows_of s) d c.jobs.result c.jobs.ensures may.2 in
    not_above _ _ c.args.left c.args.postage (omega (arith, c.if-left-from.false, c.from.ensures)) (record {
      place = c.jobs.result;
      jobs = c.jobs.ensures;
      room = room;
      tries = subst (λ (n : ℕ). Tries (first_cell d + c.jobs.result) (Job c.args.job c.args.postage) (answers.Assigned c.args.job d (c.args.left - n)) s c.commit.result c.commit.new.self) c.from-2.ensures
          (subst (λ (n : ℕ). Tries (n + c.jobs.result) (Job c.args.job c.args.postage) (answers.Assigned c.args.job d (c.args.left - c.from-2.result)) s c.commit.result c.commit.new.self) c.first_cell.ensures.is c.commit.ensures.tries);
    })
