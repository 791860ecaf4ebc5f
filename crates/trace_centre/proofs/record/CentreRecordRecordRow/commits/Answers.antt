use Rattle.trace_centre.proofs.Kept.{total_few}
use Rattle.trace_centre.proofs.record.CentreRecordRecordRow.commits.Goals as goal

pub returns-clause-few : goal.returns-clause-few
returns-clause-few c = total_few c.args.self.now.cells c.args.self.now.accounts c.args.self.now.total c.args.self.now.kept
