use Rattle.trace_host.proofs.Joined.{total_few}
use Rattle.trace_host.proofs.record.HostRecordRecordJobRow.commits.Goals as goal

pub returns-clause-few : goal.returns-clause-few
returns-clause-few c = total_few c.args.self.now.cells.items c.args.self.now.jobs c.args.self.now.total c.args.self.now.joined
