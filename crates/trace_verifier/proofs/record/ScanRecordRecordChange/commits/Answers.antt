use Rattle.trace_verifier.specs.Helds.{seen_by}
use Rattle.trace_verifier.proofs.Kept.{total_few}
use Rattle.trace_verifier.proofs.record.ScanRecordRecordChange.commits.Goals as goal

pub returns-clause-few : goal.returns-clause-few
returns-clause-few c = total_few (seen_by c.args.self.now.cells.items) c.args.self.now.index c.args.self.now.total c.args.self.now.kept
