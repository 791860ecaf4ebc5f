use Rattle.std.proofs.Common.{arith}
use Rattle.nv_model.proofs.Runs.{part_wider}
use Rattle.nv_model.proofs.tear.tear_range.Goals as goal

pub returns-clause-part : goal.returns-clause-part
returns-clause-part g c tells = part_wider c.args.at c.args.count (omega arith) (omega (arith, c.min-kept.ensures)) (c.fill_and_sync.ensures.part tells)
