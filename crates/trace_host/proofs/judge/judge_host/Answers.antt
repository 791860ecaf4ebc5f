use Rattle.host_jobs.specs.Seen.{counting}
use Rattle.trace_nodes.specs.TracedNodes.{view_of}
use Rattle.trace_host.specs.Cells.{cells_of}
use Rattle.trace_host.proofs.ByLedger.{by_ledger}
use Rattle.trace_host.proofs.judge.judge_host.Goals as goal

pub returns-clause-by_ledger : goal.returns-clause-by_ledger
returns-clause-by_ledger g c =
    by_ledger g.T.Tell.IsOf c.args.day c.args.asked.now c.args.line.now (view_of counting cells_of c.args.traced.now) (view_of counting cells_of c.judge_view.new.traced) c.judge_view.result
    c.host_follows.ensures c.judge_view.ensures.known c.judge_view.ensures.next c.judge_view.ensures.judged
