use Rattle.psd_state.specs.Seen.{counting}
use Rattle.trace_nodes.specs.TracedNodes.{view_of}
use Rattle.trace_device.specs.Records.{seen_of}
use Rattle.trace_device.proofs.ByLedger.{by_ledger}
use Rattle.trace_device.proofs.judge.judge_device.Goals as goal

pub returns-clause-by_ledger : goal.returns-clause-by_ledger
returns-clause-by_ledger g c =
    by_ledger g.T.Tell.IsOf c.args.device c.args.day c.args.asked.now c.args.line.now (view_of counting seen_of c.args.traced.now) (view_of counting seen_of c.judge_view.new.traced) c.judge_view.result
    c.nodes_follow.ensures.devices c.judge_view.ensures.known c.judge_view.ensures.next c.judge_view.ensures.judged
