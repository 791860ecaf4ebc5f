use Rattle.std.proofs.Common.{sym, ◌∙◌}
use Rattle.trace_nodes.specs.TracedNodes.{view_of}
use Rattle.trace_nodes.proofs.PrinterFaults.{judged_of, judged_cut, tells_none}
use Rattle.trace_nodes.proofs.judge.judge_call.Goals as goal

pub returns-in-Some-clause-judged : goal.returns-in-Some-clause-judged
returns-in-Some-clause-judged g c =
    let found = rw c.in-Some.is at c.told_outcome-told.ensures.found in
    let came = rw c.in-Some.is at c.told_outcome-told.ensures.came in
    judged_of g.R.Record.counting c.args.node.now (view_of g.R.Record.counting g.R.Record.seen c.args.traced.now) c.args.act.now c.requires.own c.requires.plain
    g.T.Tell.IsOf c.tell.result c.args.line.now c.in-Some.outcome found.0 came found.1 found.2 _ c.take_outcome.ensures.leaves c.tell.ensures

pub returns-in-Some-unprinted_job-clause-judged : goal.returns-in-Some-unprinted_job-clause-judged
returns-in-Some-unprinted_job-clause-judged g c =
    let cut = rw c.in-Some-unprinted_job.is at c.unprinted_job.ensures.some in
    judged_cut g.R.Record.counting c.args.node.now (view_of g.R.Record.counting g.R.Record.seen c.args.traced.now) c.args.act.now c.requires.own c.requires.plain
    g.T.Tell.IsOf c.tell_unprinted.result c.args.line.now c.in-Some-unprinted_job.job (sym c.due_reply-due.ensures ∙ cut.0) cut.1 cut.2 _
    (c.take_unprinted.ensures.leaves c.in-Some-unprinted_job.job) c.tell_unprinted.ensures

pub returns-in-None-unprinted_job-clause-judged : goal.returns-in-None-unprinted_job-clause-judged
returns-in-None-unprinted_job-clause-judged g c =
    tells_none g.R.Record.counting c.args.node.now (view_of g.R.Record.counting g.R.Record.seen c.args.traced.now) c.args.act.now c.requires.own c.requires.plain
    c.args.line.now (rw c.in-None.is at c.told_outcome-told.ensures.none) c.due_reply-due.result c.due_reply-due.ensures
    (rw c.in-None-unprinted_job.is at c.unprinted_job.ensures.none)
