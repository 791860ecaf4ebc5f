use Rattle.std.proofs.Common.{rules, ◌≡◌, ℤ}
use Rattle.node_turns.specs.Printing.{print_of}
use Rattle.node_acts.specs.declared.asked.Asked.TheVariants.{Call}
use Rattle.host_jobs.specs.Seen.{rows_in}
use Rattle.bench_abstraction.specs.Host.{host_act}
use Rattle.trace_host.specs.Cells.{view_of}
use Rattle.trace_host.specs.Records.{printing}
use Rattle.trace_host.specs.Verdicts.{plan_in}
use Rattle.trace_host.proofs.Fitting.{leaves_by, commit_known}
use Rattle.trace_host.proofs.Printing.{prints_by_ledger}
use Rattle.trace_host.proofs.printed.mark_due.Goals as goal

-- what is printed by what is seen of the host
by_view : (c : goal.After-mark_by) (today : ℤ) → print_of (plan_in today (Call (printing c.args.job)) (view_of c.args.traced.now)).after ≡ c.mark_by.result
by_view c today = search rules

pub returns-clause-by_ledger : goal.returns-clause-by_ledger
returns-clause-by_ledger c today =
    let s = c.args.traced.now.record.cells.items in
    let v = view_of c.args.traced.now in
    let call = printing c.args.job in
    let leaves = leaves_by (rows_in s) (c.acts_follow_the_commits.ensures.sound (rows_in s) c.is_known.ensures.sound) call tt in
    prints_by_ledger today (Call call) c.mark_by.result v c.host_follows.ensures c.is_known.ensures (commit_known v (host_act call (rows_in s)) c.is_known.ensures leaves) (by_view c today)
