use Rattle.std.proofs.Common.{sym, subst}
use Rattle.std.specs.Prelude.{IfSome}
use Rattle.bench_base.specs.declared.words.Node.TheVariants.{Host}
use Rattle.node_acts.specs.declared.asked.Asked.{Asked}
use Rattle.node_acts.specs.Plans.{IsOfNode}
use Rattle.node_acts.specs.Said.{IsPlain}
use Rattle.host_jobs.specs.Seen.{rows_in, IsKnown}
use Rattle.bench_abstraction.specs.declared.calls.HostCall.{HostCall}
use Rattle.bench_abstraction.specs.Host.{host_act}
use Rattle.trace_nodes.specs.TracedNodes.{FitsAct}
use Rattle.trace_host.specs.Cells.{view_of}
use Rattle.trace_host.specs.Records.{IsFit, IsRangedAsked}
use Rattle.trace_host.specs.Verdicts.{commit_in}
use Rattle.trace_host.proofs.Fitting.{leaves_by, fits_by, own_by, call_plain, commit_known}
use Rattle.trace_host.proofs.judge.judge_view.Goals as goal

pub judge_call-requires-clause-fits : goal.judge_call-requires-clause-fits
judge_call-requires-clause-fits g c =
    let s = c.args.traced.now.record.cells.items in
    let leaves = leaves_by (rows_in s) (c.acts_follow_the_commits.ensures.sound (rows_in s) c.is_known.ensures.sound) c.in-Call.call (subst IsRangedAsked c.in-Call.is c.requires.ranged) in
    subst (FitsAct (λ t x. IsFit t x) s) (sym c.host_act-act.ensures) (fits_by s (host_act c.in-Call.call (rows_in s)) leaves)

pub judge_call-requires-clause-own : goal.judge_call-requires-clause-own
judge_call-requires-clause-own g c =
    let s = c.args.traced.now.record.cells.items in
    let leaves = leaves_by (rows_in s) (c.acts_follow_the_commits.ensures.sound (rows_in s) c.is_known.ensures.sound) c.in-Call.call (subst IsRangedAsked c.in-Call.is c.requires.ranged) in
    subst (IsOfNode Host) (sym c.host_act-act.ensures) (own_by (rows_in s) (host_act c.in-Call.call (rows_in s)) leaves)

pub judge_call-requires-clause-plain : goal.judge_call-requires-clause-plain
judge_call-requires-clause-plain g c = subst IsPlain (sym c.host_act-act.ensures) (call_plain c.in-Call.call (rows_in c.args.traced.now.record.cells.items))

pub returns-in-Call-clause-next : goal.returns-in-Call-clause-next
returns-in-Call-clause-next g c =
    let s = c.args.traced.now.record.cells.items in
    let v = view_of c.args.traced.now in
    let leaves = leaves_by (rows_in s) (c.acts_follow_the_commits.ensures.sound (rows_in s) c.is_known.ensures.sound) c.in-Call.call (subst IsRangedAsked c.in-Call.is c.requires.ranged) in
    subst (λ (a : Asked HostCall). IfSome (commit_in c.args.day a v) (λ x. IsKnown x.1)) (sym c.in-Call.is)
    (commit_known v (host_act c.in-Call.call (rows_in s)) c.is_known.ensures leaves)
