use Rattle.std.proofs.Common.{sym, subst}
use Rattle.std.specs.Prelude.{IfSome}
use Rattle.bench_base.specs.declared.words.Node.TheVariants.{Verifier}
use Rattle.node_acts.specs.declared.asked.Asked.{Asked}
use Rattle.node_acts.specs.Plans.{IsOfNode}
use Rattle.node_acts.specs.Said.{IsPlain}
use Rattle.verifier.specs.ActLaws.{IsFit}
use Rattle.verifier.specs.Seen.{counting, IsKnown}
use Rattle.bench_abstraction.specs.declared.calls.VerifierCall.{VerifierCall}
use Rattle.bench_abstraction.specs.Verifier.{verifier_act}
use Rattle.trace_nodes.specs.TracedNodes.{FitsAct, view_of}
use Rattle.trace_verifier.specs.Cells.{cells_of}
use Rattle.trace_verifier.specs.Records.{IsRangedAsked}
use Rattle.trace_verifier.specs.Verdicts.{commit_in}
use Rattle.trace_verifier.proofs.Fitting.{leaves_by, fits_by, own_by, call_plain, commit_known}
use Rattle.trace_verifier.proofs.judge.judge_view.Goals as goal

pub judge_call-requires-clause-fits : goal.judge_call-requires-clause-fits
judge_call-requires-clause-fits g c =
    let s = cells_of c.args.traced.now.record in
    let leaves = leaves_by s (c.acts_follow_the_commits.ensures.sound s c.is_known.ensures.sound) c.args.day c.in-Call.call (subst IsRangedAsked c.in-Call.is c.requires.ranged) in
    subst (FitsAct (λ t x. IsFit t x) s) (sym c.scan_said-act.ensures) (fits_by s (verifier_act c.args.day c.in-Call.call s) leaves)

pub judge_call-requires-clause-own : goal.judge_call-requires-clause-own
judge_call-requires-clause-own g c =
    let s = cells_of c.args.traced.now.record in
    let leaves = leaves_by s (c.acts_follow_the_commits.ensures.sound s c.is_known.ensures.sound) c.args.day c.in-Call.call (subst IsRangedAsked c.in-Call.is c.requires.ranged) in
    subst (IsOfNode Verifier) (sym c.scan_said-act.ensures) (own_by s (verifier_act c.args.day c.in-Call.call s) leaves)

pub judge_call-requires-clause-plain : goal.judge_call-requires-clause-plain
judge_call-requires-clause-plain g c = subst IsPlain (sym c.scan_said-act.ensures) (call_plain c.args.day c.in-Call.call (cells_of c.args.traced.now.record))

pub returns-in-Call-clause-next : goal.returns-in-Call-clause-next
returns-in-Call-clause-next g c =
    let s = cells_of c.args.traced.now.record in
    let v = view_of counting cells_of c.args.traced.now in
    let leaves = leaves_by s (c.acts_follow_the_commits.ensures.sound s c.is_known.ensures.sound) c.args.day c.in-Call.call (subst IsRangedAsked c.in-Call.is c.requires.ranged) in
    subst (λ (a : Asked VerifierCall). IfSome (commit_in c.args.day a v) (λ x. IsKnown x.1)) (sym c.in-Call.is)
    (commit_known v (verifier_act c.args.day c.in-Call.call s) c.is_known.ensures leaves)
