use Rattle.std.proofs.Common.{sym, subst}
use Rattle.std.specs.Prelude.{IfSome}
use Rattle.bench_base.specs.declared.words.Node.TheVariants.{Centre}
use Rattle.node_acts.specs.declared.asked.Asked.{Asked}
use Rattle.node_acts.specs.Plans.{IsOfNode}
use Rattle.node_acts.specs.Said.{IsPlain}
use Rattle.centre_ledger.specs.Seen.{counting, books_in, IsKnown}
use Rattle.bench_abstraction.specs.declared.calls.CentreCall.{CentreCall}
use Rattle.bench_abstraction.specs.Centre.{centre_act}
use Rattle.trace_nodes.specs.TracedNodes.{FitsAct, view_of}
use Rattle.trace_centre.specs.Cells.{cells_of}
use Rattle.trace_centre.specs.Placed.{PlacesAct}
use Rattle.trace_centre.specs.Records.{IsFit, IsRangedAsked}
use Rattle.trace_centre.specs.Verdicts.{commit_in}
use Rattle.trace_centre.proofs.Fitting.{leaves_by, fits_by, own_by, call_plain, commit_known}
use Rattle.trace_centre.proofs.judge.judge_view.Goals as goal

pub judge_call-requires-clause-fits : goal.judge_call-requires-clause-fits
judge_call-requires-clause-fits g c =
    let s = c.args.traced.now.record.cells in
    let leaves = leaves_by (books_in s) (c.acts_follow_the_commits.ensures.sound (books_in s) c.is_known.ensures.sound) c.in-Call.call (subst IsRangedAsked c.in-Call.is c.requires.ranged) in
    subst (FitsAct (λ t x. IsFit t x) s) (sym c.centre_act-act.ensures) (fits_by s (centre_act c.in-Call.call (books_in s)) leaves (subst PlacesAct c.centre_act-act.ensures c.places_act.ensures))

pub judge_call-requires-clause-own : goal.judge_call-requires-clause-own
judge_call-requires-clause-own g c =
    let s = c.args.traced.now.record.cells in
    let leaves = leaves_by (books_in s) (c.acts_follow_the_commits.ensures.sound (books_in s) c.is_known.ensures.sound) c.in-Call.call (subst IsRangedAsked c.in-Call.is c.requires.ranged) in
    subst (IsOfNode Centre) (sym c.centre_act-act.ensures) (own_by (books_in s) (centre_act c.in-Call.call (books_in s)) leaves)

pub judge_call-requires-clause-plain : goal.judge_call-requires-clause-plain
judge_call-requires-clause-plain g c = subst IsPlain (sym c.centre_act-act.ensures) (call_plain c.in-Call.call (books_in c.args.traced.now.record.cells))

pub returns-in-Call-clause-next : goal.returns-in-Call-clause-next
returns-in-Call-clause-next g c =
    let s = c.args.traced.now.record.cells in
    let v = view_of counting cells_of c.args.traced.now in
    let leaves = leaves_by (books_in s) (c.acts_follow_the_commits.ensures.sound (books_in s) c.is_known.ensures.sound) c.in-Call.call (subst IsRangedAsked c.in-Call.is c.requires.ranged) in
    subst (λ (a : Asked CentreCall). IfSome (commit_in c.args.day a v) (λ x. IsKnown x.1)) (sym c.in-Call.is)
    (commit_known v (centre_act c.in-Call.call (books_in s)) c.is_known.ensures leaves (subst PlacesAct c.centre_act-act.ensures c.places_act.ensures))
