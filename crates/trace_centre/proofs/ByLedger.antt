-- What is judged of a line by what is seen of the centre is so by the ledger.
use Rattle.std.proofs.Common.{ℕ, ℤ, List, Result, refl}
use Rattle.std.specs.Prelude.{IfSome}
use Rattle.bench_base.specs.declared.{words.Node.TheVariants.Centre, events.Reply.Reply}
use Rattle.node_acts.specs.declared.asked.Asked.{Asked}
use Rattle.node_acts.specs.Views.{View}
use Rattle.centre_ledger.specs.Seen.{Seen, counting, books_in, IsKnown}
use Rattle.bench_abstraction.specs.declared.calls.CentreCall.{CentreCall}
use Rattle.bench_abstraction.specs.declared.routing.OfDay.TheVariants as of_day
use Rattle.bench_abstraction.specs.Centre.{centre_kind, centre_act, AreBytes}
use Rattle.bench_abstraction.specs.Follows.{CentreFollows}
use Rattle.bench_abstraction.specs.Kinds.{bench_kinds}
use Rattle.node_turns.specs.declared.turn.Turn.{Turn}
use Rattle.trace_views.proofs.Lifted.{IsByActs, lifts}
use Rattle.trace_centre.specs.Verdicts.{commit_in, IsByView, IsByLedger}
use Rattle.trace_centre.proofs.Fitting.{call_plain}

by_acts : IsByActs counting centre_kind Centre tt
by_acts today v call = (centre_act call (books_in v.state), refl, call_plain call (books_in v.state))

pub by_ledger : {T : Type 0} (IsOf : T → Turn → Type 0) (today : ℤ) (asked : Asked CentreCall) (line : List ℕ) (v w : View Seen) (result : Result T Reply)
    → CentreFollows counting bench_kinds IsKnown → IsKnown v.state → IfSome (commit_in today asked v) (λ x. IsKnown x.1)
    → IsByView IsOf today asked line v w result → IsByLedger IsOf today asked line v w result
by_ledger IsOf today asked line v w result law known next judged =
    lifts counting centre_kind Centre tt by_acts of_day.Centre (λ asked is. cc) AreBytes IsKnown law today asked line v w known next IsOf result judged
