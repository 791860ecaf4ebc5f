-- What a line of the report shows about an event of the verifier, by what is seen of it, and by the ledger.
use Rattle.std.specs.Prelude.{ℕ, ℤ, List, Option, Result}
use Rattle.bench_base.specs.declared.{words.Node.TheVariants.Verifier, ledger.Commit.Commit, events.Reply.Reply}
use Rattle.node_acts.specs.declared.asked.Asked.{Asked}
use Rattle.node_acts.specs.Views.{View}
use Rattle.node_turns.specs.declared.turn.Turn.{Turn}
use Rattle.verifier.specs.Seen.{Seen, counting}
use Rattle.bench_abstraction.specs.declared.calls.VerifierCall.{VerifierCall}
use Rattle.bench_abstraction.specs.declared.routing.OfDay.TheVariants as of_day
use Rattle.bench_abstraction.specs.Verifier.{verifier_kind, AreBytes}
use Rattle.trace_views.specs.Verdicts as views

-- what the verifier's commit is of what it is asked on a day, by what is seen of it
abbrev pub commit_in : ℤ → Asked VerifierCall → View Seen → Option (Commit × Seen)
commit_in = views.commit_in counting verifier_kind Verifier tt

abbrev pub IsByView : {T : Type 0} → (T → Turn → Type 0) → ℤ → Asked VerifierCall → List ℕ → View Seen → View Seen → Result T Reply → Type 0
IsByView IsOf = views.IsByView counting verifier_kind Verifier tt IsOf

abbrev pub IsByLedger : {T : Type 0} → (T → Turn → Type 0) → ℤ → Asked VerifierCall → List ℕ → View Seen → View Seen → Result T Reply → Type 0
IsByLedger IsOf = views.IsByLedger counting verifier_kind Verifier tt IsOf of_day.Verifier AreBytes
