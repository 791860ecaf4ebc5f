-- What a line of the report shows about an event of the host, by what is seen of it, and by the ledger.
use Rattle.std.specs.Prelude.{ℕ, ℤ, List, Option, Result}
use Rattle.bench_base.specs.declared.{words.Node.TheVariants.Host, ledger.Commit.Commit, events.Event.Event, events.Reply.Reply}
use Rattle.bench_base.specs.Plans.{Plan}
use Rattle.bench_base.specs.Ledger.{Ledger}
use Rattle.node_acts.specs.declared.asked.Asked.{Asked}
use Rattle.node_acts.specs.Views.{View}
use Rattle.node_turns.specs.declared.turn.Turn.{Turn}
use Rattle.host_jobs.specs.Seen.{Seen, counting}
use Rattle.ledger_moves.specs.Tariffs.{Tariff}
use Rattle.bench_abstraction.specs.declared.calls.HostCall.{HostCall}
use Rattle.bench_abstraction.specs.declared.routing.OfDay.TheVariants as of_day
use Rattle.bench_abstraction.specs.Host.{host_kind}
use Rattle.trace_views.specs.Verdicts as views

-- the plan of what the host is asked on a day, and its commit, by what is seen of it
abbrev pub plan_in : ℤ → Asked HostCall → View Seen → Plan
plan_in = views.plan_in counting host_kind Host tt

abbrev pub commit_in : ℤ → Asked HostCall → View Seen → Option (Commit × Seen)
commit_in = views.commit_in counting host_kind Host tt

abbrev pub IsByView : {T : Type 0} → (T → Turn → Type 0) → ℤ → Asked HostCall → List ℕ → View Seen → View Seen → Result T Reply → Type 0
IsByView IsOf = views.IsByView counting host_kind Host tt IsOf

-- P at each history that shows the host so, for each event that asks this of it on this day and contains nothing forged
abbrev pub AtHosts : ℤ → Asked HostCall → View Seen → (Tariff → Ledger → Event → Type 0) → Type 0
AtHosts = views.ByLedger counting host_kind Host tt of_day.Host (λ a. Unit {0})

abbrev pub IsByLedger : {T : Type 0} → (T → Turn → Type 0) → ℤ → Asked HostCall → List ℕ → View Seen → View Seen → Result T Reply → Type 0
IsByLedger IsOf = views.IsByLedger counting host_kind Host tt IsOf of_day.Host (λ a. Unit {0})
