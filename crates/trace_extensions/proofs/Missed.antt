-- A reply that may come by the ledger may be got.
use Rattle.std.proofs.Common.{◌≡◌, ℕ, List, subst}
use Rattle.bench_base.specs.declared.{events.Event.Event}
use Rattle.bench_base.specs.Ledger.{Ledger, day_in}
use Rattle.bench_base.specs.Replies.{class_of}
use Rattle.bench_base.specs.Rules.{todays_rules}
use Rattle.ledger_moves.specs.Tariffs.{Tariff}
use Rattle.ledger_moves.specs.Moves.{Moves}
use Rattle.line_extensions.specs.Trace.{StepRecord}
use Rattle.trace_bench.specs.Judging.{MayGet, taken_by}
use Rattle.trace_runs.specs.Audits.{MayTell}

pub may_get : (τ : Tariff) (H : Ledger) (e : Event) (left line : List ℕ) (d : StepRecord) → d.event ≡ e → MayTell τ H left d → MayGet τ H e left line d.reply
may_get τ H e left line d event may =
    let moves : Moves τ todays_rules H d.event (taken_by d.event (day_in H) (class_of d.reply) left) d.reply = subst (λ (t : List ℕ). Moves τ todays_rules H d.event t d.reply) may.takes may.moves in
    subst (λ (f : Event). Moves τ todays_rules H f (taken_by f (day_in H) (class_of d.reply) left) d.reply) event moves
