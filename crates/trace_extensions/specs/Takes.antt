-- What an auditor takes: at each history that it sees, something may have been done, and it then sees what that leaves.
use Rattle.std.specs.Prelude.{◌≡◌, ℕ, List, length, drop, Option}
use Rattle.std.specs.Io.KnownBytes.{Consumes, IsAtEnd}
use Rattle.bench_base.specs.declared.{events.Event.Event, events.Reply.Reply}
use Rattle.bench_base.specs.Ledger.{Ledger}
use Rattle.bench_base.specs.Rules.{editions}
use Rattle.bench_abstraction.specs.Tariff.{IsOfTexts}
use Rattle.ledger_moves.specs.Tariffs.{Tariff}
use Rattle.ledger_moves.specs.Histories.{History, Unforged}
use Rattle.script_text.specs.Texts.{text_of}
use Rattle.line_extensions.specs.Trace.{StepRecord}
use Rattle.script_replay.specs.Trace.{ledger_by}
use Rattle.trace_bench.specs.Prefixes.{IsDue}
use Rattle.trace_bench.specs.Seeing.{Audit, Sees}
use Rattle.trace_bench.specs.Stopping.{IsBegun}
use Rattle.trace_runs.specs.Audits.{MayTell}
use Rattle.trace_runs.specs.Between.{SeesBetween}
use Rattle.trace_runs.specs.Fitting.{BeginsTold}
use Rattle.trace_runs.specs.Runs.{StopLeaves}
use Rattle.node_turns.specs.declared.turn.Turn.{Turn}
use Rattle.trace_extensions.specs.Places.{turn_at}

-- P of each history that the auditor has, by a tariff of texts
abbrev pub AtEachSeen : Audit → (Tariff → Ledger → Type 0) → Type 0
AtEachSeen a P = (τ : Tariff) (H : Ledger) → IsOfTexts τ → History τ editions H → Sees a H → P τ H

-- the event may get a reply of this line, which leaves these rates, and the auditor sees the ledger after it
pub record TakesAt (τ : Tariff) (H : Ledger) (e : Event) (line : List ℕ) (new : Audit) (left0 left1 : List ℕ) (d : StepRecord) : Type 0 where
  pub event : d.event ≡ e
  pub text : text_of d.reply ≡ line
  pub may : MayTell τ H left0 d
  pub sees : Sees new (ledger_by τ H d)
  pub left : left1 ≡ drop (length d.text) left0

-- THE LINE IS TAKEN for the answer to the event, and this reports its turn
abbrev pub TakesLine : {T : Type 0} → (T → Turn → Type 0) → T → Event → List ℕ → Audit → Audit → List ℕ → List ℕ → Type 0
TakesLine IsOf told e line old new left0 left1 =
    AtEachSeen old (λ τ H. (d : StepRecord) × TakesAt τ H e line new left0 left1 d × IsOf told (turn_at τ H d))

-- this answer is due to the event, and the auditor sees what it saw
abbrev pub IsDueAt : Event → Reply → List ℕ → Audit → Audit → Type 0
IsDueAt e due left old new = AtEachSeen old (λ τ H. Unforged e H × IsDue τ H e left due × Sees new H)

-- the event may get a reply with a line that begins so, and the auditor sees what may then be left
abbrev pub IsBegunAt : Event → List ℕ → List ℕ → Audit → Audit → Type 0
IsBegunAt e told left old new = AtEachSeen old (λ τ H. Unforged e H × IsBegun τ H e left told new)

-- the run may have been stopped at the event, with these bytes of the answer written, and leave a ledger that the auditor then sees
abbrev pub MayLeave : Event → List ℕ → List ℕ → Audit → Audit → Type 0
MayLeave e told left old new =
    AtEachSeen old (λ τ H. (K : Ledger) × BeginsTold τ H left e told × StopLeaves τ H e left told K × History τ editions K × SeesBetween new K)

-- the report ends with bytes that may begin the line of the answer to the event
abbrev pub EndsWithin : Event → List ℕ → Audit → Audit → Option (List ℕ) → Option (List ℕ) → Type 0
EndsWithin e left old new report0 report1 =
    (told : List ℕ) × IsBegunAt e told left old new × MayLeave e told left old new × Consumes report0 report1 told × IsAtEnd report1
