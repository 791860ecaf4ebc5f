-- What the events of a run took of the rates and printed, and the ledger after them.
use Rattle.std.specs.Prelude.{ℕ, List, [], ◌∷◌, flat_map}
use Rattle.bench_base.specs.declared.events.Event.{Event}
use Rattle.bench_base.specs.Ledger.{Ledger}
use Rattle.bench_base.specs.Rules.{todays_rules}
use Rattle.ledger_moves.specs.Tariffs.{Tariff}
use Rattle.ledger_moves.specs.Moves.{entries}
use Rattle.line_extensions.specs.Trace.{StepRecord}

-- what they took of the rates, and what the printer took in them
abbrev pub rates_of : List StepRecord → List ℕ
rates_of trace = flat_map (λ (d : StepRecord). d.text) trace

-- what the printer took in them
abbrev pub printed_of : List StepRecord → List ℕ
printed_of trace = flat_map (λ (d : StepRecord). d.printed) trace

-- == ledgers, by what is read as rates ==

-- the ledger after what was done in an event
abbrev pub ledger_by : Tariff → Ledger → StepRecord → Ledger
ledger_by τ H d = entries τ todays_rules H d.event d.text d.reply

-- the ledger after the steps
abbrev pub ledger_after : Tariff → Ledger → List StepRecord → Ledger
ledger_after τ H [] = H
ledger_after τ H (d ∷ rest) = ledger_after τ (ledger_by τ H d) rest

-- What was done in each event in turn is what may be done there, as long as the events are unforged.
abbrev pub RunWhile : Tariff → (Ledger → Event → Type 0) → (Ledger → StepRecord → Type 0) → Ledger → List StepRecord → Type 0
RunWhile τ Unforged Moves H [] = Unit {0}
RunWhile τ Unforged Moves H (d ∷ rest) = Unforged H d.event → Moves H d × RunWhile τ Unforged Moves (ledger_by τ H d) rest

-- each event is unforged at its place
abbrev pub AreUnforged : Tariff → (Ledger → Event → Type 0) → Ledger → List StepRecord → Type 0
AreUnforged τ Unforged H [] = Unit {0}
AreUnforged τ Unforged H (d ∷ rest) = Unforged H d.event × AreUnforged τ Unforged (ledger_by τ H d) rest
