-- What a run over a script claims of money. It speaks of lines, replies, marks and the ledger alone: of no bench, no node and no storage.
use Rattle.std.specs.Prelude.{◌≡◌, ◌↔◌, ℕ, List, [], ◌∷◌, Option, IfSome}
use Rattle.std.specs.Io.KnownBytes.{Appends}
use Rattle.bench_base.specs.Causes.{Rose}
use Rattle.bench_base.specs.declared.ledger.Entry.TheVariants.{Begin}
use Rattle.bench_base.specs.Rules.{todays_rules}
use Rattle.ledger_terms.specs.Lawful.{Lawful}
use Rattle.ledger_moves.specs.Tariffs.{Tariff}
use Rattle.bench_abstraction.specs.Tariff.{IsOfTexts}
use Rattle.line_extensions.specs.Trace.{StepRecord, done_in}
use Rattle.line_extensions.specs.Scripts.{script_grammar, script_lines}
use Rattle.line_runs.specs.Ends.{EndsAs, IsByScript}
use Rattle.line_runs.specs.Runs.{Replayed}
use Rattle.line_runs.specs.declared.{status.Status.Status, status.Status.TheVariants.ReadFault, status.Status.TheVariants.WriteFault, status.SideStatus.TheVariants.Run}
use Rattle.script_replay.specs.Trace.{ledger_after, printed_of, RunWhile, AreUnforged}
use Rattle.script_replay.specs.Run.{Unforged, Moves, Prints}
use Rattle.script_replay.specs.Streams.{Streams}
use Rattle.script_replay.specs.Throughout.{IsAllPaid}

-- The steps are right from the empty ledger on, by what this tariff reads in rates. Up to the first event that takes something forged from
-- outside, each reply is one that its event may get at the ledger so far, and each printed line is the mark of its event. If no event does,
-- the ledger that they leave is lawful, and at each moment accepted mail was franked, and franked mail was bought.
pub record AreRight (τ : Tariff) (steps : List StepRecord) : Type 0 where
  pub replies : RunWhile τ Unforged (Moves τ) (Begin ∷ []) steps
  pub prints : RunWhile τ Unforged (Prints τ) (Begin ∷ []) steps
  pub lawful : AreUnforged τ Unforged (Begin ∷ []) steps → Lawful todays_rules (ledger_after τ (Begin ∷ []) steps)
  pub paid : AreUnforged τ Unforged (Begin ∷ []) steps → IsAllPaid (ledger_after τ (Begin ∷ []) steps)

-- What the printer took is what the steps printed, and the steps are right.
pub record AreMade (before now : Option (List ℕ)) (steps : List StepRecord) : Type 0 where
  pub printed : Appends before now (printed_of steps)
  pub right : (τ : Tariff) → IsOfTexts τ → AreRight τ steps

-- A run over a script on new storages.
pub record Headline (outcome : Status) (before now : Streams) : Type 0 where
  -- the lines of the script were done one after the other, and the report took the line of each reply
  pub steps : Replayed script_lines (Run outcome) (λ trace. AreMade before.outside.printer.taken now.outside.printer.taken (done_in trace))
      before.left now.left before.taken now.taken
  -- the status reports an `end`, a bad line or a line too many if and only if the bytes of the script have it, unless a stream fails or memory runs out
  pub by_script : IfSome before.left (λ bytes. IsByScript (Run outcome) → (s : Status) → (outcome ≡ s) ↔ EndsAs script_grammar s bytes)
  -- a script that can't be read, and a report that can't be written, were counted as faults
  pub read_fault : outcome ≡ ReadFault → Rose before.read_faults now.read_faults
  pub write_fault : outcome ≡ WriteFault → Rose before.write_faults now.write_faults
