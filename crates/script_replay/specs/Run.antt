-- A run over a script: what it means to do its steps.
use Rattle.std.specs.Prelude.{◌≡◌, List, [], ◌∷◌, None, IsSome}
use Rattle.std.specs.Io.KnownBytes.{Consumes, Appends}
use Rattle.bench_base.specs.declared.{ledger.Entry.TheVariants.Begin, events.Event.Event}
use Rattle.bench_base.specs.Ledger.{Ledger}
use Rattle.bench_base.specs.Rules.{todays_rules}
use Rattle.bench_base.specs.declared.events.Event.TheVariants as ev
use Rattle.node_turns.specs.Printing.{print_of}
use Rattle.ledger_terms.specs.Sane.{IsSane}
use Rattle.ledger_terms.specs.Lawful.{Lawful}
use Rattle.ledger_moves.specs.Tariffs.{Tariff}
use Rattle.ledger_moves.specs.Moves as moves
use Rattle.ledger_moves.specs.Moves.{plan}
use Rattle.ledger_moves.specs.Histories as histories
use Rattle.bench_abstraction.specs.Tariff.{IsOfTexts}
use Rattle.bench.specs.Benches.{Nodes, BenchOf}
use Rattle.bench.specs.Outside.{WantsMemory}
use Rattle.bench.specs.Places.{Begun}
use Rattle.script_replay.specs.Chains.{Scene, scene, DidEvents, SceneOf}
use Rattle.script_replay.specs.Counts.{AreBalanced}
use Rattle.line_extensions.specs.Trace.{StepRecord}
use Rattle.script_replay.specs.Trace.{rates_of, printed_of, ledger_after, RunWhile, AreUnforged}
use Rattle.script_replay.specs.Marks.{IsPrinted}
use Rattle.script_replay.specs.Throughout.{IsAllPaid, StandsFor, Throughout}
use Rattle.script_replay.specs.Undisturbed.{IsAnswer, IsTheAnswer, NoneOpen, AreUndisturbed}
use Rattle.line_runs.specs.declared.{status.Status.Status, status.SideStatus.SideStatus, status.SideStatus.TheVariants.Run, status.SideStatus.TheVariants.Stopped}
use Rattle.line_runs.specs.declared.status.Status.TheVariants as status

-- == what it means to do the steps ==

-- what comes from outside in the event is not forged
abbrev pub Unforged : Ledger → Event → Type 0
Unforged H e = histories.Unforged e H

-- the reply is one that the event may get at this ledger
abbrev pub Moves : Tariff → Ledger → StepRecord → Type 0
Moves τ H d = moves.Moves τ todays_rules H d.event d.text d.reply

-- what was printed is of the mark that the event prints at this ledger
abbrev pub Prints : Tariff → Ledger → StepRecord → Type 0
Prints τ H d = IsPrinted d.reply (print_of (plan τ todays_rules H d.event d.text).after) d.printed

-- no reply is one that never comes
abbrev pub Sane : Ledger → StepRecord → Type 0
Sane H d = IsSane d.reply

-- What a run leaves, by its end: all is as the steps left it; except for lack of memory, which a `rates` on a day may find, some of the
-- rates may be taken.
abbrev pub Leaves : {D C H V : Type 0} → SideStatus → Scene D C H V → Scene D C H V → Type 0
Leaves (Run status.Done) behind now = now ≡ behind
Leaves (Run status.Words) behind now = now ≡ behind
Leaves (Run (status.Script line)) behind now = now ≡ behind
Leaves (Run status.ReadFault) behind now = now ≡ behind
Leaves (Run status.WriteFault) behind now = now ≡ behind
Leaves (Run status.Memory) behind now = (now.bench ≡ behind.bench) × WantsMemory ev.Rates behind.bench.day behind.outside now.outside
Leaves (Run status.TooLong) behind now = now ≡ behind
Leaves Stopped behind now = now ≡ behind

module _ (n : Nodes) where
  -- What holds by a history that the bench represented, with a run begun. Each reply is one that its event may get there. As long as
  -- nothing from outside is forged, the bench represents what the steps leave, and no reply is one that is never given if devices and
  -- centre are honest. What the steps leave is then lawful and paid for to the letter box. A printer that exposes what it took has the
  -- marks of the events.
  -- If no storage and no stream failed and no fuse was armed, each reply is the answer. A node that comes on with an open commit has two
  -- answers, and the reply is one of them. If no commit was open at the beginning, the reply is the answer itself.
  pub record DidOver (τ : Tariff) (L : Ledger) (old new : SceneOf n) (trace : List StepRecord) : Type 0 where
    pub run : RunWhile τ Unforged (Moves τ) (Begin ∷ L) trace
    pub stands : AreUnforged τ Unforged (Begin ∷ L) trace → StandsFor n τ new.bench (ledger_after τ (Begin ∷ L) trace)
    pub lawful : AreUnforged τ Unforged (Begin ∷ L) trace → Lawful todays_rules (ledger_after τ (Begin ∷ L) trace)
    pub paid : AreUnforged τ Unforged (Begin ∷ L) trace → IsAllPaid (ledger_after τ (Begin ∷ L) trace)
    pub sane : RunWhile τ Unforged Sane (Begin ∷ L) trace
    pub prints : IsSome old.outside.printer.taken → RunWhile τ Unforged (Prints τ) (Begin ∷ L) trace
    pub answers : AreUndisturbed n old new trace → RunWhile τ Unforged (IsAnswer τ) (Begin ∷ L) trace
    pub exact : AreUndisturbed n old new trace → NoneOpen L → RunWhile τ Unforged (IsTheAnswer τ) (Begin ∷ L) trace

-- The bench began a run, without a day, messages and rates, and did the steps: each event by a step, whether or not a history
-- leads to what the storages show. The rates and the printer are as they took and printed in turn. If the bench represented
-- a history, it represents at each moment what was done so far, and what a stop of the process leaves represents that too.
pub record DidRun (n : Nodes)
    (old new : SceneOf n) (outcome : Status) (trace : List StepRecord) : Type 0 where
  pub begun : BenchOf n
  pub begins : Begun n old.bench begun
  pub no_day : begun.day ≡ None
  pub no_messages : begun.messages ≡ []
  pub no_rates : begun.rates ≡ None
  pub behind : SceneOf n
  pub steps : DidEvents n (scene begun old.outside) behind trace
  pub leaves : Leaves (Run outcome) behind new
  pub taken : Consumes old.outside.rates.left behind.outside.rates.left (rates_of trace)
  pub printed : Appends old.outside.printer.taken new.outside.printer.taken (printed_of trace)
  pub balanced : AreBalanced n old new trace
  pub over : (τ : Tariff) (L : Ledger) → IsOfTexts τ → StandsFor n τ old.bench L → n.storage.tells → DidOver n τ L old new trace
  pub throughout : (τ : Tariff) (L : Ledger) → IsOfTexts τ → StandsFor n τ old.bench L → n.storage.tells
      → Throughout n τ (Begin ∷ L) (scene begun old.outside) behind trace steps
