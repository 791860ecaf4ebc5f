-- What steps fit a script and its report, prints aside; and how the verdict of an audit stands to them.
use Rattle.std.specs.Prelude.{◌≡◌, ◌↔◌, ℕ, ◌+◌, ◌≤◌, List, [], ◌∷◌, ◌++◌, length, map, drop, ◌⊎◌}
use Rattle.std.specs.List.{AllByRecursion}
use Rattle.bench_base.specs.declared.{events.Event.Event, events.Reply.Reply, ledger.Entry.TheVariants.Begin}
use Rattle.bench_base.specs.declared.events.Event.TheVariants as ev
use Rattle.bench_base.specs.declared.events.Reply.TheVariants as r
use Rattle.bench_base.specs.Ledger.{Ledger}
use Rattle.bench_base.specs.Rules.{editions}
use Rattle.bench_abstraction.specs.Tariff.{IsOfTexts}
use Rattle.ledger_moves.specs.Tariffs.{Tariff}
use Rattle.ledger_moves.specs.Histories.{History}
use Rattle.script_text.specs.Texts.{text_of}
use Rattle.line_runs.specs.Trace.{Reads, report_of}
use Rattle.line_runs.specs.Ends.{lines_of, EndsAt}
use Rattle.line_extensions.specs.Trace.{StepRecord, TraceStep, GoesOn, done_in, line_in, line_of}
use Rattle.line_extensions.specs.Scripts.{script_lines, script_grammar}
use Rattle.script_replay.specs.Trace.{ledger_by, ledger_after}
use Rattle.trace_bench.specs.Seeing.{Audit}
use Rattle.trace_bench.specs.Stopping.{IsPrefixOf}
use Rattle.trace_runs.specs.Audits.{MayTell, IsRun}
use Rattle.trace_runs.specs.Between.{SeesBetween}
use Rattle.trace_runs.specs.Prints.{ArePrinted}
use Rattle.trace_runs.specs.Verdicts.{IsEvent, Says, Audited, status_of}
use Rattle.trace_runs.specs.declared.{imprint.Imprint.Imprint, verdict.Ending.Ending, verdict.Ending.TheVariants.Done as Ended, verdict.Ending.TheVariants.Script, verdict.Ending.TheVariants.TooLong, verdict.Verdict.Verdict, verdict.Verdict.TheVariants.Lawful, verdict.Verdict.TheVariants.Stopped, verdict.Verdict.TheVariants.Wrong, verdict.Verdict.TheVariants.Forged, verdict.Verdict.TheVariants.Unkept, verdict.Verdict.TheVariants.More, verdict.Verdict.TheVariants.Memory, verdict.Verdict.TheVariants.Unread}

-- each is possible in turn, at the ledger and with the rates that those before it leave
abbrev pub AreTold : Tariff → Ledger → List ℕ → List StepRecord → Type 0
AreTold τ H left [] = Unit {0}
AreTold τ H left (d ∷ rest) = MayTell τ H left d × AreTold τ (ledger_by τ H d) (drop (length d.text) left) rest

-- what they leave of the rates
abbrev pub rates_after : List ℕ → List StepRecord → List ℕ
rates_after left [] = left
rates_after left (d ∷ rest) = rates_after (drop (length d.text) left) rest

-- nothing; or, after a printer fault, a line end with which somebody ended the line by hand
abbrev pub IsByHand : Reply → List ℕ → Type 0
IsByHand reply hand = (hand ≡ []) ⊎ ((job : ℕ) × (reply ≡ r.PrinterFault job) × (hand ≡ 10 ∷ []))

-- the prints have what the printer took in these steps, in turn, and line ends that were put there by hand
abbrev pub HavePrints : List StepRecord → List ℕ → Type 0
HavePrints [] prints = prints ≡ []
HavePrints (d ∷ trace) prints = (hand rest : List ℕ) × (prints ≡ d.printed ++ (hand ++ rest)) × IsByHand d.reply hand × HavePrints trace rest

-- At this ledger, with these rates left, what is left of the report is the line of a reply that `end` may get; or it is nothing, where the script
-- ends otherwise.
abbrev pub EndsTold : Tariff → Ledger → List ℕ → Ending → List ℕ → Type 0
EndsTold τ K left Ended told = (d : StepRecord) × (d.event ≡ ev.End) × MayTell τ K left d × (told ≡ line_of d.reply)
EndsTold τ K left (Script line) told = told ≡ []
EndsTold τ K left TooLong told = told ≡ []

-- At this ledger, with these rates left, what is left of the report is the prefix of the line of a reply that this event may get: none, some or all of it.
abbrev pub BeginsTold : Tariff → Ledger → List ℕ → Event → List ℕ → Type 0
BeginsTold τ K left e told = (d : StepRecord) × (d.event ≡ e) × MayTell τ K left d × IsPrefixOf told (text_of d.reply)

-- The ledger is the one at which a run begins.
module _ (τ : Tariff) (H : Ledger) (script report rates : List ℕ) where
  -- These steps fit: their lines are the first of the script, their replies' lines the first of the report, and each is possible in turn.
  pub record FitsFirst (trace : List TraceStep) : Type 0 where
    pub each : AllByRecursion (Reads script_lines) trace
    pub go_on : AllByRecursion GoesOn trace
    pub few : length trace ≤ 1000000
    pub rest : List (List ℕ)
    pub told : List ℕ
    pub script_is : lines_of script ≡ map line_in trace ++ rest
    pub report_is : report ≡ report_of script_lines trace ++ told
    pub are : AreTold τ H rates (done_in trace)

  -- They fit to the end: the script ends after them, and the report with it.
  pub record FitsToEnd (trace : List TraceStep) : Type 0 where
    pub fits : FitsFirst trace
    pub end : Ending
    pub ends : EndsAt script_grammar (status_of end) (length trace + 1) fits.rest
    pub ends_told : EndsTold τ (ledger_after τ H (done_in trace)) (rates_after rates (done_in trace)) end fits.told

  -- They fit, and the report ends before the line end of the reply to the next event: the run may have been stopped there.
  pub record FitsStopped (trace : List TraceStep) : Type 0 where
    pub fits : FitsFirst trace
    pub event : Event
    pub next : IsEvent (length trace + 1) fits.rest event
    pub begins : BeginsTold τ (ledger_after τ H (done_in trace)) (rates_after rates (done_in trace)) event fits.told

  -- They fit to the end, and these are their prints.
  pub record FitsPrinted (prints : List ℕ) (trace : List TraceStep) : Type 0 where
    pub fits : FitsToEnd trace
    pub run : IsRun τ H rates (done_in trace)
    pub prints_are : HavePrints (done_in trace) prints

-- no more was judged, since there was no memory, or an input could not be read, or an event contains bytes and the auditor keeps nothing to
-- recognize forged ones
abbrev pub IsCutShort : Verdict → Type 0
IsCutShort (Lawful end) = ⊥
IsCutShort (Stopped n) = ⊥
IsCutShort (Wrong n due) = ⊥
IsCutShort (Forged n) = ⊥
IsCutShort (Unkept n) = Unit {0}
IsCutShort (More n end) = ⊥
IsCutShort Memory = Unit {0}
IsCutShort (Unread input n) = Unit {0}

-- lawful, or cut short
abbrev pub IsLawful : Verdict → Type 0
IsLawful v = ((end : Ending) × (v ≡ Lawful end)) ⊎ IsCutShort v

-- stopped at the line of this number, or cut short
abbrev pub IsStoppedAt : Verdict → ℕ → Type 0
IsStoppedAt v number = (v ≡ Stopped number) ⊎ IsCutShort v

-- P of each history that the auditor saw as a run begins, by a tariff of texts
abbrev pub AtSeen : Audit → (Tariff → Ledger → Type 0) → Type 0
AtSeen old P = (τ : Tariff) (H : Ledger) → IsOfTexts τ → History τ editions H → SeesBetween old H → P τ (Begin ∷ H)

-- AN AUDIT IS EXACT. No steps that fit are more than it paired, unless it was cut short. So if it says that a line is wrong, or that its event
-- contains forged bytes, no steps fit with that line. If any steps fit to the end, it says that the run is lawful, unless it was cut short; and if
-- it says so, some do. If any steps fit up to a place at which the run may have been stopped, it says that, unless it was cut short; and if it says
-- so, some do.
pub record IsExact (v : Verdict) (script report rates : List ℕ) (old new : Audit) (says : Says v script report rates old new) : Type 0 where
  pub longest : (IsCutShort v → ⊥) → AtSeen old (λ τ H. (trace : List TraceStep) → FitsFirst τ H script report rates trace → length trace ≤ length says.pairs)
  pub complete : AtSeen old (λ τ H. (trace : List TraceStep) → FitsToEnd τ H script report rates trace → IsLawful v)
  pub sound : (end : Ending) → v ≡ Lawful end
      → AtSeen old (λ τ H. (trace : List TraceStep) × FitsToEnd τ H script report rates trace)
  pub stops : AtSeen old (λ τ H. (trace : List TraceStep) → FitsStopped τ H script report rates trace → IsStoppedAt v (length trace + 1))
  pub stopped : (n : ℕ) → v ≡ Stopped n
      → AtSeen old (λ τ H. (trace : List TraceStep) × FitsStopped τ H script report rates trace)

-- ONE VERDICT. Two verdicts over the same script, report and rates, by auditors that had the same before, are equal if neither was cut short. It takes
-- one history that they saw as the run began.
abbrev pub AreEqual : Verdict → Verdict → List ℕ → List ℕ → List ℕ → Audit → Audit → Audit → Type 0
AreEqual v w script report rates old new other =
    Says v script report rates old new → Says w script report rates old other → (IsCutShort v → ⊥) → (IsCutShort w → ⊥) → AtSeen old (λ τ H. v ≡ w)

-- If an audit of a run says that it is lawful, prints are those of what was given in it if and only if they are the prints of some steps that fit.
abbrev pub PrintsFit : Verdict → List ℕ → List ℕ → List ℕ → Audit → Audit → List Imprint → Type 0
PrintsFit v script report rates old new given =
    (a : Audited v script report rates old new [] given) (end : Ending) (prints : List ℕ) → v ≡ Lawful end
    → AtSeen old (λ τ H. ArePrinted given prints ↔ ((trace : List TraceStep) × FitsPrinted τ H script report rates prints trace))
