-- What an audit leaves to the runs that fit: each step of a line that may have written what the report has is the one that was taken.
use Rattle.std.specs.Prelude.{◌≡◌, ◌≢◌, ◌⊎◌, ℕ, List, [], ◌∷◌, ◌++◌, Option, Some, None}
use Rattle.std.specs.List.{AllByRecursion}
use Rattle.bench_base.specs.declared.{words.Node.Node, events.Event.Event, events.Reply.Reply}
use Rattle.bench_base.specs.Ledger.{Ledger}
use Rattle.bench_base.specs.Rules.{editions}
use Rattle.ledger_moves.specs.Tariffs.{Tariff}
use Rattle.ledger_moves.specs.Histories.{History}
use Rattle.script_text.specs.Texts.{text_of}
use Rattle.line_runs.specs.Lines.{ended}
use Rattle.line_extensions.specs.Trace.{StepRecord}
use Rattle.line_extensions.specs.Desks.{World, world, Asked, Asks, DoesOne}
use Rattle.line_extensions.specs.SideTrace.{SideStep, side_line, side_text, SideIsOf, IsBroken}
use Rattle.line_extensions.specs.declared.{extension.Extension.Ghosts, extension.Next.Next, extension.Next.TheVariants.Step, extension.Next.TheVariants.Say, extension.Next.TheVariants.Stop}
use Rattle.trace_bench.specs.Prefixes.{IsFailure}
use Rattle.trace_bench.specs.Seeing.{Audit, Sees}
use Rattle.trace_runs.specs.Audits.{MayTell}
use Rattle.trace_runs.specs.Fitting.{BeginsTold}
use Rattle.trace_runs.specs.Runs.{StopLeaves}
use Rattle.trace_extensions.specs.Fits.{EndsEarly, IsCutShort, IsText, HasTexts}
use Rattle.trace_extensions.specs.FitsStopped.{AgreedStop, EventStopped, TellsStop, TellsOwnStop}
use Rattle.trace_extensions.specs.Models.{Model, by_model, AreToldOf, IsSure}
use Rattle.trace_extensions.specs.Places.{Place, MayStep}
use Rattle.trace_extensions.specs.Takes.{AtEachSeen}
use Rattle.trace_extensions.specs.declared.{papers.Reach.Reach, papers.SideVerdict.SideVerdict, papers.SideVerdict.TheVariants.Stopped, taking.Miss.Miss, taking.Miss.TheVariants.Wrong, taking.Miss.TheVariants.Forged, taking.Miss.TheVariants.Unkept, taking.Miss.TheVariants.Memory}
use Rattle.trace_extensions.specs.Steps.{AuditWorld, AuditStep, Passed, Heard, Own, Begun, Ended}

-- == answers to an event ==

-- it is left open why the answer was not taken
abbrev pub IsOpenMiss : Miss → Type 0
IsOpenMiss (Wrong due) = ⊥
IsOpenMiss Forged = ⊥
IsOpenMiss Unkept = Unit {0}
IsOpenMiss Memory = Unit {0}

-- Q, whatever reply may come for the event with a text that has P
abbrev pub EachReply : Event → List ℕ → Audit → (List ℕ → Type 0) → Type 0 → Type 0
EachReply e left old P Q = AtEachSeen old (λ τ H. (d : StepRecord) → d.event ≡ e → MayTell τ H left d → P (text_of d.reply) → Q)

-- the report goes on with this line, and these bytes after it
abbrev pub HasNext : Option (List ℕ) → List ℕ → List ℕ → Type 0
HasNext report line told = report ≡ Some (ended line ++ told)

-- == lines ==

module _ {V : Type 0} (m : Model V) where
  -- this may have been done for the line, from this place to that one; the report has its text, and goes on so
  pub record MayBe (τ : Tariff) (at mid : World Place V) (line : List ℕ) (report : Option (List ℕ)) (told : List ℕ) (b : SideStep (List ℕ)) : Type 0 where
    pub line_is : side_line b ≡ line
    pub is : SideIsOf (by_model m).IsOwn b
    pub whole : IsBroken b → ⊥
    pub texts : HasTexts b
    pub did : DoesOne (by_model m) (MayStep τ) at mid b
    pub report_is : report ≡ Some (side_text b ++ told)

  abbrev pub EachMayBe : Tariff → World Place V → List ℕ → Option (List ℕ) → (World Place V → List ℕ → Type 0) → Type 0
  EachMayBe τ at line report P = (mid : World Place V) (told : List ℕ) (b : SideStep (List ℕ)) → MayBe τ at mid line report told b → P mid told

  -- The step of this number was asked for, and a node failed in it, as this line tells. The answer after any failure in that step tells it.
  pub record FailsAt (Fails : ℕ → List ℕ → Reply → Type 0) (τ : Tariff) (at mid : World Place V) (event : Event) (number : ℕ) (line : List ℕ) : Type 0 where
    pub step : StepRecord
    pub sure : IsSure event
    pub asked : Asked (by_model m) (MayStep τ) at mid (Step event) step Say
    pub fails : Fails number line step.reply
    pub tells : (other : World Place V) (d : StepRecord) (n : Node) → Asked (by_model m) (MayStep τ) at other (Step event) d Say → IsFailure d.reply n
        → (text : List ℕ) × (more : List (List ℕ)) × (m.texts other.desk ≡ text ∷ more) × Fails number text d.reply

  -- these steps may answer an own line, with this as the first text of the answer, and these texts after it
  pub record MayAnswer (Fails : ℕ → List ℕ → Reply → Type 0) (τ : Tariff) (at mid : World Place V) (next : Next) (line : List ℕ) (more : List (List ℕ))
      (steps : List StepRecord) : Type 0 where
    pub asks : Asks (by_model m) (MayStep τ) at mid next steps Say
    pub texts : m.texts mid.desk ≡ line ∷ more
    pub are : AllByRecursion IsText (line ∷ more)
    pub tells : AreToldOf Fails 1 line steps

module _ {K V : Type 0} (view : K → V) where
  -- what the auditor has is so of this place
  pub record IsMet (τ : Tariff) (audit : Audit) (rates : List ℕ) (desk : K) (at : World Place V) : Type 0 where
    pub history : History τ editions at.scene.ledger
    pub sees : Sees audit at.scene.ledger
    pub left : at.scene.left ≡ rates
    pub kept : at.desk ≡ view desk

  -- and of what is left of the report
  abbrev pub IsMetIn : Tariff → AuditWorld K → World Place V → Option (List ℕ) → Type 0
  IsMetIn τ w at report = IsMet τ w.audit w.rates w.desk at × (w.report ≡ report)

-- == stops ==

-- the run is called stopped at the line of this number, or the audit was cut short
abbrev pub IsCalledStopped : ℕ → SideVerdict → Type 0
IsCalledStopped number verdict = (verdict ≡ Stopped number) ⊎ IsCutShort verdict

-- Q of each ledger that a stop at this event may leave, if the report ends with these bytes of its answer
abbrev pub EachLeft : Event → List ℕ → List ℕ → Audit → (Ledger → Type 0) → Type 0
EachLeft e left told old Q = AtEachSeen old (λ τ H. (K : Ledger) → BeginsTold τ H left e told → StopLeaves τ H e left told K → Q K)

-- so many steps of the line of this number were done
abbrev pub reached : ℕ → ℕ → Reach
reached line steps = record { line = line; steps = Some steps }

module _ {V : Type 0} where
  -- Q of whatever a stop at this line may leave, if the rest of the report is what was written of the answer
  abbrev pub EachStop : (World Place V → List ℕ → List ℕ → Ledger → V → Type 0) → World Place V → List ℕ → Option (List ℕ) → (Ledger → V → Type 0)
      → Type 0
  EachStop AtLine at line report Q = (told : List ℕ) (K : Ledger) (kept : V) → AtLine at line told K kept → report ≡ Some told → Q K kept

  -- Q of what a stop may leave, as the reach says, of an own line of which this was asked first, if these bytes of its answer were written
  abbrev pub EachOwnLeft : Model V → Tariff → Place → V → Next → List ℕ → Option Reach → (Ledger → V → Type 0) → Type 0
  EachOwnLeft m τ scene desk first told reach Q = (v : V) (line : List ℕ) (K : Ledger) (kept : V) → m.Begins v line first desk → first ≢ Stop
      → AgreedStop m τ (world scene v) line told K kept reach → Q K kept

module _ {V : Type 0} (m : Model V) (τ : Tariff) (at : World Place V) (line : List ℕ) (report : Option (List ℕ)) where
  abbrev pub EachEventStop : (Ledger → V → Type 0) → Type 0
  EachEventStop Q = EachStop (λ at line told K kept. EventStopped m τ at line told K kept) at line report Q

  abbrev pub EachOwnStop : Option Reach → (Ledger → V → Type 0) → Type 0
  EachOwnStop reach Q = EachStop (λ at line told K kept. AgreedStop m τ at line told K kept reach) at line report Q

  -- no run was stopped at this line
  pub record NoStop : Type 0 where
    pub event : EachEventStop (λ K kept. ⊥)
    pub own : EachOwnStop None (λ K kept. ⊥)

  -- if one was, that is told, where the audit ended and left this
  pub record TellsStops {K : Type 0} (view : K → V) (left : AuditWorld K) : Type 0 where
    pub event : EachEventStop (TellsStop m left.reach left.verdict left.audit (view left.desk))
    pub own : EachOwnStop left.reach (TellsOwnStop m left.reach left.verdict left.audit (view left.desk))

module _ {K T : Type 0} (k : Ghosts K T) {V : Type 0} (view : K → V) (m : Model V) where
  -- For the lines in turn: no run was stopped there, and whatever may have been done for them ends with P. If the audit ended at a line, nothing may have
  -- been done for that line, or the audit ended early; and a stop there is told.
  abbrev pub Only : Tariff → (World Place V → Option (List ℕ) → Type 0) → World Place V → Option (List ℕ) → List (AuditStep k.Own K) → Type 0
  Only τ P at report [] = P at report
  Only τ P at report (Passed line ∷ rest) = NoStop m τ at line report × EachMayBe m τ at line report (λ mid told. Only τ P mid (Some told) rest)
  Only τ P at report (Heard line e answer ∷ rest) = NoStop m τ at line report × EachMayBe m τ at line report (λ mid told. Only τ P mid (Some told) rest)
  Only τ P at report (Own line own texts ∷ rest) = NoStop m τ at line report × EachMayBe m τ at line report (λ mid told. Only τ P mid (Some told) rest)
  Only τ P at report (Begun line begun left ∷ rest) =
      TellsStops m τ at line report view left × EachMayBe m τ at line report (λ mid told. EndsEarly left.reach left.verdict)
  Only τ P at report (Ended line left ∷ rest) =
      TellsStops m τ at line report view left × EachMayBe m τ at line report (λ mid told. EndsEarly left.reach left.verdict)
