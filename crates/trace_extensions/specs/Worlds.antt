-- What an audit of a run with an extension works on, and what it did for the lines.
use Rattle.std.specs.Prelude.{◌≡◌, ◌⊎◌, ◌<◌, ◌+◌, ◌^◌, ℕ, List, [], ◌∷◌, Option, length}
use Rattle.std.specs.Io.KnownBytes.{Consumes, IsAtEnd}
use Rattle.bench_base.specs.declared.events.Event.{Event}
use Rattle.bench_base.specs.Ledger.{Ledger}
use Rattle.bench_base.specs.Rules.{editions}
use Rattle.ledger_moves.specs.Tariffs.{Tariff}
use Rattle.ledger_moves.specs.Histories.{History}
use Rattle.node_turns.specs.declared.turn.Turn.{Turn}
use Rattle.script_text.specs.Texts.{text_of}
use Rattle.line_runs.specs.declared.status.SideStatus.{SideStatus}
use Rattle.line_extensions.specs.Trace.{StepRecord}
use Rattle.line_extensions.specs.Desks.{World, world, Asks, DidPlain, Answered}
use Rattle.line_extensions.specs.declared.{extension.Extension.Ghosts, extension.Next.Next, extension.Next.TheVariants.Step, extension.Next.TheVariants.Say}
use Rattle.trace_bench.specs.Seeing.{Audit, Sees, keeps}
use Rattle.trace_runs.specs.Between.{SeesBetween}
use Rattle.line_extensions.specs.Wants.{IsStep}
use Rattle.trace_extensions.specs.FitsStopped.{IsCutOf, LeftByStep, SaysStopped, StopFits}
use Rattle.trace_extensions.specs.Exact.{IsMetIn, Only}
use Rattle.trace_extensions.specs.Models.{Model}
use Rattle.trace_extensions.specs.Places.{Place, place, MayStep}
use Rattle.trace_extensions.specs.Steps.{AuditWorld, AuditStep, Passed, Heard, Own, Begun, Ended, audit_text}
use Rattle.trace_extensions.specs.Stops.{StepBegun, LeftAt}
use Rattle.trace_extensions.specs.Takes.{AtEachSeen}

-- the ledger is a history that the auditor sees, and rates and extension are these
pub record IsSeenAt {K : Type 0} (τ : Tariff) (a : Audit) (rates : List ℕ) (extension : K) (at : World Place K) : Type 0 where
  pub history : History τ editions at.scene.ledger
  pub sees : Sees a at.scene.ledger
  pub left : at.scene.left ≡ rates
  pub desk : at.desk ≡ extension

-- the step may have been done, and leave a ledger that the auditor then sees
abbrev pub StepLeft : Tariff → Place → Event → Audit → Type 0
StepLeft τ at event now = StepBegun τ at event now × ((K : Ledger) × LeftByStep τ at event K × History τ editions K × SeesBetween now K)

-- what is said of a stop
abbrev pub StopSays : Type 0 → Type 1
StopSays K = World Place K → List ℕ → List ℕ → AuditWorld K → Type 0

module _ {K T : Type 0} (k : Ghosts K T) where
  -- the event was done by a step with a reply of this line
  pub record HeardAt (τ : Tariff) (old new : World Place K) (line : List ℕ) (e : Event) (answer : List ℕ) (d : StepRecord) : Type 0 where
    pub event : d.event ≡ e
    pub text : text_of d.reply ≡ answer
    pub did : DidPlain k (MayStep τ) old new line d

  -- What may have been done for the lines, and P of what it leaves. If the report ended at a line, S is said of the place, the line, the bytes of its
  -- answer and what the audit left. Nothing more is said once the audit ended.
  abbrev pub MayDo : Tariff → StopSays K → (World Place K → Type 0) → World Place K → List (AuditStep k.Own K) → Type 0
  MayDo τ S P at [] = P at
  MayDo τ S P at (Passed line ∷ rest) = MayDo τ S P at rest
  MayDo τ S P at (Heard line e answer ∷ rest) = (d : StepRecord) × (mid : World Place K) × HeardAt τ at mid line e answer d × MayDo τ S P mid rest
  MayDo τ S P at (Own line own texts ∷ rest) =
      (steps : List StepRecord) × (mid : World Place K) × Answered k (MayStep τ) at mid own steps texts × MayDo τ S P mid rest
  MayDo τ S P at (Begun line told left ∷ rest) =
      History τ editions at.scene.ledger × LeftAt k τ at line told left.audit left.desk × S at line told left
  MayDo τ S P at (Ended line left ∷ rest) = Unit {0}

  -- what it took of the report, and what it left where it ended
  abbrev pub Took : AuditWorld K → AuditWorld K → List (AuditStep k.Own K) → Type 0
  Took old new [] = new ≡ old
  Took old new (Begun line told left ∷ rest) = Consumes old.report left.report told × IsAtEnd left.report × Took left new rest
  Took old new (Ended line left ∷ rest) = Took left new rest
  Took old new (d ∷ rest) = (mid : AuditWorld K) × Consumes old.report mid.report (audit_text d) × Took mid new rest

  -- the event was done by a step, of which the extension heard, and it went on so
  pub record AskedOne (τ : Tariff) (e : Event) (old : World Place K) (a : Audit) (rates : List ℕ) (desk : K) (next : Next) : Type 0 where
    pub d : StepRecord
    pub turn : Turn
    pub new : World Place K
    pub event : d.event ≡ e
    pub did : MayStep τ old.scene new.scene d turn
    pub goes : k.Goes old.desk turn next new.desk
    pub seen : IsSeenAt τ a rates desk new

  -- with a reply of this text
  abbrev pub AskedWith : List ℕ → Tariff → Event → World Place K → Audit → List ℕ → K → Next → Type 0
  AskedWith text τ e old a rates desk next = (one : AskedOne τ e old a rates desk next) × (text_of one.d.reply ≡ text)

  -- from what it asked for first to what it asks for now, steps may have been done
  pub record AskedSo (τ : Tariff) (old : World Place K) (a : Audit) (rates : List ℕ) (desk : K) (first next : Next) : Type 0 where
    pub steps : List StepRecord
    pub new : World Place K
    pub asks : Asks k (MayStep τ) old new first steps next
    pub seen : IsSeenAt τ a rates desk new

  -- all that it asked for was done, and its answer begins so
  pub record AllAsked (τ : Tariff) (old : World Place K) (first : Next) (told : List ℕ) (a : Audit) (desk : K) : Type 0 where
    pub rates : List ℕ
    pub asked : AskedSo τ old a rates desk first Say
    pub cut : IsCutOf told (k.texts desk)

  -- it asked for one step more, and nothing was answered: P of the place where it was asked for, and of the event
  pub record OneAsked (P : Place → Event → Type 0) (τ : Tariff) (old : World Place K) (first : Next) (told : List ℕ) (desk : K) : Type 0 where
    pub steps : List StepRecord
    pub new : World Place K
    pub event : Event
    pub asks : Asks k (MayStep τ) old new first steps (Step event)
    pub silent : told ≡ []
    pub history : History τ editions new.scene.ledger
    pub begun : P new.scene event
    pub left : desk ≡ new.desk

  -- that step may have been done
  abbrev pub OneBegun : Tariff → World Place K → Next → List ℕ → Audit → K → Type 0
  OneBegun τ old first told a desk = OneAsked (λ at e. StepBegun τ at e a) τ old first told desk

  -- for an own line that was begun, all was done, or a step was begun, where the report ends with these bytes of its answer
  pub data LeftSo (τ : Tariff) (old : World Place K) (first : Next) (told : List ℕ) (a : Audit) (desk : K) : Type 0 where
    all_asked : AllAsked τ old first told a desk → LeftSo τ old first told a desk
    one_begun : OneBegun τ old first told a desk → LeftSo τ old first told a desk

  -- all that it asked for was done; or one step more may have been, unless its bytes are forged
  abbrev pub ReachedSo : Tariff → World Place K → Next → List ℕ → Audit → K → Type 0
  ReachedSo τ old first told a desk = AllAsked τ old first told a desk ⊎ OneAsked (λ at e. StepLeft τ at e a) τ old first told desk

  -- the same at each history
  abbrev pub EndsInOwn : Audit → List ℕ → K → Next → List ℕ → Audit → K → Type 0
  EndsInOwn old left mid first told new desk = AtEachSeen old (λ τ H. ReachedSo τ (world (place H left) mid) first told new desk)

  -- what it would have done changes nothing, nothing of its answer was written, and all is left as it was
  pub record Rested {V : Type 0} (view : K → V) (m : Model V) (old : World Place K) (first : Next) (told : List ℕ) (a : Audit) (desk : K) : Type 0 where
    pub step : IsStep first
    pub silent : told ≡ []
    pub sees : Sees a old.scene.ledger
    pub stays : desk ≡ old.desk
    pub alike : (v : V) (line : List ℕ) → m.Begins v line first (view old.desk) → m.Alike (view old.desk) v

  -- it is known what was done for it: all, or nothing
  abbrev pub KnownSo : {V : Type 0} → (K → V) → Model V → Tariff → World Place K → Next → List ℕ → Audit → K → Type 0
  KnownSo view m τ old first told a desk = AllAsked τ old first told a desk ⊎ Rested view m old first told a desk

  -- the same at each history
  abbrev pub StopsInOwn : {V : Type 0} → (K → V) → Model V → Audit → List ℕ → K → Next → List ℕ → Audit → K → Type 0
  StopsInOwn view m old left mid first told new desk = AtEachSeen old (λ τ H. KnownSo view m τ (world (place H left) mid) first told new desk)

  -- and this was read of the report, up to its end
  abbrev pub ReadsStop : {V : Type 0} → (K → V) → Model V → Audit → List ℕ → K → Next → Option (List ℕ) → Audit → K → Option (List ℕ) → Type 0
  ReadsStop view m old left mid first report0 new desk report1 =
      (told : List ℕ) × Consumes report0 report1 told × IsAtEnd report1 × StopsInOwn view m old left mid first told new desk

  -- and this was read of the report, up to its end
  abbrev pub ReadsInOwn : Audit → List ℕ → K → Next → Option (List ℕ) → Audit → K → Option (List ℕ) → Type 0
  ReadsInOwn old left mid first report0 new desk report1 =
      (told : List ℕ) × Consumes report0 report1 told × IsAtEnd report1 × EndsInOwn old left mid first told new desk

-- if it is called stopped, a run by the model may have been stopped there
abbrev pub stop_fits : {K V : Type 0} → (K → V) → Model V → Tariff → StopSays K
stop_fits view m τ at line told left =
    SaysStopped left.verdict → StopFits m τ (world at.scene (view at.desk)) line told left.audit (view left.desk)

module _ {K T : Type 0} (k : Ghosts K T) {V : Type 0} (view : K → V) (m : Model V) where
  -- WHAT AN AUDIT DID for the lines: at each history that the auditor had, it may have been done, and the auditor sees what it leaves. And by the model
  -- only that may have been done, with what the report has.
  pub record DidAudit (old new : AuditWorld K) (trace : List (AuditStep k.Own K)) : Type 0 where
    pub kept : keeps new.audit ≡ keeps old.audit
    pub reach : new.reach ≡ old.reach
    pub lines : old.line + length trace < 2 ^ 32 → new.line ≡ old.line + length trace
    pub took : Took k old new trace
    pub may : AtEachSeen old.audit (λ τ H. MayDo k τ (stop_fits view m τ) (IsSeenAt τ new.audit new.rates new.desk) (world (place H old.rates) old.desk) trace)
    pub only : AtEachSeen old.audit (λ τ H. Only k view m τ (IsMetIn view τ new) (world (place H old.rates) (view old.desk)) old.report trace)

-- an audit leaves what it leaves, however it ends
abbrev pub AuditLeaves : {K : Type 0} → SideStatus → AuditWorld K → AuditWorld K → Type 0
AuditLeaves outcome behind now = now ≡ behind
