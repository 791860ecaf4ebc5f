-- That a run with an extension may have been stopped within a line, by the model of the extension; and what a verdict says then.
use Rattle.std.specs.Prelude.{◌≡◌, ◌⊎◌, ℕ, ◌+◌, ◌≤◌, List, [], ◌∷◌, ◌++◌, Option, Some, None, length, map}
use Rattle.std.specs.List.{AllByRecursion}
use Rattle.bench_base.specs.declared.{words.Node.Node, events.Event.Event}
use Rattle.bench_base.specs.Ledger.{Ledger}
use Rattle.bench_base.specs.Rules.{editions}
use Rattle.ledger_moves.specs.Tariffs.{Tariff}
use Rattle.ledger_moves.specs.Histories.{History, Unforged}
use Rattle.line_runs.specs.Ends.{lines_of}
use Rattle.line_runs.specs.Lines.{ended}
use Rattle.line_runs.specs.Trace.{Reads, report_of}
use Rattle.line_extensions.specs.Trace.{StepRecord}
use Rattle.line_extensions.specs.Desks.{World, world, side_lines, Does, DidOwn}
use Rattle.line_extensions.specs.Events.{IsLineOf}
use Rattle.line_extensions.specs.SideTrace.{SideStep, side_line}
use Rattle.line_extensions.specs.declared.{extension.Next.Next, extension.Next.TheVariants.Step, extension.Next.TheVariants.Say}
use Rattle.trace_bench.specs.Seeing.{Audit}
use Rattle.trace_bench.specs.Prefixes.{IsFailure}
use Rattle.trace_bench.specs.Stopping.{IsPrefixOf}
use Rattle.trace_runs.specs.Between.{SeesBetween}
use Rattle.trace_runs.specs.Fitting.{AtSeen, BeginsTold}
use Rattle.trace_runs.specs.Runs.{StopLeaves}
use Rattle.trace_extensions.specs.Fits.{AtKnown, EndsEarly, HasTexts, IsOpen, IsReachOf, IsText}
use Rattle.trace_extensions.specs.Models.{Model, by_model}
use Rattle.trace_extensions.specs.Places.{Place, place, MayStep}
use Rattle.trace_extensions.specs.declared.{papers.Reach.Reach, papers.SideVerdict.SideVerdict, papers.SideVerdict.TheVariants.Stopped, papers.SideVerdict.TheVariants.StoppedInOwn, papers.SideVerdict.TheVariants.InDoubt}

-- the bytes end within these lines: they begin the first one; or they are it with its line end, and end within those after it
abbrev pub IsCutOf : List ℕ → List (List ℕ) → Type 0
IsCutOf told [] = ⊥
IsCutOf told (text ∷ more) = (IsPrefixOf told text × IsText told) ⊎ ((rest : List ℕ) × (told ≡ ended text ++ rest) × IsText text × IsCutOf rest more)

-- A step that was asked for at this place may have been done: a stop within it leaves this. If its bytes are forged, it wasn't done.
abbrev pub LeftByStep : Tariff → Place → Event → Ledger → Type 0
LeftByStep τ at event K =
    (BeginsTold τ at.ledger at.left event [] × StopLeaves τ at.ledger event at.left [] K) ⊎ ((Unforged event at.ledger → ⊥) × (K ≡ at.ledger))

-- == how far a run came ==

-- no node failed in the step
abbrev pub IsFine : StepRecord → Type 0
IsFine d = (n : Node) → IsFailure d.reply n → ⊥

-- none, or one in which a node failed
abbrev pub IsFailing : List StepRecord → Type 0
IsFailing [] = Unit {0}
IsFailing (d ∷ []) = (n : Node) × IsFailure d.reply n
IsFailing (d ∷ e ∷ more) = ⊥

-- so many steps were done without a failure of a node, and at most one more, in which a node failed
pub record HasDone (count : ℕ) (steps : List StepRecord) : Type 0 where
  pub fine : List StepRecord
  pub last : List StepRecord
  pub are : steps ≡ fine ++ last
  pub many : length fine ≡ count
  pub each : AllByRecursion IsFine fine
  pub fails : IsFailing last

-- == at a line ==

-- A run was stopped at this line, where the report ends with these bytes of its answer. The stop leaves ledger K, and this is kept.
module _ {V : Type 0} (m : Model V) (τ : Tariff) (at : World Place V) (line told : List ℕ) (K : Ledger) (kept : V) where
  -- IT IS THE LINE OF AN EVENT, which the extension leaves to the bench: the bytes begin the line of a reply that it may get
  pub record EventStopped : Type 0 where
    pub event : Event
    pub is : IsLineOf event line
    pub passes : m.Passes at.desk line
    pub begins : BeginsTold τ at.scene.ledger at.scene.left event told
    pub leaves : StopLeaves τ at.scene.ledger event at.scene.left told K
    pub stays : kept ≡ at.desk

  -- nothing of an own line was begun
  pub record NoneBegun : Type 0 where
    pub first : Next
    pub desk : V
    pub begins : m.Begins at.desk line first desk
    pub silent : told ≡ []
    pub ledger : K ≡ at.scene.ledger
    pub stays : kept ≡ at.desk

  -- all of it was done, and its answer was not written whole
  pub record AllDone : Type 0 where
    pub steps : List StepRecord
    pub behind : World Place V
    pub did : DidOwn (by_model m) (MayStep τ) at behind line steps Say
    pub cut : IsCutOf told (m.texts behind.desk)
    pub ledger : K ≡ behind.scene.ledger
    pub keeps : kept ≡ behind.desk

  -- these steps of it were done, and the next one was asked for: whether that was done is open
  pub record StepAsked : Type 0 where
    pub steps : List StepRecord
    pub behind : World Place V
    pub event : Event
    pub did : DidOwn (by_model m) (MayStep τ) at behind line steps (Step event)
    pub silent : told ≡ []
    pub leaves : LeftByStep τ behind.scene event K
    pub keeps : kept ≡ behind.desk

  -- IT IS AN OWN LINE, of which nothing, some or all was done
  pub data OwnStopped : Type 0 where
    not_begun : m.IsOwn line → NoneBegun → OwnStopped
    all_of_it : m.IsOwn line → AllDone → OwnStopped
    part_of_it : m.IsOwn line → StepAsked → OwnStopped

  -- THE RUN CAME SO FAR in its line: nothing of it was begun, or so many of its steps were done
  abbrev pub ComesTo : Option ℕ → OwnStopped → Type 0
  ComesTo None (not_begun own none) = Unit {0}
  ComesTo None (all_of_it own done) = ⊥
  ComesTo None (part_of_it own asked) = ⊥
  ComesTo (Some count) (not_begun own none) = ⊥
  ComesTo (Some count) (all_of_it own done) = HasDone count done.steps
  ComesTo (Some count) (part_of_it own asked) = HasDone count asked.steps

  -- as the reach says, if one is given
  abbrev pub Agrees : Option Reach → OwnStopped → Type 0
  Agrees None stop = Unit {0}
  Agrees (Some reach) stop = ComesTo reach.steps stop

  abbrev pub AgreedStop : Option Reach → Type 0
  AgreedStop reach = (stop : OwnStopped) × Agrees reach stop

  -- NOTHING OF IT WAS BEGUN, whatever line it is
  pub record Unbegun : Type 0 where
    pub silent : told ≡ []
    pub ledger : K ≡ at.scene.ledger
    pub stays : kept ≡ at.desk

  -- it is the one or the other
  pub data StopsAt : Type 0 where
    at_event : EventStopped → StopsAt
    at_own_line : OwnStopped → StopsAt
    before_it : Unbegun → StopsAt

-- == of a run ==

-- The audit ended early; or the run is in doubt, and no reach is given for its line.
abbrev pub IsUndecided : Option Reach → SideVerdict → Type 0
IsUndecided reach verdict = EndsEarly reach verdict ⊎ ((n : ℕ) × (verdict ≡ InDoubt n) × (IsReachOf reach n → ⊥))

-- it is said that the run was stopped
abbrev pub SaysStopped : SideVerdict → Type 0
SaysStopped verdict = (n : ℕ) × ((verdict ≡ Stopped n) ⊎ (verdict ≡ StoppedInOwn n))

-- at the line of this number, if so
abbrev pub IsNumbered : SideVerdict → ℕ → Type 0
IsNumbered verdict number = (n : ℕ) → (verdict ≡ Stopped n) ⊎ (verdict ≡ StoppedInOwn n) → n ≡ number

module _ {V : Type 0} (m : Model V) where
  -- A RUN MAY HAVE BEEN STOPPED SO, over this ledger, with this kept before it: the lines before one of the script were done and answered, and at that line
  -- it was stopped. AtLine says how a line is stopped.
  pub record FitsStopped (AtLine : World Place V → List ℕ → List ℕ → Ledger → V → Type 0) (τ : Tariff) (H : Ledger) (script report rates : List ℕ) (v : V)
      : Type 0 where
    pub trace : List (SideStep (List ℕ))
    pub each : AllByRecursion (Reads (side_lines (by_model m))) trace
    pub go_on : AllByRecursion (side_lines (by_model m)).GoesOn trace
    pub few : length trace + 1 ≤ 1000000
    pub behind : World Place V
    pub does : Does (by_model m) (MayStep τ) (world (place H rates) v) behind trace
    pub texts : AllByRecursion HasTexts trace
    pub line : List ℕ
    pub short : length line ≤ 600
    pub rest : List (List ℕ)
    pub script_is : lines_of script ≡ map side_line trace ++ (line ∷ rest)
    pub told : List ℕ
    pub report_is : report ≡ report_of (side_lines (by_model m)) trace ++ told
    pub ledger : Ledger
    pub kept : V
    pub stop : AtLine behind line told ledger kept

  -- a stop at this line which the auditor sees and the extension keeps, as it has them then
  pub record StopFits (τ : Tariff) (at : World Place V) (line told : List ℕ) (new : Audit) (w : V) : Type 0 where
    pub ledger : Ledger
    pub kept : V
    pub stop : StopsAt m τ at line told ledger kept
    pub history : History τ editions ledger
    pub sees : SeesBetween new ledger
    pub alike : m.Alike w kept

  -- == what a verdict says of it ==

  -- This was said; the auditor has that then, and keeps this.
  module _ (reach : Option Reach) (verdict : SideVerdict) (new : Audit) (w : V) where
    -- it was stopped, and what the stop leaves the auditor sees and keeps
    abbrev pub IsToldStop : Ledger → V → Type 0
    IsToldStop K kept = (n : ℕ) × (verdict ≡ Stopped n) × SeesBetween new K × m.Alike w kept

    -- it was stopped so, or the verdict leaves it open
    abbrev pub TellsStop : Ledger → V → Type 0
    TellsStop K kept = IsToldStop K kept ⊎ IsOpen reach verdict

    -- it was stopped so, if need be as the reach says, or that is undecided
    abbrev pub TellsOwnStop : Ledger → V → Type 0
    TellsOwnStop K kept = (SaysStopped verdict × SeesBetween new K × m.Alike w kept) ⊎ IsUndecided reach verdict

  -- These rates were left, and this was kept before the run and after it; the auditor had this before, and has that.
  module _ (script report : Option (List ℕ)) (rates : List ℕ) (v w : V) (old new : Audit) (verdict : SideVerdict) (reach : Option Reach) where
    -- IF IT IS STOPPED, a run may have been stopped so, from each history that the auditor had, at the line that is named; and what that leaves is seen and
    -- kept
    abbrev pub FitsIfStopped : Type 0
    FitsIfStopped = AtKnown m script report (λ text told. SaysStopped verdict
        → AtSeen old (λ τ H. (fits : FitsStopped (λ at line told K kept. StopsAt m τ at line told K kept) τ H text told rates v)
        × History τ editions fits.ledger × SeesBetween new fits.ledger × m.Alike w fits.kept × IsNumbered verdict (length fits.trace + 1)))

    -- IF A RUN MAY HAVE BEEN STOPPED AT AN EVENT, from a history that the auditor had, it is called so
    abbrev pub StoppedIfFits : Type 0
    StoppedIfFits = AtKnown m script report (λ text told. AtSeen old (λ τ H. (fits : FitsStopped (λ at line told K kept. EventStopped m τ at line told K kept) τ H text told rates v)
        → TellsStop reach verdict new w fits.ledger fits.kept))

    -- IF IT MAY HAVE BEEN STOPPED AT AN OWN LINE, as the reach says, it is called so, or that is undecided
    abbrev pub StoppedInOwnIfFits : Type 0
    StoppedInOwnIfFits = AtKnown m script report (λ text told. AtSeen old (λ τ H. (fits : FitsStopped (λ at line told K kept. AgreedStop m τ at line told K kept reach) τ H text told rates v)
        → TellsOwnStop reach verdict new w fits.ledger fits.kept))
