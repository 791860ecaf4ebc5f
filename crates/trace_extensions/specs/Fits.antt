-- That a run with an extension fits its script and its report, by the model of the extension; and what a verdict leaves open.
use Rattle.std.specs.Prelude.{◌≡◌, ◌⊎◌, ℕ, ◌≤◌, List, [], Option, Some, None, IfSome, length}
use Rattle.std.specs.List.{AllByRecursion}
use Rattle.bench_base.specs.Ledger.{Ledger}
use Rattle.bench_base.specs.Rules.{editions}
use Rattle.ledger_moves.specs.Tariffs.{Tariff}
use Rattle.ledger_moves.specs.Histories.{History}
use Rattle.line_runs.specs.Lines.{IsOneLine}
use Rattle.line_runs.specs.Runs.{Replayed}
use Rattle.line_runs.specs.declared.status.Status.{Status}
use Rattle.line_runs.specs.declared.status.SideStatus.TheVariants.{Run}
use Rattle.line_extensions.specs.Desks.{World, world, side_lines, Does}
use Rattle.line_extensions.specs.SideTrace.{SideStep, Plain, Own, Broken}
use Rattle.trace_bench.specs.Seeing.{Audit, Sees}
use Rattle.trace_runs.specs.Fitting.{AtSeen}
use Rattle.trace_runs.specs.Verdicts.{status_of}
use Rattle.trace_runs.specs.declared.verdict.Ending.{Ending}
use Rattle.trace_extensions.specs.Models.{Model, by_model}
use Rattle.trace_extensions.specs.Places.{Place, place, MayStep}
use Rattle.trace_extensions.specs.declared.{papers.Reach.Reach, papers.SideVerdict.SideVerdict, papers.SideVerdict.TheVariants.Lawful, papers.SideVerdict.TheVariants.Stopped, papers.SideVerdict.TheVariants.StoppedInOwn, papers.SideVerdict.TheVariants.InDoubt, papers.SideVerdict.TheVariants.PastReach, papers.SideVerdict.TheVariants.Wrong, papers.SideVerdict.TheVariants.Forged, papers.SideVerdict.TheVariants.Unkept, papers.SideVerdict.TheVariants.More, papers.SideVerdict.TheVariants.Memory, papers.SideVerdict.TheVariants.Unread}

-- no more was judged: there was no memory, an input could not be read, or the auditor keeps nothing to recognize forged bytes
abbrev pub IsCutShort : SideVerdict → Type 0
IsCutShort (Lawful end) = ⊥
IsCutShort (Stopped n) = ⊥
IsCutShort (StoppedInOwn n) = ⊥
IsCutShort (InDoubt n) = ⊥
IsCutShort (PastReach n) = ⊥
IsCutShort (Wrong n) = ⊥
IsCutShort (Forged n) = ⊥
IsCutShort (Unkept n) = Unit {0}
IsCutShort (More n end) = ⊥
IsCutShort Memory = Unit {0}
IsCutShort (Unread input) = Unit {0}

-- the reach says that nothing was begun of the line of this number
abbrev pub IsUnbegun : Option Reach → ℕ → Type 0
IsUnbegun None n = ⊥
IsUnbegun (Some reach) n = (reach.line ≡ n) × (reach.steps ≡ None)

-- the reach is of the line of this number
abbrev pub IsReachOf : Option Reach → ℕ → Type 0
IsReachOf None n = ⊥
IsReachOf (Some reach) n = reach.line ≡ n

-- The audit ended before the runs that fit do: it was cut short; or the report goes on at a line of which nothing was begun, as the reach says.
abbrev pub EndsEarly : Option Reach → SideVerdict → Type 0
EndsEarly reach verdict = IsCutShort verdict ⊎ ((n : ℕ) × IsUnbegun reach n × (verdict ≡ PastReach n))

-- the verdict is on a line of which nothing was begun, as the reach says: the audit doesn't look what line it is
abbrev pub IsByReach : Option Reach → SideVerdict → Type 0
IsByReach reach verdict = (n : ℕ) × IsUnbegun reach n × ((verdict ≡ StoppedInOwn n) ⊎ (verdict ≡ PastReach n))

-- THE VERDICT LEAVES IT OPEN whether a run fits: the audit was cut short, or it is by the reach
abbrev pub IsOpen : Option Reach → SideVerdict → Type 0
IsOpen reach verdict = IsCutShort verdict ⊎ IsByReach reach verdict

-- a text that a reader of lines takes
pub record IsText (text : List ℕ) : Type 0 where
  pub one : IsOneLine text
  pub short : length text ≤ 600

-- an own line's answer is of such texts
abbrev pub HasTexts : {L : Type 0} → SideStep L → Type 0
HasTexts (Plain d) = Unit {0}
HasTexts (Own line own steps texts) = AllByRecursion IsText texts
HasTexts (Broken line own steps) = Unit {0}

-- what the steps leave, the auditor sees and the extension keeps
pub record IsLeftSo {V : Type 0} (τ : Tariff) (audit : Audit) (v : V) (behind : World Place V) : Type 0 where
  pub history : History τ editions behind.scene.ledger
  pub sees : Sees audit behind.scene.ledger
  pub kept : behind.desk ≡ v

module _ {V : Type 0} (m : Model V) where
  -- these steps may be done from this ledger, these rates and what is kept on
  pub record MayDoAll (τ : Tariff) (H : Ledger) (rates : List ℕ) (v : V) (trace : List (SideStep (List ℕ))) : Type 0 where
    pub behind : World Place V
    pub does : Does (by_model m) (MayStep τ) (world (place H rates) v) behind trace
    pub texts : AllByRecursion HasTexts trace

  -- A RUN FITS: over this ledger, with this kept before it, it may have ended so and written this report.
  pub record FitsSo (τ : Tariff) (H : Ledger) (script report rates : List ℕ) (v : V) (status : Status) : Type 0 where
    pub left : List ℕ
    pub run : Replayed (side_lines (by_model m)) (Run status) (MayDoAll τ H rates v) (Some script) (Some left) (Some []) (Some report)

  -- of a script and a report whose bytes are known
  abbrev pub AtKnown : Option (List ℕ) → Option (List ℕ) → (List ℕ → List ℕ → Type 0) → Type 0
  AtKnown script report P = IfSome script (λ text. IfSome report (λ told. P text told))

  -- These rates were left, and this was kept before the run and after it; the auditor had this before, and has that. `verdict` was said.
  module _ (script report : Option (List ℕ)) (rates : List ℕ) (v w : V) (old new : Audit) (verdict : SideVerdict) where
    -- IF IT IS LAWFUL, a run fits, from each history that the auditor had
    abbrev pub FitsIfLawful : Type 0
    FitsIfLawful = AtKnown script report (λ text told. (end : Ending) → verdict ≡ Lawful end
        → AtSeen old (λ τ H. (fits : FitsSo τ H text told rates v (status_of end)) × IsLeftSo τ new w fits.run.did.behind))

    -- IF A RUN FITS, from a history that the auditor had, it is lawful, or the verdict leaves it open by this reach
    abbrev pub LawfulIfFits : Option Reach → Type 0
    LawfulIfFits reach = AtKnown script report (λ text told. (end : Ending)
        → AtSeen old (λ τ H. (fits : FitsSo τ H text told rates v (status_of end)) → ((verdict ≡ Lawful end) × IsLeftSo τ new w fits.run.did.behind) ⊎ IsOpen reach verdict))
