-- One turn of an audit, and what was paired so far.
use Rattle.std.specs.Prelude.{◌≡◌, ℕ, ◌<◌, ◌≤◌, ◌⊎◌, List, [], ◌∷◌, ◌++◌, length, map, drop, flat_map, Bool, false, Option, Result, Ok, Err, IfOk}
use Rattle.std.specs.Io.KnownBytes.{Consumes}
use Rattle.std.specs.List.{AllByRecursion}
use Rattle.bench_base.specs.declared.{events.Event.Event, ledger.Entry.TheVariants.Begin}
use Rattle.bench_base.specs.Ledger.{Ledger}
use Rattle.bench_base.specs.Rules.{editions}
use Rattle.bench_abstraction.specs.Tariff.{IsOfTexts}
use Rattle.ledger_moves.specs.Tariffs.{Tariff}
use Rattle.ledger_moves.specs.Histories.{History}
use Rattle.line_runs.specs.Ends.{lines_of}
use Rattle.line_runs.specs.Lines.{IsOneLine}
use Rattle.line_extensions.specs.Events.{IsLineOf}
use Rattle.trace_bench.specs.Seeing.{Audit, Sees}
use Rattle.trace_runs.specs.Between.{SeesBetween}
use Rattle.trace_runs.specs.Imprints.{imprint_at}
use Rattle.trace_runs.specs.Reads.{IsRead, OfTexts}
use Rattle.trace_runs.specs.Verdicts.{Pair, IsPair, line_in, text_for, TellsSo, FallsAt, IsSo, imprints_from, last_given}
use Rattle.trace_runs.specs.declared.{imprint.Imprint.Imprint, audit.Step.Step, verdict.Ending.Ending, verdict.Input.TheVariants.Report, verdict.Verdict.Verdict, verdict.Verdict.TheVariants.Lawful, verdict.Verdict.TheVariants.More, verdict.Verdict.TheVariants.Unread}

-- P of each history that the auditor has, by a tariff of texts
abbrev pub AtHistories : Audit → (Tariff → Ledger → Type 0) → Type 0
AtHistories a P = (τ : Tariff) (H : Ledger) → IsOfTexts τ → History τ editions H → Sees a H → P τ H

-- the ledger then is a history that the auditor has, and these rates are left
pub record StandsAt (τ : Tariff) (now : Audit) (rates : List ℕ) (K : Ledger) (left : List ℕ) : Type 0 where
  pub history : History τ editions K
  pub sees : Sees now K
  pub are : left ≡ rates

-- The line of this number was paired: it is the first of the script, and its answer the first of the report, and these are left after them. So much
-- was taken of the rates for it. The printer was given what was added after these imprints.
pub record Turned (number used : ℕ) (script lines report told rates : List ℕ) (old new : Audit) (before after : List Imprint) : Type 0 where
  pub pair : Pair
  pub is : IsPair pair
  pub script_is : lines_of script ≡ line_in pair ∷ lines_of lines
  pub report_is : report ≡ text_for pair ++ told
  pub so : AtHistories old (λ τ H. TellsSo τ (StandsAt τ new (drop used rates)) H rates (pair ∷ []))
  pub prints : after ≡ before ++ imprints_from number (pair ∷ [])

-- the verdict falls at the line of this number
pub record Fell (number : ℕ) (script report rates : List ℕ) (old new : Audit) (v : Verdict) : Type 0 where
  pub falls : FallsAt number (lines_of script) report v
  pub so : AtHistories old (λ τ H. IsSo τ H rates new number (lines_of script) report v falls)

-- so many lines were paired, and this is left
pub record Progress (count : ℕ) (script0 report0 rates0 script report rates : List ℕ) (old new : Audit) (before after : List Imprint) : Type 0 where
  pub pairs : List Pair
  pub number : length pairs ≡ count
  pub each : AllByRecursion IsPair pairs
  pub script_is : lines_of script0 ≡ map line_in pairs ++ lines_of script
  pub report_is : report0 ≡ flat_map text_for pairs ++ report
  pub so : (τ : Tariff) (H : Ledger) → IsOfTexts τ → History τ editions H → SeesBetween old H
      → TellsSo τ (StandsAt τ new rates) (Begin ∷ H) rates0 pairs
  pub prints : after ≡ before ++ imprints_from 1 pairs

-- the verdict falls there, and what is open of what was printed was added after these imprints
abbrev pub FellPut : ℕ → List ℕ → List ℕ → List ℕ → Audit → Audit → List Imprint → List Imprint → Verdict → Type 0
FellPut number script report rates old new before after v = (fell : Fell number script report rates old new v)
    × (after ≡ before ++ imprint_at number (last_given number (lines_of script) report v fell.falls))

-- What becomes of the line of this number: it was paired, and so much taken of the rates for it; or the verdict falls there.
abbrev pub TurnsSo : ℕ → (script lines report told rates : List ℕ) → Audit → Audit → List Imprint → List Imprint → Result ℕ Verdict → Type 0
TurnsSo number script lines report told rates old new before after (Ok used) = Turned number used script lines report told rates old new before after
TurnsSo number script lines report told rates old new before after (Err v) = FellPut number script report rates old new before after v

-- the script begins with this line of an event, and these are left after it
pub record BeginsWith (script line lines : List ℕ) (e : Event) : Type 0 where
  pub first : lines_of script ≡ line ∷ lines_of lines
  pub one : IsOneLine line
  pub short : length line ≤ 600
  pub is : IsLineOf e line

-- what is said where the script ends at the line of this number, and this is left of the report, unless it fails
abbrev pub IsOver : Ending → ℕ → List ℕ → Verdict → Type 0
IsOver end number behind v = ((behind ≡ []) × (v ≡ Lawful end)) ⊎ ((0 < length behind) × (v ≡ More number end)) ⊎ (v ≡ Unread Report number)

-- == by what was read ==

-- The event of the line of this number was answered, or the verdict falls there: this prefix of the report was read before, and more of it then.
pub record IsAnswer (number : ℕ) (e : Event) (prefix rates : List ℕ) (old new : Audit) (before after : List Imprint)
    (report0 report1 : Option (List ℕ)) (result : Result ℕ Verdict) : Type 0 where
  pub report : IsRead report0 report1
  pub goes_on : IfOk result (λ used. report.is_all ≡ false)
  pub so : OfTexts report (λ behind told. (script line lines : List ℕ) → BeginsWith script line lines e
      → TurnsSo number script lines (prefix ++ behind) told rates old new before after result)

-- whether the ends of the script and of the report were seen, where a run goes on
abbrev pub SeesEnds : Result Step Verdict → (script_all report_all : Bool) → Type 0
SeesEnds (Ok step) script_all report_all = (script_all ≡ step.is_last) × (report_all ≡ false)
SeesEnds (Err v) script_all report_all = Unit {0}

abbrev pub used_in : Result Step Verdict → Result ℕ Verdict
used_in (Ok step) = Ok step.rates
used_in (Err v) = Err v

-- What is judged of the line of this number, whatever follows what was read.
pub record IsTurn (number : ℕ) (rates : List ℕ) (old new : Audit) (before after : List Imprint) (script0 script1 report0 report1 : Option (List ℕ))
    (result : Result Step Verdict) : Type 0 where
  pub script : IsRead script0 script1
  pub report : IsRead report0 report1
  pub goes_on : SeesEnds result script.is_all report.is_all
  pub so : OfTexts script (λ text lines. OfTexts report (λ answers told. TurnsSo number text lines answers told rates old new before after (used_in result)))

-- So many lines were paired, whatever follows what was read.
pub record IsProgress (count : ℕ) (rates0 rates : List ℕ) (old new : Audit) (before after : List Imprint)
    (script0 script1 report0 report1 : Option (List ℕ)) : Type 0 where
  pub script : List ℕ
  pub report : List ℕ
  pub script_read : Consumes script0 script1 script
  pub report_read : Consumes report0 report1 report
  pub so : (lines told : List ℕ) → Progress count (script ++ lines) (report ++ told) rates0 lines told rates old new before after
