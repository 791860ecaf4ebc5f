-- What a verdict on a run with an extension says: that it is lawful, or that it was stopped.
use Rattle.std.specs.Prelude.{◌≡◌, ℕ, ◌+◌, ◌≤◌, List, [], ◌∷◌, ◌++◌, length, Bool, Option, Some}
use Rattle.std.specs.Io.KnownBytes.{Consumes, IsAtEnd}
use Rattle.std.specs.List.{AllByRecursion}
use Rattle.bench_base.specs.declared.ledger.Entry.TheVariants.{Begin}
use Rattle.bench_base.specs.Ledger.{Ledger}
use Rattle.bench_base.specs.Rules.{editions}
use Rattle.bench_abstraction.specs.Tariff.{IsOfTexts}
use Rattle.ledger_moves.specs.Tariffs.{Tariff}
use Rattle.ledger_moves.specs.Histories.{History}
use Rattle.line_runs.specs.Lines.{IsLineIn}
use Rattle.line_runs.specs.Runs.{Replayed}
use Rattle.line_runs.specs.Trace.{Reads, script_of, report_of}
use Rattle.line_runs.specs.declared.status.Status.{Status}
use Rattle.line_runs.specs.declared.status.SideStatus.TheVariants.{Run}
use Rattle.line_extensions.specs.Desks.{World, world, side_lines, Does}
use Rattle.line_extensions.specs.SideTrace.{SideStep}
use Rattle.line_extensions.specs.declared.extension.Extension.{Ghosts}
use Rattle.trace_bench.specs.Seeing.{Audit, Sees}
use Rattle.trace_runs.specs.Between.{SeesBetween}
use Rattle.trace_extensions.specs.Fits.{HasTexts}
use Rattle.trace_extensions.specs.Places.{Place, place, MayStep}
use Rattle.trace_extensions.specs.Stops.{LeftAt}

module _ {K T : Type 0} (k : Ghosts K T) where
  -- These steps may have been done by a bench and the extension, from this ledger and these rates on, and each text of an answer is one line. The auditor
  -- then sees the ledger that they leave, and the extension is as it found it.
  pub record MayHaveDone (τ : Tariff) (H : Ledger) (rates : List ℕ) (desk0 desk1 : K) (new : Audit) (trace : List (SideStep k.Own)) : Type 0 where
    pub behind : Place
    pub does : Does k (MayStep τ) (world (place H rates) desk0) (world behind desk1) trace
    pub history : History τ editions behind.ledger
    pub sees : Sees new behind.ledger
    pub texts : AllByRecursion HasTexts trace

  -- A RUN MAY HAVE BEEN SO. Its report was read to its end. It is what a run with the extension writes that ends with this status, where the steps may
  -- have been done from each history on that the auditor had between the runs.
  pub record MayHaveRun (status : Status) (script0 script1 report0 report1 : Option (List ℕ)) (rates : List ℕ) (desk0 desk1 : K)
      (old new : Audit) : Type 0 where
    pub report : List ℕ
    pub read : Consumes report0 report1 report
    pub all : IsAtEnd report1
    pub run : (τ : Tariff) (H : Ledger) → IsOfTexts τ → History τ editions H → SeesBetween old H
        → Replayed (side_lines k) (Run status) (MayHaveDone τ (Begin ∷ H) rates desk0 desk1 new) script0 script1 (Some []) (Some report)

  -- These steps may have been done, from this ledger and these rates on, and what the auditor and the extension are left with for the line of the stop.
  pub record MayHaveLeft (τ : Tariff) (H : Ledger) (rates : List ℕ) (desk0 desk1 : K) (new : Audit) (line told : List ℕ) (trace : List (SideStep k.Own))
      : Type 0 where
    pub behind : World Place K
    pub does : Does k (MayStep τ) (world (place H rates) desk0) behind trace
    pub history : History τ editions behind.scene.ledger
    pub left : LeftAt k τ behind line told new desk1

  -- The lines before this one were done, and wrote this report. WasDone says what it means to do these steps.
  pub record StoppedAt (script0 script1 : Option (List ℕ)) (line report : List ℕ) (WasDone : List (SideStep k.Own) → Type 0) : Type 0 where
    pub trace : List (SideStep k.Own)
    pub each : AllByRecursion (Reads (side_lines k)) trace
    pub go_on : AllByRecursion (side_lines k).GoesOn trace
    pub few : length trace + 1 ≤ 1000000
    pub rest : List ℕ
    pub is_ended : Bool
    pub last : IsLineIn is_ended line rest (IsAtEnd script1)
    pub consumed : Consumes script0 script1 (script_of (side_lines k) trace ++ rest)
    pub written : report_of (side_lines k) trace ≡ report
    pub did : WasDone trace

  -- A RUN MAY HAVE BEEN STOPPED SO, at this line. Its report was read to its end: whole lines, and these bytes in place of the answer to the line of the
  -- stop. From each history on that the auditor had between the runs, the whole lines may have been written, and that been done for the line which is left.
  pub record MayHaveStopped (script0 script1 report0 report1 : Option (List ℕ)) (rates : List ℕ) (desk0 desk1 : K) (old new : Audit) : Type 0 where
    pub line : List ℕ
    pub report : List ℕ
    pub told : List ℕ
    pub read : Consumes report0 report1 (report ++ told)
    pub all : IsAtEnd report1
    pub run : (τ : Tariff) (H : Ledger) → IsOfTexts τ → History τ editions H → SeesBetween old H
        → StoppedAt script0 script1 line report (MayHaveLeft τ (Begin ∷ H) rates desk0 desk1 new line told)
