-- What an auditor did for the lines of a script: how they are read.
use Rattle.std.specs.Prelude.{◌≡◌, ◌≢◌, ℕ, List, [], flat_map, Option, ◌⊎◌}
use Rattle.std.specs.List.{AllByRecursion}
use Rattle.bench_base.specs.declared.events.Event.{Event}
use Rattle.bench_base.specs.declared.events.Event.TheVariants as ev
use Rattle.script_text.specs.Grammar.{IsSkipped}
use Rattle.line_runs.specs.Lines.{ended}
use Rattle.line_runs.specs.Trace.{Grammar, Lines}
use Rattle.line_extensions.specs.Events.{IsLineOf}
use Rattle.line_extensions.specs.Desks.{side_grammar}
use Rattle.line_extensions.specs.declared.extension.Extension.{Ghosts}
use Rattle.trace_bench.specs.Seeing.{Audit}
use Rattle.trace_extensions.specs.Fits.{IsOpen, IsText}
use Rattle.trace_extensions.specs.FitsStopped.{IsNumbered, SaysStopped}
use Rattle.trace_extensions.specs.declared.{papers.Reach.Reach, papers.SideVerdict.SideVerdict}

-- the auditor, the rates that are left, the extension, what is left of the report, what is said if the audit ended, how far the run is said to have come, and
-- how many lines of the script were judged
pub record AuditWorld (K : Type 0) : Type 0 where
  pub audit : Audit
  pub rates : List ℕ
  pub desk : K
  pub report : Option (List ℕ)
  pub verdict : SideVerdict
  pub reach : Option Reach
  pub line : ℕ

abbrev pub audit_world : {K : Type 0} → Audit → List ℕ → K → Option (List ℕ) → SideVerdict → Option Reach → ℕ → AuditWorld K
audit_world audit rates desk report verdict reach line =
    record { audit = audit; rates = rates; desk = desk; report = report; verdict = verdict; reach = reach; line = line }

-- the run was stopped, and what may have been done is told
abbrev pub IsStop : {K : Type 0} → AuditWorld K → Type 0
IsStop w = SaysStopped w.verdict

-- a line that is skipped; the line of an event, with the line of the report; an own line, with the texts of its answer; the line of a stop, with the bytes
-- that the report ends with, and what the audit left; and another line at which the audit ended
pub data AuditStep (L K : Type 0) : Type 0 where
  Passed : (line : List ℕ) → AuditStep L K
  Heard : (line : List ℕ) (e : Event) (answer : List ℕ) → AuditStep L K
  Own : (line : List ℕ) (own : L) (texts : List (List ℕ)) → AuditStep L K
  Begun : (line told : List ℕ) (left : AuditWorld K) → AuditStep L K
  Ended : (line : List ℕ) (left : AuditWorld K) → AuditStep L K

-- the line is that of an event, or an own one
abbrev pub IsKnown : {L : Type 0} → (L → List ℕ → Type 0) → List ℕ → Type 0
IsKnown {L} IsOwn line = ((e : Event) × IsLineOf e line) ⊎ ((own : L) × IsOwn own line)

module _ {L K : Type 0} where
  abbrev pub audit_line : AuditStep L K → List ℕ
  audit_line (Passed line) = line
  audit_line (Heard line e answer) = line
  audit_line (Own line own texts) = line
  audit_line (Begun line told left) = line
  audit_line (Ended line left) = line

  -- what it took of the report
  abbrev pub audit_text : AuditStep L K → List ℕ
  audit_text (Passed line) = []
  audit_text (Heard line e answer) = ended answer
  audit_text (Own line own texts) = flat_map ended texts
  audit_text (Begun line told left) = []
  audit_text (Ended line left) = []

  abbrev pub AuditIsOf : (L → List ℕ → Type 0) → AuditStep L K → Type 0
  AuditIsOf IsOwn (Passed line) = IsSkipped line
  AuditIsOf IsOwn (Heard line e answer) = IsLineOf e line
  AuditIsOf IsOwn (Own line own texts) = IsOwn own line × AllByRecursion IsText texts
  AuditIsOf IsOwn (Begun line told left) = IsNumbered left.verdict left.line × (IsOpen left.reach left.verdict ⊎ IsKnown IsOwn line)
  AuditIsOf IsOwn (Ended line left) = (IsStop left → ⊥) × (IsOpen left.reach left.verdict ⊎ IsKnown IsOwn line)

  abbrev pub AuditIsEnd : AuditStep L K → Type 0
  AuditIsEnd (Passed line) = ⊥
  AuditIsEnd (Heard line e answer) = e ≡ ev.End
  AuditIsEnd (Own line own texts) = ⊥
  AuditIsEnd (Begun line told left) = ⊥
  AuditIsEnd (Ended line left) = ⊥

  abbrev pub AuditGoesOn : AuditStep L K → Type 0
  AuditGoesOn (Passed line) = Unit {0}
  AuditGoesOn (Heard line e answer) = e ≢ ev.End
  AuditGoesOn (Own line own texts) = Unit {0}
  AuditGoesOn (Begun line told left) = ⊥
  AuditGoesOn (Ended line left) = ⊥

  abbrev pub AuditEnds : AuditStep L K → Type 0
  AuditEnds (Passed line) = ⊥
  AuditEnds (Heard line e answer) = ⊥
  AuditEnds (Own line own texts) = ⊥
  AuditEnds (Begun line told left) = Unit {0}
  AuditEnds (Ended line left) = Unit {0}

module _ {K T : Type 0} (k : Ghosts K T) where
  -- the lines are those of a run with the extension; nothing ends for lack of memory but the audit
  abbrev pub audit_grammar : Grammar
  audit_grammar = record {
    IsEndLine = λ line. (side_grammar k).IsEndLine line;
    IsPassing = λ line. (side_grammar k).IsPassing line;
    IsBad = λ line. (side_grammar k).IsBad line;
    MayWant = λ line. ⊥;
  }

  -- the report is compared, and nothing is written
  abbrev pub audit_lines : Lines (AuditStep k.Own K)
  audit_lines = record {
    grammar = audit_grammar;
    line_in = λ d. audit_line d;
    text_for = λ d. [];
    IsOf = λ d. AuditIsOf k.IsOwn d;
    IsEnd = λ d. AuditIsEnd d;
    GoesOn = λ d. AuditGoesOn d;
    IsBroken = λ d. AuditEnds d;
  }
