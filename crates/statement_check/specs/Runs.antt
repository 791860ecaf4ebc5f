-- A run of `recompute`: what it took of the script, what it wrote, and how it ended.
use Rattle.std.specs.Prelude.{◌≡◌, ◌⊎◌, ◌↔◌, ℕ, ◌+◌, ◌<◌, ◌≤◌, List, [], ◌++◌, length, flat_map, Option}
use Rattle.std.specs.Io.KnownBytes.{Consumes, Appends, IsAtEnd}
use Rattle.line_runs.specs.Lines.{IsOneLine, ended, IsCutOff}
use Rattle.line_runs.specs.Runs.{IsLineThat}
use Rattle.line_runs.specs.declared.status.Status.{Status}
use Rattle.line_runs.specs.declared.status.Status.TheVariants as status
use Rattle.statement_check.specs.Lines.{line_text}
use Rattle.statement_check.specs.Places.{IsRight, AreRight, place_behind, place_after}
use Rattle.statement_check.specs.Statements.{IsStatement}
use Rattle.statement_check.specs.Verdicts.{IsOpen, HasNoPlace, IsWrong, Decides, HasVerdict, status_for, report_for}
use Rattle.statement_check.specs.declared.{line.StatementLine.StatementLine, place.Place.Place, place.Place.TheVariants.First, place.Place.TheVariants.Closed, verdict.Verdict.Verdict, verdict.Verdict.TheVariants.Good, verdict.Verdict.TheVariants.Wrong, verdict.Verdict.TheVariants.Bad, verdict.Verdict.TheVariants.TooLong}

-- the lines, each with its line end
abbrev pub script_of : List StatementLine → List ℕ
script_of lines = flat_map (λ line. ended (line_text line)) lines

-- the first 601 bytes of a line
abbrev pub IsCutLine : List ℕ → Type 0
IsCutLine bytes = IsOneLine bytes × (length bytes ≡ 601)

-- What was taken after so many right lines, each with its end, up to the verdict; end says that the script has ended after it.
abbrev pub TakesLast : Verdict → ℕ → Place → List ℕ → Type 0 → Type 0
TakesLast (Good b) count place rest end = (count ≤ 10002) × (place ≡ Closed b) × (rest ≡ []) × end
TakesLast (Wrong n x) count place rest end = (count < 10002) × (n ≡ count + 1) × IsLineThat (IsWrong place x) rest end
TakesLast (Bad n) count place rest end =
    ((count ≤ 10002) × (n ≡ count + 1) × IsOpen place × (rest ≡ []) × end)
    ⊎ ((count < 10002) × (n ≡ count + 1) × (IsLineThat (HasNoPlace place) rest end ⊎ IsCutLine rest))
TakesLast TooLong count place rest end = (count ≡ 10002) × (IsLineThat (λ line. Unit {0}) rest end ⊎ IsCutLine rest)

-- the last line was right and lacks its line end, and none is left
pub record TakesUnended (verdict : Verdict) (count : ℕ) (place : Place) (rest : List ℕ) (end : Type 0) : Type 0 where
  pub line : StatementLine
  pub right : IsRight place line
  pub text : rest ≡ line_text line
  pub last : Decides verdict (count + 1) (place_behind line) []
  pub at_end : end

-- These bytes were taken of the script for this verdict: the lines before the one that decides are right, each with its end, and rest was taken
-- after them.
pub record Takes (verdict : Verdict) (bytes : List ℕ) (end : Type 0) : Type 0 where
  pub right : List StatementLine
  pub each : AreRight First right
  pub rest : List ℕ
  pub are : bytes ≡ script_of right ++ rest
  pub last : TakesLast verdict (length right) (place_after First right) rest end ⊎ TakesUnended verdict (length right) (place_after First right) rest end

-- right lines were taken, and a part of one line more
pub record TakesSome (bytes : List ℕ) : Type 0 where
  pub right : List StatementLine
  pub each : AreRight First right
  pub few : length right ≤ 10002
  pub rest : List ℕ
  pub are : bytes ≡ script_of right ++ rest
  pub one : IsOneLine rest
  pub short : length rest ≤ 600

-- How a run ended that took these bytes and wrote this text.
pub data EndsWith (outcome : Status) (bytes : List ℕ) (end : Type 0) (text : List ℕ) : Type 0 where
  told : (v : Verdict) → outcome ≡ status_for v → Takes v bytes end → text ≡ report_for v → EndsWith outcome bytes end text
  cut_off : (v : Verdict) → outcome ≡ status.WriteFault → Takes v bytes end → IsCutOff text (report_for v) → EndsWith outcome bytes end text
  unread : outcome ≡ status.ReadFault → TakesSome bytes → text ≡ [] → EndsWith outcome bytes end text

-- a statement was read, and its verdict written
pub record Recomputed (outcome : Status) (left0 left1 taken0 taken1 : Option (List ℕ)) : Type 0 where
  pub bytes : List ℕ
  pub text : List ℕ
  pub consumed : Consumes left0 left1 bytes
  pub appended : Appends taken0 taken1 text
  pub ends : EndsWith outcome bytes (IsAtEnd left1) text

-- The bytes have one verdict, which was answered and written; it is good if and only if they are a statement.
pub record IsAnswered (outcome : Status) (bytes : List ℕ) (taken0 taken1 : Option (List ℕ)) : Type 0 where
  pub verdict : Verdict
  pub has : HasVerdict verdict bytes
  pub only : (other : Verdict) → HasVerdict other bytes → other ≡ verdict
  pub good : (b : ℕ) → (verdict ≡ Good b) ↔ IsStatement b bytes
  pub status_is : outcome ≡ status_for verdict
  pub written : Appends taken0 taken1 (report_for verdict)
