-- Bookkeeping: how far a statement was read, one line after another.
use Rattle.std.specs.Prelude.{◌≡◌, ◌⊎◌, ℕ, ◌≤◌, List, length, Option}
use Rattle.std.specs.Io.KnownBytes.{Consumes, IsAtEnd}
use Rattle.line_runs.specs.Lines.{IsOneLine, ended}
use Rattle.statement_check.specs.Lines.{line_text}
use Rattle.statement_check.specs.Places.{IsRight, AreRight, place_behind, place_after}
use Rattle.statement_check.specs.Runs.{script_of, TakesLast, TakesUnended, Takes, TakesSome}
use Rattle.statement_check.specs.declared.{line.StatementLine.StatementLine, place.Place.Place, place.Place.TheVariants.First, verdict.Verdict.Verdict, judge.Turn.Turn, judge.Turn.TheVariants.Goes, judge.Turn.TheVariants.Ends}

-- the bytes are a right line at this place, and the next is this one
pub record IsChecked (place next : Place) (bytes : List ℕ) : Type 0 where
  pub line : StatementLine
  pub right : IsRight place line
  pub text : bytes ≡ line_text line
  pub behind : next ≡ place_behind line

-- so many lines were read, all of them right
pub record Progress (count : ℕ) (place : Place) (left0 left1 : Option (List ℕ)) : Type 0 where
  pub right : List StatementLine
  pub each : AreRight First right
  pub number : length right ≡ count
  pub place_is : place ≡ place_after First right
  pub consumed : Consumes left0 left1 (script_of right)

-- one line more was read, and was right
pub record GoesOn (place next : Place) (left0 left1 : Option (List ℕ)) : Type 0 where
  pub line : StatementLine
  pub right : IsRight place line
  pub behind : next ≡ place_behind line
  pub consumed : Consumes left0 left1 (ended (line_text line))

-- what follows so many lines has decided the verdict
pub record EndsSo (verdict : Verdict) (count : ℕ) (place : Place) (left0 left1 : Option (List ℕ)) : Type 0 where
  pub bytes : List ℕ
  pub consumed : Consumes left0 left1 bytes
  pub last : TakesLast verdict count place bytes (IsAtEnd left1) ⊎ TakesUnended verdict count place bytes (IsAtEnd left1)

-- a part of a line was taken
pub record TakesPart (left0 left1 : Option (List ℕ)) : Type 0 where
  pub bytes : List ℕ
  pub consumed : Consumes left0 left1 bytes
  pub one : IsOneLine bytes
  pub short : length bytes ≤ 600

abbrev pub Turned : Turn → ℕ → Place → Option (List ℕ) → Option (List ℕ) → Type 0
Turned (Goes next) count place left0 left1 = GoesOn place next left0 left1
Turned (Ends verdict) count place left0 left1 = EndsSo verdict count place left0 left1

-- the script was read up to this verdict
pub record IsJudged (verdict : Verdict) (left0 left1 : Option (List ℕ)) : Type 0 where
  pub bytes : List ℕ
  pub consumed : Consumes left0 left1 bytes
  pub takes : Takes verdict bytes (IsAtEnd left1)

-- the script failed before its verdict
pub record IsUnread (left0 left1 : Option (List ℕ)) : Type 0 where
  pub bytes : List ℕ
  pub consumed : Consumes left0 left1 bytes
  pub takes : TakesSome bytes
