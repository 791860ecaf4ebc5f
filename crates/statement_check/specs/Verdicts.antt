-- What a statement is found to be.
use Rattle.std.specs.Prelude.{◌≡◌, ◌≢◌, ℕ, ℤ, ◌+◌, ◌<◌, ◌≤◌, pos, List, [], ◌∷◌, ◌++◌, length, map, None, Some, codes, decimal}
use Rattle.std.specs.Fmt.{signed_decimal}
use Rattle.script_words.specs.Words.{joined}
use Rattle.line_runs.specs.Ends.{lines_of}
use Rattle.line_runs.specs.Lines.{ended}
use Rattle.line_runs.specs.declared.status.Status.{Status}
use Rattle.line_runs.specs.declared.status.Status.TheVariants as status
use Rattle.statement_check.specs.Lines.{IsLineOf, line_text}
use Rattle.statement_check.specs.Places.{balance, due, AreRight, place_after}
use Rattle.statement_check.specs.declared.{line.StatementLine.StatementLine, place.Place.Place, place.Place.TheVariants.First, place.Place.TheVariants.Behind, place.Place.TheVariants.Closed, verdict.Verdict.Verdict, verdict.Verdict.TheVariants.Good, verdict.Verdict.TheVariants.Wrong, verdict.Verdict.TheVariants.Bad, verdict.Verdict.TheVariants.TooLong}

-- the statement was not closed yet
abbrev pub IsOpen : Place → Type 0
IsOpen First = Unit {0}
IsOpen (Behind b) = Unit {0}
IsOpen (Closed b) = ⊥

-- the bytes are no line that has its place here
abbrev pub HasNoPlace : Place → List ℕ → Type 0
HasNoPlace place bytes = (line : StatementLine) → IsLineOf line bytes → due place line ≡ None

-- the bytes are a line in its place that does not have the balance x, which is due
pub record IsWrong (place : Place) (x : ℤ) (bytes : List ℕ) : Type 0 where
  pub line : StatementLine
  pub is : IsLineOf line bytes
  pub due_is : due place line ≡ Some x
  pub other : x ≢ pos (balance line)

-- the verdict on the line of this number alone
abbrev pub Fails : Verdict → ℕ → Place → List ℕ → Type 0
Fails (Good b) number place bytes = ⊥
Fails (Wrong n x) number place bytes = (n ≡ number) × IsWrong place x bytes
Fails (Bad n) number place bytes = (n ≡ number) × HasNoPlace place bytes
Fails TooLong number place bytes = ⊥

-- After so many right lines, at the place after them, the rest of the lines decides. The closing line was the last; or the next line is wrong; or it
-- is not in form, out of place or missing; or it is one too many.
abbrev pub Decides : Verdict → ℕ → Place → List (List ℕ) → Type 0
Decides (Good b) count place rest = (count ≤ 10002) × (place ≡ Closed b) × (rest ≡ [])
Decides (Wrong n x) count place [] = ⊥
Decides (Wrong n x) count place (line ∷ rest) = (count < 10002) × (n ≡ count + 1) × IsWrong place x line
Decides (Bad n) count place [] = (count ≤ 10002) × (n ≡ count + 1) × IsOpen place
Decides (Bad n) count place (line ∷ rest) = (count < 10002) × (n ≡ count + 1) × HasNoPlace place line
Decides TooLong count place [] = ⊥
Decides TooLong count place (line ∷ rest) = count ≡ 10002

-- the bytes have this verdict
pub record HasVerdict (verdict : Verdict) (bytes : List ℕ) : Type 0 where
  pub right : List StatementLine
  pub rest : List (List ℕ)
  pub are : lines_of bytes ≡ map line_text right ++ rest
  pub each : AreRight First right
  pub decides : Decides verdict (length right) (place_after First right) rest

-- the status that answers a verdict
abbrev pub status_for : Verdict → Status
status_for (Good b) = status.Done
status_for (Wrong n x) = status.Done
status_for (Bad n) = status.Script n
status_for TooLong = status.TooLong

-- what is written for it
abbrev pub report_for : Verdict → List ℕ
report_for (Good b) = ended (joined (codes "statement" ∷ codes "good" ∷ decimal b ∷ []))
report_for (Wrong n x) = ended (joined (codes "statement" ∷ codes "wrong" ∷ decimal n ∷ signed_decimal x ∷ []))
report_for (Bad n) = []
report_for TooLong = []
