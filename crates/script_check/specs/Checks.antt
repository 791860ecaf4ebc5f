-- What is wrong with a whole script: which faults are written, each with the number of its line, and how the check ended.
use Rattle.std.specs.Prelude.{◌≡◌, ◌≢◌, ◌↔◌, ℕ, ◌+◌, ◌<◌, ◌≤◌, min, Bool, IsTrue, List, [], ◌∷◌, ◌++◌, length, flat_map, codes, Option, Result, Err, MatchOption}
use Rattle.std.specs.List.{AllByRecursion}
use Rattle.std.specs.Io.KnownBytes.{Consumes, Appends, IsAtEnd}
use Rattle.bench_base.specs.Causes.{Rose}
use Rattle.bench_base.specs.Events.{IsWholeEvent}
use Rattle.bench_base.specs.declared.events.Event.{Event}
use Rattle.line_runs.specs.Lines.{IsOneLine, ended}
use Rattle.script_text.specs.Grammar.{IsSkipped, Spells}
use Rattle.script_words.specs.Words.{words_in}
use Rattle.script_check.specs.Texts.{line_text}
use Rattle.script_check.specs.Wrong.{IsFirstWrong, IsWordAt, IsBehindAll}
use Rattle.script_check.specs.declared.{fault.Fault.Fault, fault.Fault.TheVariants.Word, fault.Fault.TheVariants.Long, fault.Fault.TheVariants.NoEnd, fault.Fault.TheVariants.BehindEnd, fault.Fault.TheVariants.NoLineEnd, fault.Fault.TheVariants.TooLong, fault.WordFault.WordFault, script.CheckFail.CheckFail, script.CheckFail.TheVariants.Read, script.CheckFail.TheVariants.Write, script.Checked.Checked}

-- a fault, and the number of its line
pub record Report : Type 0 where
  pub line : ℕ
  pub fault : Fault

abbrev pub at_line : ℕ → Fault → Report
at_line number f = record { line = number; fault = f }

-- the lines that report these faults
abbrev pub texts_of : List Report → List ℕ
texts_of reports = flat_map (λ r. line_text r.line r.fault) reports

-- == the lines before the end ==

-- some event has this line
abbrev pub IsEvent : List ℕ → Type 0
IsEvent line = (e : Event) × IsWholeEvent e × Spells e line

-- the line is that of no event, and this is the first of its words that no event has there
pub record IsWrong (line : List ℕ) (f : WordFault) : Type 0 where
  pub not_skipped : IsSkipped line → ⊥
  pub no_event : IsEvent line → ⊥
  pub first : IsFirstWrong f.place (words_in line)
  pub found : MatchOption f.found (IsBehindAll f.place (words_in line)) (λ w. IsWordAt f.place (words_in line) w.now)

-- what is wrong with the line of this number: nothing, if a run skips it or it is that of an event; otherwise its first wrong word
pub data LineHas (number : ℕ) (line : List ℕ) : List Report → Type 0 where
  skipped : IsSkipped line → LineHas number line []
  event : IsEvent line → LineHas number line []
  wrong : (f : WordFault) → IsWrong line f → LineHas number line (at_line number (Word f) ∷ [])

-- what is wrong with these lines, in their order; the first has this number
abbrev pub LinesHave : ℕ → List (List ℕ) → List Report → Type 0
LinesHave number [] reports = reports ≡ []
LinesHave number (line ∷ lines) reports = (here later : List Report) × (reports ≡ here ++ later) × LineHas number line here × LinesHave (number + 1) lines later

-- a line of at most 600 bytes that is not `end`
pub record IsPassed (line : List ℕ) : Type 0 where
  pub one : IsOneLine line
  pub short : length line ≤ 600
  pub not_end : line ≢ codes "end"

-- == the end ==

-- What is wrong with the end of a script, which begins with the line of this number: these bytes were taken for it, and is_all says that
-- the script has none after them.
pub data EndHas (number : ℕ) (is_all : Type 0) (bytes : List ℕ) : List Report → Type 0 where
  -- `end`, and nothing after it; or more
  ends : bytes ≡ ended (codes "end") → is_all → EndHas number is_all bytes []
  goes_on : (more : List ℕ) → bytes ≡ ended (codes "end") ++ more → 0 < length more → EndHas number is_all bytes (at_line (number + 1) BehindEnd ∷ [])
  -- the last line has no line end: it is `end`, or another one
  unended : bytes ≡ codes "end" → is_all → EndHas number is_all bytes (at_line number NoLineEnd ∷ [])
  last : (here : List Report) → IsPassed bytes → 0 < length bytes → LineHas number bytes here → is_all
      → EndHas number is_all bytes (here ++ (at_line number NoLineEnd ∷ at_line (number + 1) NoEnd ∷ []))
  -- no line is left
  missing : bytes ≡ [] → is_all → EndHas number is_all bytes (at_line number NoEnd ∷ [])
  -- the next line is too long
  long : IsOneLine bytes → length bytes ≡ 601 → EndHas number is_all bytes (at_line number Long ∷ [])
  -- a million lines were looked at
  too_long : bytes ≡ [] → number ≡ 1000001 → EndHas number is_all bytes (at_line 1000000 TooLong ∷ [])

-- WHAT IS WRONG WITH A SCRIPT: the faults of its lines before its end, and those of the end.
pub record ScriptHas (is_all : Type 0) (bytes : List ℕ) (reports : List Report) (lines : ℕ) : Type 0 where
  pub passed : List (List ℕ)
  pub each : AllByRecursion IsPassed passed
  pub before : List Report
  pub have : LinesHave 1 passed before
  pub rest : List ℕ
  pub last : List Report
  pub end : EndHas (length passed + 1) is_all rest last
  pub bytes_are : bytes ≡ flat_map ended passed ++ rest
  pub reports_are : reports ≡ before ++ last
  pub lines_are : lines ≡ min (length passed + 1) 1000000

-- These faults were written, and `is_right` if and only if there is no fault.
pub record Writes (reports : List Report) (is_right : Bool) (taken0 taken1 : Option (List ℕ)) : Type 0 where
  pub written : Appends taken0 taken1 (texts_of reports)
  pub right : IsTrue is_right ↔ (reports ≡ [])

-- WHAT A CHECK SAYS: just the faults of the script are written, in their order, and it is well-formed if and only if it has no fault.
pub record Checks (c : Checked) (left0 left1 taken0 taken1 : Option (List ℕ)) : Type 0 where
  pub bytes : List ℕ
  pub consumed : Consumes left0 left1 bytes
  pub reports : List Report
  pub has : ScriptHas (IsAtEnd left1) bytes reports c.lines
  pub writes : Writes reports c.is_well_formed taken0 taken1

-- A fault is answered only if the count of faults rose: of the script, if it could not be read; of the sink, if that took no more. Neither count falls.
pub record FailsSo {T : Type 0} (script0 script1 sink0 sink1 : ℕ) (result : Result T CheckFail) : Type 0 where
  pub script_later : script0 ≤ script1
  pub sink_later : sink0 ≤ sink1
  pub read : result ≡ Err Read → Rose script0 script1
  pub write : result ≡ Err Write → Rose sink0 sink1
