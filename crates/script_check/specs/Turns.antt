-- Bookkeeping: how far a script was checked, one line after another.
use Rattle.std.specs.Prelude.{◌≡◌, ◌⊎◌, ℕ, ◌+◌, ◌<◌, Bool, true, false, List, [], ◌∷◌, ◌++◌, length, flat_map, Option}
use Rattle.std.specs.List.{AllByRecursion}
use Rattle.std.specs.Io.KnownBytes.{Consumes, IsAtEnd}
use Rattle.line_runs.specs.Lines.{ended}
use Rattle.script_check.specs.Checks.{Report, at_line, LineHas, LinesHave, IsPassed, EndHas, Writes}
use Rattle.script_check.specs.declared.{fault.Fault.TheVariants.NoEnd, fault.Fault.TheVariants.BehindEnd, fault.Fault.TheVariants.NoLineEnd, script.Step.Step, script.Step.TheVariants.On, script.Step.TheVariants.Over}

-- the line of this number was looked at
pub record LooksAt (number : ℕ) (line : List ℕ) (is_right : Bool) (taken0 taken1 : Option (List ℕ)) : Type 0 where
  pub reports : List Report
  pub has : LineHas number line reports
  pub writes : Writes reports is_right taken0 taken1

-- the line of this number, which is not `end`, was looked at; a last one without a line end ends the script
abbrev pub LineSteps : ℕ → List ℕ → Bool → (taken0 taken1 : Option (List ℕ)) → Step → Type 0
LineSteps number line true taken0 taken1 (On is_right) = LooksAt number line is_right taken0 taken1
LineSteps number line true taken0 taken1 (Over is_right) = ⊥
LineSteps number line false taken0 taken1 (On is_right) = ⊥
LineSteps number line false taken0 taken1 (Over is_right) = (here : List Report) × LineHas number line here
    × Writes (here ++ (at_line number NoLineEnd ∷ at_line (number + 1) NoEnd ∷ [])) is_right taken0 taken1

-- what is after `end` was looked at, which is the line before this number
pub record LooksBehind (number : ℕ) (is_right : Bool) (left0 left1 taken0 taken1 : Option (List ℕ)) : Type 0 where
  pub bytes : List ℕ
  pub consumed : Consumes left0 left1 bytes
  pub reports : List Report
  pub so : ((bytes ≡ []) × IsAtEnd left1 × (reports ≡ [])) ⊎ ((0 < length bytes) × (reports ≡ at_line number BehindEnd ∷ []))
  pub writes : Writes reports is_right taken0 taken1

-- so the check is over
abbrev pub LooksOver : ℕ → (left0 left1 taken0 taken1 : Option (List ℕ)) → Step → Type 0
LooksOver number left0 left1 taken0 taken1 (On is_right) = ⊥
LooksOver number left0 left1 taken0 taken1 (Over is_right) = LooksBehind number is_right left0 left1 taken0 taken1

-- the line of this number was passed
pub record Passes (number : ℕ) (is_right : Bool) (left0 left1 taken0 taken1 : Option (List ℕ)) : Type 0 where
  pub line : List ℕ
  pub passed : IsPassed line
  pub consumed : Consumes left0 left1 (ended line)
  pub looks : LooksAt number line is_right taken0 taken1

-- the script ends at the line of this number
pub record Ends (number : ℕ) (is_right : Bool) (left0 left1 taken0 taken1 : Option (List ℕ)) : Type 0 where
  pub bytes : List ℕ
  pub consumed : Consumes left0 left1 bytes
  pub reports : List Report
  pub end : EndHas number (IsAtEnd left1) bytes reports
  pub writes : Writes reports is_right taken0 taken1

-- what came of the line of this number
abbrev pub Steps : ℕ → (left0 left1 taken0 taken1 : Option (List ℕ)) → Step → Type 0
Steps number left0 left1 taken0 taken1 (On is_right) = Passes number is_right left0 left1 taken0 taken1
Steps number left0 left1 taken0 taken1 (Over is_right) = Ends number is_right left0 left1 taken0 taken1

-- so many lines were passed
pub record Progress (count : ℕ) (is_right : Bool) (left0 left1 taken0 taken1 : Option (List ℕ)) : Type 0 where
  pub passed : List (List ℕ)
  pub each : AllByRecursion IsPassed passed
  pub number : length passed ≡ count
  pub consumed : Consumes left0 left1 (flat_map ended passed)
  pub reports : List Report
  pub have : LinesHave 1 passed reports
  pub writes : Writes reports is_right taken0 taken1
