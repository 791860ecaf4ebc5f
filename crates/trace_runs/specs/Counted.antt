-- How many lines of the report are answers.
use Rattle.std.specs.Prelude.{◌≡◌, ℕ, List, length, flat_map, Option}
use Rattle.std.specs.List.{AllByRecursion}
use Rattle.std.specs.Io.KnownBytes.{Consumes}
use Rattle.line_runs.specs.Lines.{IsOneLine, ended}
use Rattle.trace_runs.specs.declared.{verdict.Ending.Ending, verdict.Verdict.Verdict, verdict.Verdict.TheVariants.Lawful}

-- so many lines were taken of a source, each with its line end, and nothing more
pub record TookLines (count : ℕ) (left0 left1 : Option (List ℕ)) : Type 0 where
  pub lines : List (List ℕ)
  pub each : AllByRecursion IsOneLine lines
  pub many : length lines ≡ count
  pub taken : Consumes left0 left1 (flat_map ended lines)

-- of the report of a run that the verdict calls lawful so many lines were taken
abbrev pub HasAnswers : ℕ → Option (List ℕ) → Option (List ℕ) → Verdict → Type 0
HasAnswers count left0 left1 v = (end : Ending) → v ≡ Lawful end → TookLines count left0 left1
