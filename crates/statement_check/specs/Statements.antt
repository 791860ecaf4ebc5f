-- A statement that is right, as a whole.
use Rattle.std.specs.Prelude.{◌≡◌, ℕ, ◌≤◌, pos, List, [], ◌∷◌, ◌++◌, length, map}
use Rattle.std.specs.List.{AllByRecursion}
use Rattle.line_runs.specs.Ends.{lines_of}
use Rattle.statement_check.specs.Lines.{IsInRange, line_text}
use Rattle.statement_check.specs.Places.{moved}
use Rattle.statement_check.specs.declared.{line.Movement.Movement, line.StatementLine.TheVariants.Opening, line.StatementLine.TheVariants.Moved, line.StatementLine.TheVariants.Closing}

-- each movement leads from the balance before it to its own, and the last to the closing balance
abbrev pub Follow : ℕ → List Movement → ℕ → Type 0
Follow before [] closing = closing ≡ before
Follow before (m ∷ movements) closing = (moved before m.cause m.amount ≡ pos m.balance) × Follow m.balance movements closing

-- The bytes are a whole statement: an opening line, at most 10,000 movements and a closing line, each balance following from the lines before it.
pub record IsStatement (closing : ℕ) (bytes : List ℕ) : Type 0 where
  pub customer : ℕ
  pub opening : ℕ
  pub movements : List Movement
  pub are : lines_of bytes ≡ line_text (Opening customer opening) ∷ (map (λ m. line_text (Moved m)) movements ++ line_text (Closing closing) ∷ [])
  pub few : length movements ≤ 10000
  pub first : IsInRange (Opening customer opening)
  pub each : AllByRecursion (λ m. IsInRange (Moved m)) movements
  pub last : IsInRange (Closing closing)
  pub follow : Follow opening movements closing
