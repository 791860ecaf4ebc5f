-- The change that is in doubt, if it is one of a cell.
use Rattle.std.specs.Prelude.{ℕ, Option, Some, None, if◌then◌else◌, ◌==◌}

-- the row that it leaves in the cell at this place, by the cell and by the row of each change
abbrev pub at_place : {X R : Type 0} → (X → ℕ) → (X → R) → ℕ → Option X → Option R
at_place cell row place None = None
at_place cell row place (Some x) = if cell x == place then Some (row x) else None
