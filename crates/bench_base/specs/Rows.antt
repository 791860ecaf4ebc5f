-- Tables of cases in order, and look-ups that take the first in time.
use Rattle.std.specs.Prelude.{Bool, true, false, List, [], ◌∷◌, Option, Some, None, if◌then◌else◌}

-- the value beside the first case that holds, and otherwise the last value
abbrev pub first_holding : {A : Type 0} → List (Bool × A) → A → A
first_holding [] otherwise = otherwise
first_holding (row ∷ rows) otherwise = if row.0 then row.1 else first_holding rows otherwise

-- one of them holds
abbrev pub any_true : List Bool → Bool
any_true [] = false
any_true (b ∷ bs) = if b then true else any_true bs

-- what was found earlier, and otherwise what is found now
abbrev pub first_of : {A : Type 0} → Option A → Option A → Option A
first_of (Some a) now = Some a
first_of None now = now
