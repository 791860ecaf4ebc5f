-- The line of a mark that is printed, and what is taken of a source for a text.
use Rattle.std.specs.Prelude.{ℕ, ◌<◌, ◌≤◌, List, [], ◌∷◌, ◌++◌, length, Option}
use Rattle.std.specs.Io.KnownBytes.{Consumes, IsAtEnd}
use Rattle.hex.specs.Hex.{encode_lower}

-- a mark as it is printed: two lower-case hexadecimal digits for each byte, and the line end
abbrev pub print_line : List ℕ → List ℕ
print_line mark = encode_lower mark ++ 10 ∷ []

-- These bytes were taken, at most so many, and fewer only where none are left.
pub record TakesUpTo (most : ℕ) (bytes : List ℕ) (left0 left1 : Option (List ℕ)) : Type 0 where
  pub taken : Consumes left0 left1 bytes
  pub within : length bytes ≤ most
  pub whole : length bytes < most → IsAtEnd left1

-- some bytes were taken, fewer than so many
abbrev pub TakesFewer : ℕ → Option (List ℕ) → Option (List ℕ) → Type 0
TakesFewer most left0 left1 = (bytes : List ℕ) × Consumes left0 left1 bytes × (length bytes < most)
