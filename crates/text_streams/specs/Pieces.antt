-- What a source that is read ahead of gives up to a byte.
use Rattle.std.specs.Prelude.{◌≡◌, ◌≢◌, ℕ, ◌≤◌, ◌<◌, List, [], ◌∷◌, ◌++◌, length, take, Option, Bool, true, false, All}
use Rattle.std.specs.Io.KnownBytes.{Consumes, IsAtEnd}
use Rattle.text_streams.specs.declared.ahead.Piece.{Piece}

-- the byte of this value, where it was reached
abbrev pub with_end : ℕ → Bool → List ℕ
with_end value true = value ∷ []
with_end value false = []

-- These bytes were given, and no byte of them has the value. They were taken of the source, with the byte of the value if
-- it was reached. If nothing is given, that byte is not reached, and there is room, the source has ended.
pub record GivesPiece (value : ℕ) (left0 left1 : Option (List ℕ)) (piece : Piece) (old new : List ℕ) : Type 0 where
  pub inside : piece.len ≤ length old
  pub long : length new ≡ length old
  pub taken : Consumes left0 left1 (take piece.len new ++ with_end value piece.is_ended)
  pub without : All (λ b. b ≢ value) (take piece.len new)
  pub none : piece.len ≡ 0 → piece.is_ended ≡ false → 0 < length old → IsAtEnd left1
