-- A layout is a table: the sizes of its fields, one after the other. Numbers are big-endian.
use Rattle.std.specs.Prelude.{ℕ, ◌+◌, ◌*◌, ◌/◌, ◌%◌, ◌<◌, ◌^◌, List, [], ◌∷◌, ◌++◌, take, drop, get_or}
use Rattle.std.specs.Int.{w16, w32, w64, from_be_bytes, to_be_bytes}

-- how many bytes a field has
pub data Size : Type 0 where
  One : Size
  Two : Size
  Four : Size
  Five : Size
  Eight : Size

-- the same as a number
abbrev pub bytes_in : Size → ℕ
bytes_in One = 1
bytes_in Two = 2
bytes_in Four = 4
bytes_in Five = 5
bytes_in Eight = 8

-- the bytes of a number
unfoldable pub spelled : Size → ℕ → List ℕ
spelled One n = n ∷ []
spelled Two n = to_be_bytes w16 n
spelled Four n = to_be_bytes w32 n
spelled Five n = (n / 2 ^ 32) ∷ to_be_bytes w32 (n % 2 ^ 32)
spelled Eight n = to_be_bytes w64 n

-- the number of these bytes
unfoldable pub number : Size → List ℕ → ℕ
number One bytes = get_or bytes 0 0
number Two bytes = from_be_bytes w16 bytes
number Four bytes = from_be_bytes w32 bytes
number Five bytes = get_or bytes 0 0 * 2 ^ 32 + from_be_bytes w32 (drop 1 bytes)
number Eight bytes = from_be_bytes w64 bytes

abbrev pub IsNumber : Size → ℕ → Type 0
IsNumber One n = n < 2 ^ 8
IsNumber Two n = n < 2 ^ 16
IsNumber Four n = n < 2 ^ 32
IsNumber Five n = n < 2 ^ 40
IsNumber Eight n = n < 2 ^ 64

-- how many bytes a table has
abbrev pub room : List Size → ℕ
room [] = 0
room (s ∷ ss) = bytes_in s + room ss

-- the bytes of a row of numbers
abbrev pub row : List Size → List ℕ → List ℕ
row [] vs = []
row (s ∷ ss) [] = []
row (s ∷ ss) (v ∷ vs) = spelled s v ++ row ss vs

-- the numbers in the bytes from that place on
abbrev pub values : ℕ → List Size → List ℕ → List ℕ
values at [] bytes = []
values at (s ∷ ss) bytes = number s (take (bytes_in s) (drop at bytes)) ∷ values (at + bytes_in s) ss bytes

-- there is a number for each field, and it fits
abbrev pub Fit : List Size → List ℕ → Type 0
Fit [] [] = Unit {0}
Fit [] (v ∷ vs) = ⊥
Fit (s ∷ ss) [] = ⊥
Fit (s ∷ ss) (v ∷ vs) = IsNumber s v × Fit ss vs

-- each of them is below 256
abbrev pub IsBytes : List ℕ → Type 0
IsBytes bytes = (i : ℕ) → get_or bytes i 0 < 256
