-- Bytes that may be no text, as they are shown.
use Rattle.std.specs.Prelude.{ℕ, ◌/◌, ◌%◌, ◌<◌, ◌≤◌, Bool, false, ◌&&◌, nat_le, nat_lt, ◌==◌, if◌then◌else◌, List, [], ◌∷◌, flat_map}
use Rattle.std.specs.Fmt.{digit_glyph}

-- the byte is printable ASCII
abbrev pub IsPrintable : ℕ → Type 0
IsPrintable byte = (32 ≤ byte) × (byte < 127)

abbrev pub is_printable : ℕ → Bool
is_printable byte = nat_le 32 byte && nat_lt byte 127

-- `\x` and the two digits of the byte
abbrev pub digits_of_byte : ℕ → List ℕ
digits_of_byte byte = 92 ∷ 120 ∷ digit_glyph false (byte / 16) ∷ digit_glyph false (byte % 16) ∷ []

-- a backslash twice, any other printable byte as it is, and the digits of each that is not printable
abbrev pub shown_byte : ℕ → List ℕ
shown_byte byte = if byte == 92 then 92 ∷ 92 ∷ [] else (if is_printable byte then byte ∷ [] else digits_of_byte byte)

-- THE BYTES AS THEY ARE SHOWN, one after another
abbrev pub shown_bytes : List ℕ → List ℕ
shown_bytes bytes = flat_map shown_byte bytes
