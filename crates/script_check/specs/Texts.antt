-- The texts of faults.
use Rattle.std.specs.Prelude.{ℕ, ◌/◌, ◌%◌, Bool, false, ◌&&◌, nat_le, nat_lt, ◌==◌, if◌then◌else◌, List, [], ◌∷◌, ◌++◌, length, take, flat_map, codes, decimal, Option, Some, None, option_map}
use Rattle.std.specs.Fmt.{digit_glyph}
use Rattle.script_check.specs.declared.{fault.Fault.Fault, fault.Hint.Hint, fault.Wanted.Wanted, fault.WordFault.WordFault, slots.Slot.Slot}
use Rattle.script_check.specs.declared.fault.Fault.TheVariants as fault
use Rattle.script_check.specs.declared.fault.Hint.TheVariants as hint
use Rattle.script_check.specs.declared.fault.Wanted.TheVariants as wanted
use Rattle.script_check.specs.declared.slots.Slot.TheVariants as slot

-- == a word as it is shown ==

abbrev pub is_printable : ℕ → Bool
is_printable byte = nat_le 32 byte && nat_lt byte 127

-- `\x` and the two digits of the byte
abbrev pub digits_of_byte : ℕ → List ℕ
digits_of_byte byte = 92 ∷ 120 ∷ digit_glyph false (byte / 16) ∷ digit_glyph false (byte % 16) ∷ []

-- a backslash twice, any other printable byte as it is, and the digits of each that is not printable
abbrev pub shown_byte : ℕ → List ℕ
shown_byte byte = if byte == 92 then 92 ∷ 92 ∷ [] else (if is_printable byte then byte ∷ [] else digits_of_byte byte)

-- two points where more than 40 bytes are
abbrev pub more_text : List ℕ → List ℕ
more_text word = if nat_lt 40 (length word) then codes ".." else []

-- the first 40 bytes of the word, between back quotes
abbrev pub quoted : List ℕ → List ℕ
quoted word = codes "`" ++ (flat_map shown_byte (take 40 word) ++ (more_text word ++ codes "`"))

-- the word that is found, or that the line has ended
abbrev pub found_text : Option (List ℕ) → List ℕ
found_text None = codes "the end of the line"
found_text (Some word) = quoted word

-- == what is expected, and a reason ==

abbrev pub slot_text : Slot → List ℕ
slot_text slot.Date = codes "a date from 2000-01-01 to 2199-12-31"
slot_text slot.Device = codes "a device, d1 to d8"
slot_text slot.Node = codes "a device, `centre`, `host` or `verifier`"
slot_text slot.Taker = codes "a device, `centre` or `host`"
slot_text slot.Key = codes "64 hexadecimal digits in lower case"
slot_text slot.Number = codes "a number from 0 to 4294967295"
slot_text slot.Class = codes "a number from 0 to 65535"
slot_text slot.Customer = codes "a number from 1 to 64"
slot_text slot.Byte = codes "2 hexadecimal digits in lower case"
slot_text slot.Bytes = codes "1 to 256 bytes as hexadecimal digits in lower case, or `-`"
slot_text slot.Scan = codes "a number from 1 to 4294967295"
slot_text slot.Numbered = codes "`enrol` or `reset`"
slot_text slot.Plain = codes "`audit`, `refund` or `withdraw`"
slot_text slot.Msg = codes "`msg`"
slot_text slot.Hex = codes "`hex`"

abbrev pub wanted_text : Wanted → List ℕ
wanted_text wanted.Keyword = codes "the first word of an event"
wanted_text (wanted.One slot) = slot_text slot
wanted_text (wanted.Either slot other) = slot_text slot ++ (codes ", or " ++ slot_text other)
wanted_text wanted.End = codes "the end of the line"

abbrev pub hint_text : Hint → List ℕ
hint_text hint.Nothing = []
hint_text hint.CarriageReturn = codes ": a carriage return, byte 13, before the line end"
hint_text hint.ByteOrderMark = codes ": a byte-order mark"
hint_text hint.Space = codes ": a space too many"
hint_text hint.Tab = codes ": a tab"
hint_text hint.Capital = codes ": a capital letter"
hint_text hint.OwnLine = codes ": own line of no event"

-- == a fault ==

-- its word, what is expected there, what is found, and the reason
abbrev pub word_text : WordFault → List ℕ
word_text f = codes "word " ++ (decimal f.place ++ (codes ": expected " ++ (wanted_text f.wanted
    ++ (codes ", found " ++ (found_text (option_map (λ w. w.now) f.found) ++ hint_text f.hint)))))

abbrev pub fault_text : Fault → List ℕ
fault_text (fault.Word f) = word_text f
fault_text fault.Long = codes "more than 600 bytes; nothing after it was checked"
fault_text fault.NoEnd = codes "expected `end`, found the end of the script"
fault_text fault.BehindEnd = codes "a line after `end`, which no run reads"
fault_text fault.NoLineEnd = codes "the last line has no line end, byte 10"
fault_text fault.TooLong = codes "no `end` among the first 1000000 lines"

-- the line of a fault at the line of this number
abbrev pub line_text : ℕ → Fault → List ℕ
line_text number f = codes "line " ++ (decimal number ++ (codes ": " ++ (fault_text f ++ (10 ∷ []))))
