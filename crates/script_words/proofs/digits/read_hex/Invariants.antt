use Rattle.std.proofs.Common.{◌≡◌, ◌*◌, ◌<◌, ◌≤◌, ◌++◌, length, take, drop}
use Rattle.hex.specs.Hex.{encode_lower}
use Rattle.bench_base.specs.Table.{IsBytes}
use Rattle.script_words.proofs.HexDigits.{AreLower}
use Rattle.script_words.proofs.digits.read_hex.Given as goal

abbrev pub invariant-loop-at : goal.invariant-loop-at
invariant-loop-at l =
    (l.greatest < 16 → (encode_lower (take l.at l.room) ++ drop (2 * l.at) l.word ≡ l.word) × IsBytes (take l.at l.room))
    × (16 ≤ l.greatest → AreLower l.word → ⊥)
    × (length l.room ≡ length l.initial.room)
