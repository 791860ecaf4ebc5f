use Rattle.std.proofs.Common.{◌≡◌, ◌*◌, ◌++◌, length, take, drop}
use Rattle.hex.specs.Hex.{encode_lower}
use Rattle.text_streams.proofs.digits.put_digits.Given as goal

abbrev pub invariant-loop-at : goal.invariant-loop-at
invariant-loop-at l = (take (2 * l.at) l.digits ++ encode_lower (drop l.at l.bytes) ≡ encode_lower l.bytes) × (length l.digits ≡ 2 * length l.bytes)
