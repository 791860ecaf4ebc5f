-- Each place takes some word.
use Rattle.std.proofs.Common.{ℕ, zero, suc, pos, List, [], replicate, refl, arith, inl, codes, decimal}
use Rattle.std.proofs.lemmas.Int.{ints}
use Rattle.bench_base.specs.Ranges.{IsKey}
use Rattle.bench_base.specs.Table.{IsBytes}
use Rattle.bench_base.specs.declared.words.Node.TheVariants.{Centre}
use Rattle.script_text.proofs.DayTexts.{date_of}
use Rattle.script_words.specs.Words.{device_word, node_word, hex_word, byte_word, given_word}
use Rattle.script_check.specs.Slots.{Takes}
use Rattle.script_check.specs.declared.slots.Slot.{Slot}
use Rattle.script_check.specs.declared.slots.Slot.TheVariants as slot

no_bytes : IsBytes []
no_bytes i = omega arith

zeros : (n : ℕ) → IsBytes (replicate n 0)
zeros zero i = omega arith
zeros (suc n) zero = omega arith
zeros (suc n) (suc i) = zeros n i

key : List ℕ
key = replicate 32 0

is_key : IsKey key
unfolding key
is_key = (refl, zeros 32)

pub sample : (s : Slot) → (w : List ℕ) × Takes s w
sample slot.Date = let date = date_of (pos 10957) (omega (arith, ints)) (omega (arith, ints)) in (date.0, (pos 10957, (omega (arith, ints), omega (arith, ints)), date.1))
sample slot.Device = (device_word 1, (1, (omega arith, omega arith), refl))
sample slot.Node = (node_word Centre, (Centre, tt, refl))
sample slot.Taker = (node_word Centre, (Centre, tt, refl))
sample slot.Key = (hex_word key, (key, is_key, refl))
sample slot.Number = (decimal 0, (0, omega arith, refl))
sample slot.Class = (decimal 0, (0, omega arith, refl))
sample slot.Customer = (decimal 1, (1, (omega arith, omega arith), refl))
sample slot.Byte = (byte_word 0, (0, omega arith, refl))
sample slot.Bytes = (given_word [], ([], (omega arith, no_bytes), refl))
sample slot.Scan = (decimal 1, (1, omega arith, omega arith, refl))
sample slot.Numbered = (codes "enrol", inl refl)
sample slot.Plain = (codes "audit", inl refl)
sample slot.Msg = (codes "msg", refl)
sample slot.Hex = (codes "hex", refl)
