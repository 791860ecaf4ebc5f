-- The bytes of a debit that is given.
use Rattle.std.proofs.Common.{ℕ, zero, suc, ◌%◌, ◌^◌, ◌<◌, List, [], ◌∷◌, replicate, arith}
use Rattle.std.specs.Int.{byte_at, bytes_high_first}
use Rattle.bench_base.specs.Ranges.{IsWord}
use Rattle.bench_base.specs.Table.{Size, One, Two, Four, Five, Eight, IsNumber, IsBytes, Fit, spelled, row}
use Rattle.bench_base.specs.Events.{IsWholeEvent}
use Rattle.bench_base.proofs.Tables.{IsBytes-append, length_row}
use Rattle.psd_wire.specs.declared.message.Message.TheVariants as m
use Rattle.psd_wire.specs.Grammar.{body, spell, debit_table, debit_values}
use Rattle.psd_wire.proofs.Readings.{read_spell}
use Rattle.generator.specs.Given.{GivesOnlyDebits}
use Rattle.generator.specs.Turns.{gives, debit_of}

small : (k n : ℕ) → byte_at k n < 256
small zero n = omega arith
small (suc k) n = omega arith

are_bytes : (k n : ℕ) → IsBytes (bytes_high_first k n)
are_bytes zero n i = omega arith
are_bytes (suc k) n zero = small k n
are_bytes (suc k) n (suc i) = are_bytes k n i

IsBytes-spelled : (s : Size) (n : ℕ) → IsNumber s n → IsBytes (spelled s n)
unfolding spelled
IsBytes-spelled One n h zero = h
IsBytes-spelled One n h (suc i) = omega arith
IsBytes-spelled Two n h i = are_bytes 2 n i
IsBytes-spelled Four n h i = are_bytes 4 n i
IsBytes-spelled Five n h zero = omega arith
IsBytes-spelled Five n h (suc i) = are_bytes 4 (n % 2 ^ 32) i
IsBytes-spelled Eight n h i = are_bytes 8 n i

IsBytes-row : (ss : List Size) (vs : List ℕ) → Fit ss vs → IsBytes (row ss vs)
IsBytes-row [] vs h i = omega arith
IsBytes-row (s ∷ ss) [] h i = omega arith
IsBytes-row (s ∷ ss) (v ∷ vs) h i = IsBytes-append (spelled s v) (row ss vs) (IsBytes-spelled s v h.0) (IsBytes-row ss vs h.1) i

fits : (piece postage : ℕ) → IsWord piece → IsWord postage → Fit debit_table (debit_values (debit_of piece postage))
fits piece postage h k = (omega arith, (omega arith, (omega arith, (h, (k, (omega arith, tt))))))

-- it can be given
pub gives_whole : (piece postage : ℕ) → IsWord piece → IsWord postage → IsWholeEvent (gives piece postage)
unfolding gives body
gives_whole piece postage h k =
    let fit = fits piece postage h k in
    ((omega arith, omega arith), (omega (arith, length_row debit_table (debit_values (debit_of piece postage)) fit), IsBytes-row debit_table (debit_values (debit_of piece postage)) fit))

-- it reads as a Debit
pub gives_debit : (piece postage : ℕ) → IsWord piece → IsWord postage → GivesOnlyDebits (gives piece postage)
unfolding gives spell
gives_debit piece postage h k = (debit_of piece postage, read_spell (m.Debit (debit_of piece postage)) [] (fits piece postage h k))

pub IsBytes-ones : (n : ℕ) → IsBytes (replicate n 1)
IsBytes-ones zero i = omega arith
IsBytes-ones (suc n) zero = omega arith
IsBytes-ones (suc n) (suc i) = IsBytes-ones n i
