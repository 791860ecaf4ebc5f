-- The words that the program is called with.
use Rattle.std.specs.Prelude.{ℕ, ◌≤◌, List, [], ◌∷◌, codes, decimal}
use Rattle.bench_base.specs.Ranges.{IsWord}
use Rattle.script_text.specs.declared.{program.Words.Words, program.Words.TheVariants.Replay, program.Words.TheVariants.Generate}

-- numbers are decimal, without leading zeros
abbrev pub program_words : Words → List (List ℕ)
program_words Replay = codes "replay" ∷ []
program_words (Generate seed count) = codes "generate" ∷ decimal seed ∷ decimal count ∷ []

-- a seed has 32 bits, and a run has at most 90,000 turns
abbrev pub AreInRange : Words → Type 0
AreInRange Replay = Unit {0}
AreInRange (Generate seed count) = IsWord seed × (count ≤ 90000)
