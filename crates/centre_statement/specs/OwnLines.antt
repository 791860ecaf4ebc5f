-- The lines of the desk.
use Rattle.std.specs.Prelude.{◌≡◌, List, [], ◌∷◌, ℕ, codes, decimal}
use Rattle.bench_base.specs.Ranges.{IsCustomer}
use Rattle.script_words.specs.Words.{words_in}
use Rattle.centre_statement.specs.declared.{lines.OwnLine.OwnLine, lines.OwnLine.TheVariants.Open, lines.OwnLine.TheVariants.Close}

abbrev pub IsOwnLine : OwnLine → List ℕ → Type 0
IsOwnLine (Open w) line = IsCustomer w × (words_in line ≡ codes "statement" ∷ codes "open" ∷ decimal w ∷ [])
IsOwnLine Close line = words_in line ≡ codes "statement" ∷ codes "close" ∷ []

-- the line is one that may be written
abbrev pub IsLine : OwnLine → Type 0
IsLine (Open w) = IsCustomer w
IsLine Close = Unit {0}
