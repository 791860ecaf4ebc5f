-- Whether bytes are what the prints have of marks that the printer was given.
use Rattle.std.specs.Prelude.{◌≡◌, ◌⊎◌, ℕ, zero, suc, ◌+◌, ◌≤◌, List, [], ◌∷◌, ◌++◌, drop, length}
use Rattle.hex.specs.Hex.{encode_lower}
use Rattle.text_streams.specs.Texts.{print_line}
use Rattle.line_runs.specs.Lines.{ended}
use Rattle.trace_bench.specs.Stopping.{IsPrefixOf}
use Rattle.trace_runs.specs.declared.{imprint.Imprint.Imprint, imprint.Printed.Printed, imprint.Printed.TheVariants.Whole, imprint.Printed.TheVariants.Part, prints.Match.Match, prints.Match.TheVariants.Fit, prints.Match.TheVariants.Differ}

-- Some of the digits of a mark, none or all, with a line end after them or without: the printer took these bytes, or somebody ended the line by hand.
abbrev pub IsPart : List ℕ → List ℕ → Type 0
IsPart digits piece = (part : List ℕ) × IsPrefixOf part digits × ((piece ≡ part) ⊎ (piece ≡ ended part))

-- The prints have this of a mark: its whole line, or a part of it, if the printer failed there or the run was stopped.
abbrev pub Took : Printed → List ℕ → List ℕ → Type 0
Took Whole mark piece = piece ≡ print_line mark
Took Part mark piece = IsPart (encode_lower mark) piece

-- the bytes are what the prints have of each in turn
abbrev pub ArePrinted : List Imprint → List ℕ → Type 0
ArePrinted [] bytes = bytes ≡ []
ArePrinted (i ∷ imprints) bytes = (piece rest : List ℕ) × (bytes ≡ piece ++ rest) × Took i.given.taken i.given.mark piece × ArePrinted imprints rest

-- the bytes begin with what the prints have of so many of these in turn, and this is left after it
abbrev pub FitsUpTo : List Imprint → List ℕ → ℕ → List ℕ → Type 0
FitsUpTo imprints bytes zero rest = bytes ≡ rest
FitsUpTo [] bytes (suc place) rest = ⊥
FitsUpTo (i ∷ imprints) bytes (suc place) rest =
    (piece more : List ℕ) × (bytes ≡ piece ++ more) × Took i.given.taken i.given.mark piece × FitsUpTo imprints more place rest

module _ (imprints : List Imprint) (bytes : List ℕ) where
  -- The imprints before this one can fit, and leave the bytes after so many. More of them can't, and the bytes are not those of all.
  pub record DiffersAt (place at : ℕ) : Type 0 where
    pub inside : at ≤ length bytes
    pub fits : FitsUpTo imprints bytes place (drop at bytes)
    pub no_further : (rest : List ℕ) → FitsUpTo imprints bytes (place + 1) rest → ⊥
    pub unprinted : ArePrinted imprints bytes → ⊥

  -- WHAT IS FOUND OF PRINTS: they are those of the imprints, or they aren't, whatever is left of lines that were not taken whole
  abbrev pub Matches : Match → Type 0
  Matches Fit = ArePrinted imprints bytes
  Matches (Differ place at) = DiffersAt place at
