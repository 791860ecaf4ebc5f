-- The lines that may run out of memory.
use Rattle.mail_manifest.specs.declared.{opening.ManifestLine.ManifestLine, opening.ManifestLine.TheVariants.Open, opening.ManifestLine.TheVariants.Piece, opening.ManifestLine.TheVariants.Code, opening.ManifestLine.TheVariants.Check}

-- a manifest takes all its memory as it is opened
abbrev pub MayWant : ManifestLine → Type 0
MayWant (Open o) = Unit {0}
MayWant (Piece mark) = ⊥
MayWant Code = ⊥
MayWant (Check code) = ⊥
