-- The lines about the manifest.
use Rattle.std.specs.Prelude.{◌≡◌, ◌<◌, ◌^◌, ℕ, List, [], ◌∷◌, length, codes, decimal}
use Rattle.bench_base.specs.Ranges.{IsKey}
use Rattle.bench_base.specs.Table.{IsBytes}
use Rattle.script_words.specs.Words.{words_in, hex_word}
use Rattle.mail_manifest.specs.Listings.{IsOpening}
use Rattle.mail_manifest.specs.declared.{opening.ManifestLine.ManifestLine, opening.ManifestLine.TheVariants.Open, opening.ManifestLine.TheVariants.Piece, opening.ManifestLine.TheVariants.Code, opening.ManifestLine.TheVariants.Check, opening.Opening.Opening}

pub record IsOpenLine (o : Opening) : Type 0 where
  pub numbers : IsOpening o
  pub total : o.total < 2 ^ 64
  pub key : IsKey o.key

-- the line is one that may be written
abbrev pub IsInRange : ManifestLine → Type 0
IsInRange (Open o) = IsOpenLine o
IsInRange (Piece mark) = (length mark ≡ 64) × IsBytes mark
IsInRange Code = Unit {0}
IsInRange (Check code) = IsKey code

abbrev pub open_words : Opening → List (List ℕ)
open_words o = decimal o.first ∷ decimal o.count ∷ decimal o.total ∷ hex_word o.key ∷ []

-- its words after `manifest`
abbrev pub line_words : ManifestLine → List (List ℕ)
line_words (Open o) = codes "open" ∷ open_words o
line_words (Piece mark) = codes "piece" ∷ hex_word mark ∷ []
line_words Code = codes "code" ∷ []
line_words (Check code) = codes "check" ∷ hex_word code ∷ []

abbrev pub IsManifestLine : ManifestLine → List ℕ → Type 0
IsManifestLine own line = IsInRange own × (words_in line ≡ codes "manifest" ∷ line_words own)
