-- A line is one line about the manifest at most.
use Rattle.std.proofs.Common.{◌≡◌, ℕ, List, ◌∷◌, refl, sym, ap, ◌∙◌, cond, codes, arith}
use Rattle.script_words.specs.Words.{words_in}
use Rattle.script_text.proofs.ReadBack.{same, at, number_in, hex_in, number_again, hex_again}
use Rattle.mail_manifest.specs.ManifestLines.{IsOpenLine, IsInRange, IsManifestLine, line_words, open_words}
use Rattle.mail_manifest.specs.declared.{opening.ManifestLine.ManifestLine, opening.ManifestLine.TheVariants.Open, opening.ManifestLine.TheVariants.Piece, opening.ManifestLine.TheVariants.Code, opening.ManifestLine.TheVariants.Check, opening.Opening.Opening}

abbrev opening : ℕ → ℕ → ℕ → List ℕ → Opening
opening first count total key = record { first = first; count = count; total = total; key = key }

-- what these words open a manifest with
abbrev opening_in : List (List ℕ) → Opening
opening_in ws = opening (number_in (at ws 2)) (number_in (at ws 3)) (number_in (at ws 4)) (hex_in (at ws 5))

-- the line of these words
abbrev line_in : List (List ℕ) → ManifestLine
line_in ws =
    cond (same (at ws 1) (codes "open")) (Open (opening_in ws))
    (cond (same (at ws 1) (codes "piece")) (Piece (hex_in (at ws 2)))
    (cond (same (at ws 1) (codes "check")) (Check (hex_in (at ws 2)))
    Code))

same_opening : (a b c d e f : ℕ) (g h : List ℕ) → a ≡ b → c ≡ d → e ≡ f → g ≡ h → opening a c e g ≡ opening b d f h
same_opening a b c d e f g h one two three four = cc

opening_again : (o : Opening) → IsOpenLine o → opening_in (codes "manifest" ∷ codes "open" ∷ open_words o) ≡ o
opening_again o is =
    same_opening _ o.first _ o.count _ o.total _ o.key
    (number_again o.first (omega (arith, is.numbers.last))) (number_again o.count (omega (arith, is.numbers.most))) (number_again o.total is.total) (hex_again o.key is.key.1)

line_again : (x : ManifestLine) → IsInRange x → line_in (codes "manifest" ∷ line_words x) ≡ x
line_again (Open o) range = ap Open (opening_again o range)
line_again (Piece mark) range = ap Piece (hex_again mark range.1)
line_again Code range = refl
line_again (Check code) range = ap Check (hex_again code range.1)

read_again : (x : ManifestLine) (line : List ℕ) → IsManifestLine x line → line_in (words_in line) ≡ x
read_again x line is = ap line_in is.1 ∙ line_again x is.0

pub one_manifest_line : (x y : ManifestLine) (line : List ℕ) → IsManifestLine x line → IsManifestLine y line → x ≡ y
one_manifest_line x y line is is' = sym (read_again x line is) ∙ read_again y line is'
