-- The lines about the manifest, and the words that they are read from.
use Rattle.std.proofs.Common.{◌≡◌, ℕ, ◌<◌, ◌^◌, List, [], ◌∷◌, length, sym, subst, ◌∙◌, ap}
use Rattle.std.specs.Prelude.{codes, decimal}
use Rattle.bench_base.specs.Table.{IsBytes}
use Rattle.script_words.specs.Words.{words_in, hex_word, given_word}
use Rattle.script_words.proofs.Splits.{HasFirst, words_in_some}
use Rattle.script_text.proofs.ReadBack.{number_in, number_again, given_in, given_again, given_is}
use Rattle.mail_manifest.specs.ManifestLines.{IsInRange, line_words}
use Rattle.mail_manifest.specs.declared.{opening.ManifestLine.ManifestLine, opening.ManifestLine.TheVariants.Open, opening.ManifestLine.TheVariants.Piece, opening.ManifestLine.TheVariants.Code, opening.ManifestLine.TheVariants.Check}

-- a word is one number
pub one_number : (c d : ℕ) → c < 2 ^ 64 → d < 2 ^ 64 → decimal c ≡ decimal d → c ≡ d
one_number c d small small' same = sym (number_again c small) ∙ ap (λ (w : List ℕ). number_in w) same ∙ number_again d small'

-- and one mark
pub one_mark : (ws : List (List ℕ)) (g mark : List ℕ) → IsBytes g → IsBytes mark → length mark ≡ 64 → ws ≡ given_word g ∷ [] → ws ≡ hex_word mark ∷ [] → g ≡ mark
one_mark ws g mark bytes bytes' long is is' =
    let same : given_word g ≡ hex_word mark = cc in
    sym (given_again g bytes) ∙ ap (λ (w : List ℕ). given_in w) (same ∙ sym (given_is mark long)) ∙ given_again mark bytes'

-- a line has a word
pub some_word : (line : List ℕ) → words_in line ≡ [] → ⊥
some_word line none = subst (λ (ws : List (List ℕ)). HasFirst ws) none (words_in_some line)

-- of more than one word none is but these three
pub none_long : (word : List ℕ) (rest : List (List ℕ)) → (word ≡ codes "open" → ⊥) → (word ≡ codes "piece" → ⊥) → (word ≡ codes "check" → ⊥) → (rest ≡ [] → ⊥)
    → (line : ManifestLine) → IsInRange line → line_words line ≡ word ∷ rest → ⊥
none_long word rest no_open no_piece no_check some (Open o) range is = let same : word ≡ codes "open" = cc in no_open same
none_long word rest no_open no_piece no_check some (Piece mark) range is = let same : word ≡ codes "piece" = cc in no_piece same
none_long word rest no_open no_piece no_check some Code range is = let none : rest ≡ [] = cc in some none
none_long word rest no_open no_piece no_check some (Check code) range is = let same : word ≡ codes "check" = cc in no_check same
