-- A line about the manifest is neither skipped nor the line of `end`.
use Rattle.std.proofs.Common.{◌≡◌, ℕ, List, ◌∷◌, get_or, arith, sym, subst, ◌∙◌, ap}
use Rattle.std.specs.Prelude.{codes}
use Rattle.script_words.specs.Words.{joined, words_in}
use Rattle.script_text.specs.Grammar.{IsSkipped}
use Rattle.script_words.proofs.Splits.{joined_words_in}
use Rattle.line_extensions.specs.Wants.{IsAlone}
use Rattle.mail_manifest.specs.ManifestLines.{IsManifestLine, line_words}
use Rattle.mail_manifest.specs.declared.opening.ManifestLine.{ManifestLine}

-- it begins with m
first_is : (line : List ℕ) (rest : List (List ℕ)) → words_in line ≡ codes "manifest" ∷ rest → (tail : List ℕ) × (line ≡ 109 ∷ tail)
first_is line rest is = (_, sym (joined_words_in line) ∙ ap (λ (ws : List (List ℕ)). joined ws) is)

first_alone : (tail line : List ℕ) → line ≡ 109 ∷ tail → IsAlone line
first_alone tail line is = record {
  not_skipped = λ skipped. let at : 109 ≡ 35 = subst (λ (l : List ℕ). IsSkipped l) is skipped in omega (arith, at);
  not_end = λ end. let two : 109 ∷ tail ≡ codes "end" = sym is ∙ end.2
      ∙ ap (λ (ws : List (List ℕ)). joined ws) end.1 in let first : 109 ≡ 101 = ap (λ (l : List ℕ). get_or l 0 0) two in omega (arith, first);
}

pub manifest_alone : (own : ManifestLine) (line : List ℕ) → IsManifestLine own line → IsAlone line
manifest_alone own line is = let at = first_is line (line_words own) is.1 in first_alone at.0 line at.1
