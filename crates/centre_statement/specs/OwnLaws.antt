-- A line of the desk is neither skipped nor the line of `end`.
use Rattle.std.proofs.Common.{◌≡◌, ℕ, List, ◌∷◌, get_or, arith, sym, subst, ◌∙◌, ap}
use Rattle.std.specs.Prelude.{codes}
use Rattle.script_words.specs.Words.{joined, words_in}
use Rattle.script_words.proofs.Splits.{joined_words_in}
use Rattle.script_text.specs.Grammar.{IsSkipped}
use Rattle.line_extensions.specs.Wants.{IsAlone}
use Rattle.centre_statement.specs.OwnLines.{IsOwnLine}
use Rattle.centre_statement.specs.declared.{lines.OwnLine.OwnLine, lines.OwnLine.TheVariants.Open, lines.OwnLine.TheVariants.Close}

-- a line with `statement` as its first word
first_alone : (rest : List (List ℕ)) (line : List ℕ) → words_in line ≡ codes "statement" ∷ rest → IsAlone line
first_alone rest line words =
    let is : line ≡ joined (codes "statement" ∷ rest) = sym (joined_words_in line) ∙ ap (λ (ws : List (List ℕ)). joined ws) words in
    record {
      not_skipped = λ skipped. let at : 115 ≡ 35 = subst (λ (l : List ℕ). IsSkipped l) is skipped in omega (arith, at);
      not_end = λ end. let two : joined (codes "statement" ∷ rest) ≡ codes "end" = sym is ∙ end.2
          ∙ ap (λ (ws : List (List ℕ)). joined ws) end.1 in let first : 115 ≡ 101 = ap (λ (l : List ℕ). get_or l 0 0) two in omega (arith, first);
    }

pub own_alone : (own : OwnLine) (line : List ℕ) → IsOwnLine own line → IsAlone line
own_alone (Open w) line is = first_alone _ line is.1
own_alone Close line is = first_alone _ line is
