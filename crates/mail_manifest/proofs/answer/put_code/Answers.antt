use Rattle.std.proofs.Common.{◌≡◌, ap, ◌∙◌, arith, List, ℕ, length, ◌++◌, ◌∷◌}
use Rattle.std.specs.Prelude.{codes}
use Rattle.std.proofs.lemmas.List.{length-append}
use Rattle.hex.proofs.HexLemmas.{length-encode_with}
use Rattle.hex.specs.Hex.{lower_digits}
use Rattle.script_words.specs.Words.{hex_word}
use Rattle.mail_manifest.proofs.answer.put_code.Goals as goal

pub returns-clause-short : goal.returns-clause-short
returns-clause-short c =
    let begun : length c.put.new.self ≡ 4 = ap (λ (l : List ℕ). length l) (c.put.ensures ∙ ap (λ (l : List ℕ). l ++ codes "code") c.requires.empty) in
    let all = ap (λ (l : List ℕ). length l) c.hex.ensures.value in
    omega (arith, all, begun, c.told-code, length-append c.put.new.self (32 ∷ hex_word c.args.code.now), length-encode_with lower_digits c.args.code.now)
