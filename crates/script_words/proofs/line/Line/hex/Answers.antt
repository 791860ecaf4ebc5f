use Rattle.std.proofs.Common.{◌≡◌, ℕ, ◌*◌, ◌++◌, ◌∷◌, [], List, length, ap, ◌∙◌, arith, append_assoc}
use Rattle.std.proofs.lemmas.List.{length-append}
use Rattle.script_words.specs.Words.{hex_word}
use Rattle.hex.specs.Hex.{lower_digits}
use Rattle.hex.proofs.HexLemmas.{length-encode_with}
use Rattle.script_words.proofs.HexDigits.{put_behind}
use Rattle.script_words.proofs.line.Line.hex.Goals as goal

pub returns-clause-value : goal.returns-clause-value
returns-clause-value c =
    let i = c.self.inside in
    let digits = c.put_digits.new.digits in
    let long : length digits ≡ 2 * length c.args.bytes.now = ap (λ (l : List ℕ). length l) c.put_digits.ensures ∙ length-encode_with lower_digits c.args.bytes.now in
    put_behind i.len (2 * length c.args.bytes.now) i.bytes digits (omega (arith, c.self.invariant)) long
    ∙ ap (λ (l : List ℕ). l ++ digits) c.self.view_is
    ∙ ap (λ (l : List ℕ). l ++ digits) c.push.ensures
    ∙ append_assoc c.args.self.now (32 ∷ []) digits
    ∙ ap (λ (l : List ℕ). c.args.self.now ++ 32 ∷ l) c.put_digits.ensures

pub returns-clause-long : goal.returns-clause-long
returns-clause-long c =
    let bytes = c.args.bytes.now in
    omega (arith, ap (λ (l : List ℕ). length l) (returns-clause-value c), length-append c.args.self.now (32 ∷ hex_word bytes), length-encode_with lower_digits bytes)
