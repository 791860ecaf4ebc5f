use Rattle.std.proofs.Common.{◌≡◌, ◌≢◌, ◌≤◌, ◌/◌, List, ℕ, [], ◌∷◌, length, take, Option, Some, None, refl, ◌∙◌, arith, inl, inr, sym}
use Rattle.std.specs.Prelude.{IfNone}
use Rattle.std.proofs.lemmas.Bool.Decides.{Decides-eqb, not_from_Decides}
use Rattle.std.proofs.lemmas.Slice.Eq.{slice_eq-Decides}
use Rattle.std.proofs.lemmas.List.{length-take-le}
use Rattle.bench_base.specs.Ranges.{IsGiven}
use Rattle.hex.specs.Hex.{encode_lower}
use Rattle.bench_base.specs.Table.{IsBytes}
use Rattle.script_words.specs.Words.{given_word}
use Rattle.script_words.proofs.HexDigits.{no_given}
use Rattle.script_words.proofs.values.GivenWord.read.Goals as goal

pub returns-then-count-lt1-clause-none : goal.returns-then-count-lt1-clause-none
returns-then-count-lt1-clause-none c = λ g fits.
    let dash : c.args.word.now ≢ 45 ∷ [] = not_from_Decides _ (slice_eq-Decides Decides-eqb c.args.word.now (45 ∷ []) _ (rw c.as_slice.ensures at c.eq.ensures)) c.if-eq.false in
    no_given c.args.word.now _ dash refl g (λ some long. elim c.then-count-lt1.either [
      | inl less ↦ absurd (omega (arith, some, long, less))
      | inr more ↦ absurd (omega (arith, fits.0, long, more))
    ])

given_none : (r : Option (List ℕ)) (w room : List ℕ) (count : ℕ) → w ≢ 45 ∷ [] → count ≡ length w / 2 → count ≤ 256 → length room ≡ 256
    → IfNone r ((bytes : List ℕ) → length bytes ≡ length (take count room) → IsBytes bytes → w ≢ encode_lower bytes) → IfNone r ((g : List ℕ) → IsGiven g → w ≢ given_word g)
given_none (Some x) w room count dash half most whole h = tt
given_none None w room count dash half most whole h =
    let long : length (take count room) ≡ count = length-take-le count room (omega (arith, most, whole)) in
    λ g fits. no_given w count dash half g (λ some is. h g (is ∙ sym long) fits.1)

pub returns-clause-none : goal.returns-clause-none
returns-clause-none c =
    let dash : c.args.word.now ≢ 45 ∷ [] = not_from_Decides _ (slice_eq-Decides Decides-eqb c.args.word.now (45 ∷ []) _ (rw c.as_slice.ensures at c.eq.ensures)) c.if-eq.false in
    given_none _ c.args.word.now _ (length c.args.word.now / 2) dash refl c.if-count-gt256.false refl c.read_bytes.ensures.none
