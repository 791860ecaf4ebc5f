-- Words call the program for one thing at most.
use Rattle.std.proofs.Common.{◌≡◌, ℕ, List, [], length, get_or, Option, Some, None, IfSome, IfNone, ap, ap₂, sym, ◌∙◌, arith, decimal, refl}
use Rattle.script_text.specs.Programs.{program_words, AreInRange}
use Rattle.script_text.specs.declared.{program.Words.Words, program.Words.TheVariants.Replay, program.Words.TheVariants.Generate}
use Rattle.script_words.proofs.Numbers.{same_number}

one_call : (v w : Words) → AreInRange v → AreInRange w → program_words v ≡ program_words w → v ≡ w
one_call Replay Replay h k e = refl
one_call Replay (Generate seed count) h k e = absurd (omega (arith, ap (λ (ws : List (List ℕ)). length ws) e))
one_call (Generate seed count) Replay h k e = absurd (omega (arith, ap (λ (ws : List (List ℕ)). length ws) e))
one_call (Generate seed count) (Generate s c) h k e =
    let first : decimal seed ≡ decimal s = ap (λ (ws : List (List ℕ)). get_or ws 1 []) e in
    let second : decimal count ≡ decimal c = ap (λ (ws : List (List ℕ)). get_or ws 2 []) e in
    ap₂ (λ a b. Generate a b) (same_number (decimal seed) seed s (omega (arith, h.0)) (omega (arith, k.0)) refl first)
    (same_number (decimal count) count c (omega (arith, h.1)) (omega (arith, k.1)) refl second)

-- what is found is the only thing
pub only_call : (r : Option Words) (ws : List (List ℕ)) → IfSome r (λ w. AreInRange w × (ws ≡ program_words w)) → IfNone r ((w : Words) → AreInRange w → ws ≡ program_words w → ⊥)
    → (w : Words) → AreInRange w → ws ≡ program_words w → r ≡ Some w
only_call None ws found none w h e = absurd (none w h e)
only_call (Some v) ws found none w h e = ap (λ x. Some x) (one_call v w found.0 h (sym found.1 ∙ e))
