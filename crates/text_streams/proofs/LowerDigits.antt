-- Lower-case hexadecimal digits in the order of their codes.
use Rattle.std.proofs.Common.{◌≡◌, ℕ, zero, suc, ◌+◌, ◌-◌, ◌≤◌, ◌<◌, refl, sym, ap, ◌∙◌, arith}
use Rattle.std.specs.Prelude.{slice_index}
use Rattle.hex.specs.Hex.{lower_digits}

pub glyph : (v : ℕ) → v < 10 → slice_index lower_digits v ≡ 48 + v
glyph zero h = refl
glyph (suc zero) h = refl
glyph (suc (suc zero)) h = refl
glyph (suc (suc (suc zero))) h = refl
glyph (suc (suc (suc (suc zero)))) h = refl
glyph (suc (suc (suc (suc (suc zero))))) h = refl
glyph (suc (suc (suc (suc (suc (suc zero)))))) h = refl
glyph (suc (suc (suc (suc (suc (suc (suc zero))))))) h = refl
glyph (suc (suc (suc (suc (suc (suc (suc (suc zero)))))))) h = refl
glyph (suc (suc (suc (suc (suc (suc (suc (suc (suc zero))))))))) h = refl
glyph (suc (suc (suc (suc (suc (suc (suc (suc (suc (suc v)))))))))) h = absurd (omega (arith, h))

letter : (v : ℕ) → v < 6 → slice_index lower_digits (10 + v) ≡ 97 + v
letter zero h = refl
letter (suc zero) h = refl
letter (suc (suc zero)) h = refl
letter (suc (suc (suc zero))) h = refl
letter (suc (suc (suc (suc zero)))) h = refl
letter (suc (suc (suc (suc (suc zero))))) h = refl
letter (suc (suc (suc (suc (suc (suc v)))))) h = absurd (omega (arith, h))

pub letter_at : (v : ℕ) → 10 ≤ v → v < 16 → slice_index lower_digits v ≡ 87 + v
letter_at v h k =
    let place : 10 + (v - 10) ≡ v = omega (arith, h) in
    let small : v - 10 < 6 = omega (arith, h, k) in
    ap (λ (n : ℕ). slice_index lower_digits n) (sym place) ∙ letter (v - 10) small ∙ omega (arith, h)
