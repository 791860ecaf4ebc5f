-- What is used of flags, of options, and of the number of a cell.
use Rattle.std.proofs.Common.{◌≡◌, ℕ, ◌<◌, ◌≤◌, Option, Some, None, true, false, ap, arith}
use Rattle.std.specs.Prelude.{nat_lt}
use Rattle.std.proofs.lemmas.Bool.Decides.{nat_tests}
use Rattle.bench_base.specs.declared.sizes.TheConstants.{FIRST_BLOCK}

pub no_pair : (d b : ℕ) → ◌≡◌ {A = Option (ℕ × ℕ)} None (Some (d, b)) → ⊥
no_pair d b h = cc

pub same_pair : (e n d b : ℕ) → ◌≡◌ {A = Option (ℕ × ℕ)} (Some (e, n)) (Some (d, b)) → (e ≡ d) × (n ≡ b)
same_pair e n d b h = let same : ◌≡◌ {A = ℕ × ℕ} (e, n) (d, b) = cc in (ap (λ (x : ℕ × ℕ). x.0) same, ap (λ (x : ℕ × ℕ). x.1) same)

-- a cell of a device, and one of a block
pub trust_low : (k : ℕ) → k < FIRST_BLOCK → nat_lt k FIRST_BLOCK ≡ true
trust_low k lt = grind (arith, nat_tests)

pub block_high : (k : ℕ) → FIRST_BLOCK ≤ k → nat_lt k FIRST_BLOCK ≡ false
block_high k le = grind (arith, nat_tests)
