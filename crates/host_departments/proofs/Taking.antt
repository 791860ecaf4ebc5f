-- What is left of a quota.
use Rattle.std.proofs.Common.{◌≡◌, ◌+◌, ◌≤◌, ℕ, Bool, false, Option, Some, None, sym, subst, arith, true≢false}
use Rattle.std.specs.Prelude.{nat_lt, IsSome, IfSome}
use Rattle.std.proofs.lemmas.Bool.Decides.{nat_tests}
use Rattle.host_departments.specs.Moves.{Either}
use Rattle.host_departments.specs.Rows.{or_zero}

-- what is left and what was spent is the quota
pub limit_is : (o : Option ℕ) (left spent : ℕ) → IsSome o → IfSome o (λ q. left + spent ≡ q) → left + spent ≡ or_zero o
limit_is None left spent some is = absurd (true≢false (sym some))
limit_is (Some q) left spent some is = is

pub no_less : (a b : ℕ) → b ≤ a → nat_lt a b ≡ false
no_less a b le = grind (arith, nat_tests)

-- where the postage is not above it
pub not_above : (P Q : Type 0) (left p : ℕ) → p ≤ left → Q → Either (nat_lt left p) P Q
not_above P Q left p le q = subst (λ (b : Bool). Either b P Q) (sym (no_less left p le)) q
