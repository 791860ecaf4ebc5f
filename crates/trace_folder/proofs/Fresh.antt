-- The cell of a change that is in doubt has room for it.
use Rattle.std.proofs.Common.{◌≡◌, ℕ, ◌<◌, ◌≤◌, false, Option, Some, IfSome, subst, ◌==◌, arith}
use Rattle.bench_base.specs.declared.sizes.TheConstants.{MOST_COMMITS}
use Rattle.node_acts.specs.RowList.{RowList, row_at, commits_at, is_worn}
use Rattle.node_acts.specs.Views.{Counting}
use Rattle.trace_nodes.specs.TracedNodes.{CanTake}

less : (n : ℕ) → n ≤ MOST_COMMITS → (n == MOST_COMMITS) ≡ false → n < MOST_COMMITS
less n few fresh = grind (arith, few, fresh)

-- of the cell of a change, by what is seen of the cell
pub fresh_held : {R : Type 0} (s : RowList R) (place : ℕ) (o : Option (ℕ × R)) → row_at s place ≡ o → ((k : ℕ) → commits_at (row_at s k) ≤ MOST_COMMITS)
    → is_worn s place ≡ false → commits_at o < MOST_COMMITS
fresh_held {R} s place o is few room = subst (λ (p : Option (ℕ × R)). commits_at p < MOST_COMMITS) is (less (commits_at (row_at s place)) (few place) room)

pub room_in : {S X : Type 0} (n : Counting S X) (IsFit : S → X → Type 0) (s : S) (o : Option X) (x : X) → IfSome o (CanTake n IsFit s) → o ≡ Some x → n.is_worn s x ≡ false
room_in {S} {X} n IsFit s o x takes is = taken (subst (λ (p : Option X). IfSome p (CanTake n IsFit s)) is takes)
  where
    taken : CanTake n IsFit s x → n.is_worn s x ≡ false
    taken can = can.room
