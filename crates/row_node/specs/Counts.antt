-- No cell has more commits than can be counted.
use Rattle.std.proofs.Common.{◌≡◌, inl, inr, ℕ, ◌<◌, ◌≤◌, length, Option, None, false, sym, ◌∙◌, ap, subst, arith}
use Rattle.std.proofs.lemmas.Bool.{cases_eq, cases_lt}
use Rattle.std.proofs.lemmas.List.{get_or_past}
use Rattle.bench_base.specs.declared.sizes.TheConstants.{MOST_COMMITS}
use Rattle.bench_base.proofs.Facts.{few_more}
use Rattle.nv_store.specs.Slot.{Held}
use Rattle.node_acts.specs.RowList.{RowList, row_at, commits_at, is_worn, put}
use Rattle.node_acts.specs.RowLaws.{put_here, put_other}
use Rattle.row_node.specs.Kept.{seen_long, seen_count}
use Rattle.row_node.specs.Tables.{Table, seen_of}
use Rattle.row_node.specs.Boots.{Found}

-- of what a boot found
pub few_found : {S X : Type 0} (t : Table S X) (m : S) (held : ℕ → Option Held) → Found t m held → (k : ℕ)
    → commits_at (row_at (seen_of t m held) k) ≤ MOST_COMMITS
few_found t m held found k = elim (cases_lt k t.cells) [
  | inl inside ↦ subst (λ (n : ℕ). n ≤ MOST_COMMITS) (sym (seen_count t.cells t.reads (t.kept m held) held found.keeps.filled k inside)) (found.few k inside)
  | inr past ↦
      let long : length (seen_of t m held) ≡ t.cells = seen_long t.cells t.reads (t.kept m held) held in
      subst (λ (o : Option (ℕ × t.Row)). commits_at o ≤ MOST_COMMITS) (sym (get_or_past (seen_of t m held) k None (omega (arith, long, past)))) (omega arith)
]

-- and of what a commit to a cell that is not worn makes of rows
pub few_after : {R : Type 0} (s : RowList R) (cell : ℕ) (x : R) → cell < length s → ((k : ℕ) → commits_at (row_at s k) ≤ MOST_COMMITS) → is_worn s cell ≡ false
    → (k : ℕ) → commits_at (row_at (put s cell x) k) ≤ MOST_COMMITS
few_after {R} s cell x inside few fresh k = elim (cases_eq k cell) [
  | inl is ↦
      subst (λ (o : Option (ℕ × R)). commits_at o ≤ MOST_COMMITS) (sym (ap (row_at (put s cell x)) is ∙ put_here s cell x inside))
      (few_more (commits_at (row_at s cell)) (few cell) fresh)
  | inr differs ↦ subst (λ (o : Option (ℕ × R)). commits_at o ≤ MOST_COMMITS) (sym (put_other s cell x k differs)) (few k)
]
