-- What a table of rows counts, by what its cells hold.
use Rattle.std.proofs.Common.{◌≡◌, ℕ, ◌<◌, Option, Bool, true, false, refl, sym, ◌∙◌, arith}
use Rattle.std.proofs.lemmas.Bool.{false_from_ne_true}
use Rattle.bench_base.specs.declared.sizes.TheConstants.{MOST_COMMITS}
use Rattle.nv_store.specs.Slot.{Held}
use Rattle.nv_store.specs.Store.{count_of}
use Rattle.node_acts.specs.RowList.{RowList, row_at, commits_at, is_worn}
use Rattle.node_acts.specs.RowLaws.{worn_is}
use Rattle.row_node.specs.Kept.{seen_count}
use Rattle.row_node.specs.Tables.{Table, Keeps, seen_of}

module _ {S X : Type 0} {t : Table S X} {m : S} {held : ℕ → Option Held} (keeps : Keeps t m held) (cell : ℕ) (inside : cell < t.cells) where
  abbrev seen : RowList t.Row
  seen = seen_of t m held

  count_here : commits_at (row_at seen cell) ≡ count_of (held cell)
  count_here = seen_count t.cells t.reads (t.kept m held) held keeps.filled cell inside

  pub full : count_of (held cell) ≡ MOST_COMMITS → is_worn seen cell ≡ true
  full most = (worn_is seen cell).1 (count_here ∙ most)

  -- a cell is worn where it has as many commits as can be counted
  pub worn_by : (r : Bool) → (r ≡ true → count_of (held cell) ≡ MOST_COMMITS) → (r ≡ false → count_of (held cell) < MOST_COMMITS) → r ≡ is_worn seen cell
  worn_by true most less = sym (full (most refl))
  worn_by false most less = sym (false_from_ne_true (is_worn seen cell) (λ worn. omega (arith, less refl, count_here, (worn_is seen cell).0 worn)))
