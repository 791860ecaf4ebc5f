-- There is at most one proof that cells hold the rows that are kept, and at most one of what follows from it.
use Rattle.std.proofs.Common.{ℕ, Option}
use Rattle.std.proofs.Props.{props}
use Rattle.nv_store.specs.Slot.{Held}
use Rattle.row_node.specs.Kept.{IsFilled, filled_prop}
use Rattle.row_node.specs.Tables.{Table, Filled}

module _ {S X : Type 0} (t : Table S X) (m : S) (held : ℕ → Option Held) where
  pub filled_one : IsProp (Filled t m held)
  filled_one =
      let each : (k : ℕ) → IsProp (IsFilled (t.reads k) (t.kept m held k) (held k)) = λ k. filled_prop (t.reads k) (t.one_way k) (t.kept m held k) (held k) in
      hlevel (each, props)
