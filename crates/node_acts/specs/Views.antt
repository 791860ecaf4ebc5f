-- A node, as the bench sees it: its record after the commits that count, its open commit, and whether it is on.
use Rattle.std.specs.Prelude.{ℕ, ◌+◌, Bool, true, false, Option, Some, None, if◌then◌else◌, ◌==◌}

-- what the records S of a kind of nodes count, and how a change X goes into one
pub record Counting (S X : Type 0) : Type 0 where
  -- how many commits the node has
  pub count : S → ℕ
  -- whether the cell of the change has as many commits as can be counted
  pub is_worn : S → X → Bool
  -- the record after the change
  pub after : S → X → S

pub record View (S : Type 0) : Type 0 where
  -- its record after the commits that count
  pub state : S
  -- its record if its open commit counts too, where it has one
  pub next : Option S
  pub on : Bool

-- == what becomes of it ==

-- a commit was made that leads to this record
abbrev pub committed : {S : Type 0} → S → View S → View S
committed s v = record v { state = s }

-- a commit failed that would have led to this record
abbrev pub torn : {S : Type 0} → S → View S → View S
torn s v = record v { next = Some s; on = false }

abbrev pub stopped : {S : Type 0} → View S → View S
stopped v = record v { on = false }

-- it came on with this record
abbrev pub started : {S : Type 0} → S → View S
started s = record { state = s; next = None; on = true }

module _ {S X : Type 0} (n : Counting S X) where
  abbrev pub up_with : Option S → ℕ → View S → View S
  up_with None k v = started v.state
  up_with (Some s) k v = if k == n.count v.state + 1 then started s else started v.state

  -- where it comes on, its open commit counts if and only if it shows one commit more
  abbrev pub up : ℕ → View S → View S
  up k v = up_with v.next k v
