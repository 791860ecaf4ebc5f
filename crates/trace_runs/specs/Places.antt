-- Places of prints that can be reached.
use Rattle.std.specs.Prelude.{◌≡◌, ℕ, ◌<◌, ◌≤◌, List, [], ◌∷◌, ◌++◌, ◌⊎◌, drop, take, length}
use Rattle.trace_runs.specs.Prints.{IsPart, Took}
use Rattle.trace_runs.specs.declared.{imprint.Printed.Printed, places.Places.Places}

-- the place is among these
abbrev pub Has : List Places → ℕ → Type 0
Has [] t = ⊥
Has (p ∷ all) t = ((p.first ≤ t) × (t ≤ p.last)) ⊎ Has all t

-- each is some places of so many bytes
abbrev pub AreInside : ℕ → List Places → Type 0
AreInside size [] = Unit {0}
AreInside size (p ∷ all) = (p.first ≤ p.last) × (p.last ≤ size) × AreInside size all

-- this piece is between the two places of the prints
pub record Between (prints piece : List ℕ) (s t : ℕ) : Type 0 where
  pub inside : t ≤ length prints
  pub is : drop s prints ≡ piece ++ drop t prints

-- what the prints have of a mark is between the two places
pub record Leads (taken : Printed) (mark prints : List ℕ) (s t : ℕ) : Type 0 where
  pub piece : List ℕ
  pub took : Took taken mark piece
  pub between : Between prints piece s t

-- so many of the bytes are the longest part of the line of the digits with which they begin
pub record IsLongest (digits bytes : List ℕ) (n : ℕ) : Type 0 where
  pub inside : n ≤ length bytes
  pub each : (k : ℕ) → k ≤ n → IsPart digits (take k bytes)
  pub none : (piece more : List ℕ) → bytes ≡ piece ++ more → IsPart digits piece → length piece ≤ n

-- a part of the line of the digits leads from the places before the next one to each place after this one up to the last, and to none after that
pub record IsLast (digits prints : List ℕ) (first next this last : ℕ) : Type 0 where
  pub inside : last ≤ length prints
  pub each : (t : ℕ) → this < t → t ≤ last → (s : ℕ) × (first ≤ s) × (s < next) × (piece : List ℕ) × IsPart digits piece × Between prints piece s t
  pub none : (s t : ℕ) (piece : List ℕ) → first ≤ s → s < next → IsPart digits piece → Between prints piece s t → t ≤ last

-- these places were added to those: the ones to which the mark leads from the places before the next one
pub record Adds (taken : Printed) (mark prints : List ℕ) (first next : ℕ) (old new : List Places) : Type 0 where
  pub inside : AreInside (length prints) old → AreInside (length prints) new
  pub kept : (t : ℕ) → Has old t → Has new t
  pub sound : (t : ℕ) → Has new t → Has old t ⊎ ((s : ℕ) × (first ≤ s) × (s < next) × Leads taken mark prints s t)
  pub complete : (s t : ℕ) → first ≤ s → s < next → Leads taken mark prints s t → Has new t

-- the places to which the mark leads from these
pub record AreAfter (taken : Printed) (mark prints : List ℕ) (old new : List Places) : Type 0 where
  pub inside : AreInside (length prints) new
  pub sound : (t : ℕ) → Has new t → (s : ℕ) × Has old s × Leads taken mark prints s t
  pub complete : (s t : ℕ) → Has old s → Leads taken mark prints s t → Has new t
