-- Marks that were seen, each once: which they are, and what is recorded of each.
use Rattle.std.specs.Prelude.{◌≡◌, ◌≢◌, ◌⊎◌, ◌↔◌, ℕ, List, map, false, not, IsTrue, Option, Some, None, option_map}
use Rattle.std.specs.List.{filter}
use Rattle.std.specs.Ordering.{nat_cmp}
use Rattle.std.specs.Cmp.Lexicographic.{slice_cmp}
use Rattle.std.specs.BTreeMap as tree
use Rattle.trace_seen.specs.declared.{marks.Missing.Missing, marks.Seen.Seen, marks.SeenMarks.SeenMarks}

-- what is recorded of a mark, if it was seen
abbrev pub seen_as : SeenMarks → List ℕ → Option Seen
seen_as s mark = tree.get (slice_cmp nat_cmp) s.marks mark

abbrev pub line_of : List ℕ × Seen → List ℕ × ℕ
line_of e = (e.0, e.1.line)

-- the marks that were seen, each with the first line that contains it
abbrev pub asked : SeenMarks → List (List ℕ × ℕ)
asked s = map line_of s.marks.entries

-- the line that has the mark first
abbrev pub first_line : Option Seen → Option ℕ
first_line o = option_map (λ x. x.line) o

-- EACH MARK that was seen is recorded as debited if and only if P holds of it
abbrev pub Tells : (List ℕ → Type 0) → SeenMarks → Type 0
Tells P s = (mark : List ℕ) (x : Seen) → seen_as s mark ≡ Some x → IsTrue x.is_debited ↔ P mark

-- == a mark more ==

-- as it is recorded already, or as one that is not debited, of this line
abbrev pub added : ℕ → Option Seen → Seen
added line None = record { line = line; is_debited = false }
added line (Some x) = x

pub record Adds (mark : List ℕ) (line : ℕ) (old new : SeenMarks) : Type 0 where
  pub here : seen_as new mark ≡ Some (added line (seen_as old mark))
  pub others : (q : List ℕ) → mark ≢ q → seen_as new q ≡ seen_as old q

-- == marks that are recorded as debited ==

-- what is recorded of a mark that had this record before, and is now recorded as debited if S holds
abbrev pub TicksAt : Type 0 → Option Seen → Option Seen → Type 0
TicksAt S None new = new ≡ None
TicksAt S (Some x) new = (y : Seen) × (new ≡ Some y) × (y.line ≡ x.line) × (IsTrue y.is_debited ↔ (IsTrue x.is_debited ⊎ S))

-- the marks with S are recorded as debited too, if they were seen; and the same marks were seen, each at its line
pub record Ticks (S : List ℕ → Type 0) (old new : SeenMarks) : Type 0 where
  pub asked_same : asked new ≡ asked old
  pub each : (q : List ℕ) → TicksAt (S q) (seen_as old q) (seen_as new q)

-- == what is missing ==

abbrev pub missing_of : List ℕ × Seen → Missing
missing_of e = record { line = e.1.line; mark = e.0 }

-- those that are not recorded as debited
abbrev pub missing_among : List (List ℕ × Seen) → List Missing
missing_among es = map missing_of (filter (λ (e : List ℕ × Seen). not e.1.is_debited) es)

abbrev pub missing_in : SeenMarks → List Missing
missing_in s = missing_among s.marks.entries
