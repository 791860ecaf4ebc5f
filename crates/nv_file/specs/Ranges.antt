-- Ranges of a file.
use Rattle.std.specs.Prelude.{ℕ, ◌||◌, Bool, false, min, max, nat_lt, if◌then◌else◌, Option, Some, None}

-- a range, by its first place and the place after it
abbrev pub Range : Type 0
Range = ℕ × ℕ

-- whether places lie between two ranges
abbrev pub are_apart : Range → Range → Bool
are_apart a b = nat_lt a.1 b.0 || nat_lt b.1 a.0

-- whether a range is to be written that lies apart from what isn't synced: then that is synced before
abbrev pub leaves_a_gap : Option Range → Range → Bool
leaves_a_gap None new = false
leaves_a_gap (Some old) new = are_apart old new

-- what isn't synced once a range was written after another
abbrev pub joined : Option Range → Range → Range
joined None new = new
joined (Some old) new = if are_apart old new then new else (min old.0 new.0, max old.1 new.1)
