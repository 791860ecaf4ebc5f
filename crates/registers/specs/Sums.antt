-- The sums of a device, and their three moves.
use Rattle.std.specs.Prelude.{ℕ, ◌+◌, ◌-◌, ◌≤◌, Result, Ok, Err, nat_lt, if◌then◌else◌}

-- the most that the three sums are together
abbrev pub limit : ℕ
limit = 1000000000000

-- what was spent, what is left, what was given back, in mills; and how many pieces were marked
pub record Sums : Type 0 where
  pub ascending : ℕ
  pub descending : ℕ
  pub refunded : ℕ
  pub pieces : ℕ

-- all three together
abbrev pub total : Sums → ℕ
total s = s.ascending + s.descending + s.refunded

-- what holds of the registers of every device
pub record Sound (s : Sums) : Type 0 where
  pub within : total s ≤ limit
  pub pieces : s.pieces ≤ s.ascending

-- the sums of a new device
abbrev pub zeros : Sums
zeros = record { ascending = 0; descending = 0; refunded = 0; pieces = 0 }

-- a debit of n moves it from what is left to what was spent, for one piece more
abbrev pub debited : Sums → ℕ → Sums
debited s n = record { ascending = s.ascending + n; descending = s.descending - n; refunded = s.refunded; pieces = s.pieces + 1 }

-- a load of n adds it to what is left
abbrev pub loaded : Sums → ℕ → Sums
loaded s n = record { ascending = s.ascending; descending = s.descending + n; refunded = s.refunded; pieces = s.pieces }

-- all that is left is given back
abbrev pub cleared : Sums → Sums
cleared s = record { ascending = s.ascending; descending = 0; refunded = s.refunded + s.descending; pieces = s.pieces }

-- a debit, or what is left where that is less
abbrev pub debit_answer : Sums → ℕ → Result Sums ℕ
debit_answer s n = if nat_lt s.descending n then Err s.descending else Ok (debited s n)

-- a load, or the sum of all where more would pass the limit
abbrev pub load_answer : Sums → ℕ → Result Sums ℕ
load_answer s n = if nat_lt limit (total s + n) then Err (total s) else Ok (loaded s n)
