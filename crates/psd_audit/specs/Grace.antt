-- When a device no longer franks. Days are since 1970-01-01, postage is in mills.
use lib.Signed.{lt_z}
use Rattle.std.specs.Prelude.{ℕ, ℤ, pos, ◌+ℤ◌, Bool, ◌&&◌, ◌||◌, nat_lt}

-- more than seven days past the deadline, and before that where the postage is not small
abbrev pub is_overdue : ℤ → ℤ → ℕ → Bool
is_overdue today deadline postage = lt_z (deadline +ℤ pos 7) today || (lt_z deadline today && nat_lt 1000 postage)
