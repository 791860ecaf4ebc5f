-- The draws: a sequence of numbers, each computed from the one before it.
use Rattle.std.specs.Prelude.{ℕ, ◌+◌, ◌*◌, ◌/◌, ◌%◌, ◌^◌}
use Rattle.std.specs.Fn.{iterate}

-- the number after x
unfoldable pub following : ℕ → ℕ
following x = (x * 1664525 + 1013904223) % 2 ^ 32

-- the number after so many draws from x
abbrev pub number_after : ℕ → ℕ → ℕ
number_after k x = iterate following k x

-- what a draw gives, by the number that it leaves
abbrev pub upper : ℕ → ℕ
upper x = x / 65536

-- the first draw from x, the second, and so on
abbrev pub draw : ℕ → ℕ → ℕ
draw k x = upper (number_after k x)
