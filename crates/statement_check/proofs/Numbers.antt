-- Numbers of 64 bits in decimal digits.
use Rattle.std.proofs.Common.{ℕ, ◌^◌, ◌≤◌, ◌<◌, length, arith, decimal}
use Rattle.std.proofs.lemmas.Fmt.{length-decimal-le}

pub short_digits : (n : ℕ) → n < 2 ^ 64 → length (decimal n) ≤ 20
short_digits n h = length-decimal-le 20 n (omega arith) (omega (arith, h)) h
