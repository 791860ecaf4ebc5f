-- The cells that hold jobs.
use Rattle.std.proofs.Common.{◌≡◌, ℕ, ◌+◌, ◌-◌, ◌%◌, ◌<◌, ◌≤◌, arith}
use Rattle.std.proofs.Math.Nat.{mod-lt}
use Rattle.bench_base.specs.Jobs.{cell_of}

pub cell_lt : (j : ℕ) → cell_of j < 1024
cell_lt j = omega (arith, mod-lt (j - 1) {m = 1024} (omega arith))

-- the last 1,024 jobs lie in cells of their own
pub cell_one : (last i j : ℕ) → 1 ≤ i → i ≤ last → last < i + 1024 → 1 ≤ j → j ≤ last → last < j + 1024 → cell_of i ≡ cell_of j → i ≡ j
cell_one last i j from most near from' most' near' same = omega arith

-- the job in the cell of the next one
pub cell_oldest : (last : ℕ) → 1024 ≤ last → cell_of (last - 1023) ≡ last % 1024
cell_oldest last le = omega arith

pub cell_next : (last : ℕ) → cell_of (last + 1) ≡ last % 1024
cell_next last = omega arith

-- the one of the last 1,024 jobs that lies in the cell of an earlier one
pub record Later (j last : ℕ) : Type 0 where
  pub job : ℕ
  pub from : 1 ≤ job
  pub most : job ≤ last
  pub near : last < job + 1024
  pub same : cell_of job ≡ cell_of j

pub later : (j last : ℕ) → 1 ≤ j → j ≤ last → Later j last
later j last from most = record {
  job = last - (last - j) % 1024;
  from = omega (arith, mod-lt (last - j) {m = 1024} (omega arith));
  most = omega arith;
  near = omega (arith, mod-lt (last - j) {m = 1024} (omega arith));
  same = omega arith;
}
