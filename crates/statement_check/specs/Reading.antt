-- Bookkeeping: which ruling a line names.
use Rattle.std.specs.Prelude.{ℕ}
use Rattle.statement_check.specs.declared.{line.Cause.Cause, read.Ruling.Ruling, read.Ruling.TheVariants.Reset, read.Ruling.TheVariants.Refund, read.Ruling.TheVariants.Withdraw}
use Rattle.statement_check.specs.declared.line.Cause.TheVariants as causes

abbrev pub ruled : Ruling → ℕ → ℕ → Cause
ruled Reset d n = causes.Reset d n
ruled Refund d n = causes.Refund d n
ruled Withdraw d n = causes.Withdraw d n
