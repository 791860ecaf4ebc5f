use Rattle.std.proofs.Common.{◌≡◌, ℕ, ◌<◌, length, get_or, None}
use Rattle.centre_ledger.proofs.accounts.plain_rows.Given as goal

abbrev pub invariant-loop-place : goal.invariant-loop-place
invariant-loop-place l =
    (length l.rows ≡ 8) × ((k : ℕ) → k < l.place → get_or l.rows k None ≡ get_or l.devices k None)
