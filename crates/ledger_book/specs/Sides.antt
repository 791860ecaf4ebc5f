-- Which amounts are summed.
use Rattle.std.specs.Prelude.{ℕ}
use Rattle.bench_base.specs.declared.words.Verdict.{Verdict}
use Rattle.psd_wire.specs.declared.message.Request.{Request}
use Rattle.ledger_terms.specs.Sums.{adds, takes}
use Rattle.ledger_book.specs.declared.{totals.Side.Side, totals.Side.TheVariants.Buys, totals.Side.TheVariants.Returns}

-- buys are what granted resets add, returns what granted refunds and withdrawals take off
abbrev pub amount_of : Side → Verdict → Request → ℕ
amount_of Buys = adds
amount_of Returns = takes
