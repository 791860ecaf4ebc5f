use Rattle.std.proofs.Common.{◌∙◌}
use Rattle.bench_base.specs.Table.{number}
use Rattle.centre_ledger.proofs.Fields.{buys_four, returns_four, buys_eight, returns_eight}
use Rattle.centre_ledger.proofs.payload.sums_at.Goals as goal

pub returns-then-version-eq1-clause-buys : goal.returns-then-version-eq1-clause-buys
unfolding number
returns-then-version-eq1-clause-buys c = buys_four _ _ c.args.payload.now c.if-version-eq1.true (c.from.ensures ∙ c.u32_at.ensures)

pub returns-then-version-eq1-clause-returns : goal.returns-then-version-eq1-clause-returns
unfolding number
returns-then-version-eq1-clause-returns c =
    returns_four _ _ c.args.payload.now c.if-version-eq1.true (c.from-then-version-eq1.ensures ∙ c.u32_at-then-version-eq1.ensures)

pub returns-else-version-eq1-clause-buys : goal.returns-else-version-eq1-clause-buys
unfolding number
returns-else-version-eq1-clause-buys c = buys_eight _ _ c.args.payload.now c.if-version-eq1.false c.u64_at.ensures

pub returns-else-version-eq1-clause-returns : goal.returns-else-version-eq1-clause-returns
unfolding number
returns-else-version-eq1-clause-returns c = returns_eight _ _ c.args.payload.now c.if-version-eq1.false c.u64_at-else-version-eq1.ensures
