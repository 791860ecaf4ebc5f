use Rattle.std.proofs.Common.{sym, arith}
use Rattle.std.proofs.lemmas.List.{length-take-le, take_all}
use Rattle.trace_bench.proofs.rates.first_of.Goals as goal

pub slice_bounds-result-end : goal.slice_bounds-result-end
slice_bounds-result-end c = sym (length-take-le 65537 c.args.left.now (omega (arith, c.if-left-gt-MOST_BYTES.true)))

pub returns-else-left-gt-MOST_BYTES : goal.returns-else-left-gt-MOST_BYTES
returns-else-left-gt-MOST_BYTES c = sym (take_all 65537 c.args.left.now (omega (arith, c.if-left-gt-MOST_BYTES.false)))
