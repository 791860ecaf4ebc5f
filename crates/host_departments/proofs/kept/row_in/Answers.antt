use Rattle.std.proofs.Common.{sym, arith}
use Rattle.host_departments.specs.Payload.{decoded}
use Rattle.row_store.proofs.Kept.{none_at, some_at}
use Rattle.host_departments.proofs.Keeping.{row_past}
use Rattle.host_departments.proofs.kept.row_in.Goals as goal

pub returns-then-cell-cells : goal.returns-then-cell-cells
returns-then-cell-cells c = sym (row_past c.args.room.now c.args.cell (omega (arith, c.requires.all, c.if-cell-cells.true)))

pub returns-in-None : goal.returns-in-None
returns-in-None c = none_at decoded _ _ c.requires.filled c.args.cell (omega (arith, c.requires.all, c.if-cell-cells.false)) c.in-None.ensures.payload

pub returns-in-Some : goal.returns-in-Some
returns-in-Some c = some_at decoded _ _ c.requires.filled c.args.cell (omega (arith, c.requires.all, c.if-cell-cells.false)) c.in-Some.payload.now c.read_row.result c.read_row.ensures c.in-Some.ensures.payload
