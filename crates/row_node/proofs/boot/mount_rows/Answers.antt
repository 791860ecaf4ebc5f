use Rattle.std.proofs.Common.{◌∙◌}
use Rattle.row_node.proofs.Booted.{none_damaged}
use Rattle.row_node.proofs.boot.mount_rows.Goals as goal

pub returns-else-read-clause-damaged : goal.returns-else-read-clause-damaged
returns-else-read-clause-damaged g c tells is =
    none_damaged g.R.Rows.table g.N.Nv (g.R.Memory.Cells.room c.mount.new.self) c.mount.new.nv (c.mount.ensures.cells ∙ c.requires.many) c.in-Ok.ensures.runs tells c.if-read.ensures
