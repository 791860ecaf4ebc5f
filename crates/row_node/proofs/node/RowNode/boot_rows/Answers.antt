use Rattle.std.proofs.Common.{◌∙◌}
use Rattle.nv_store.specs.RoomView.{kept_in}
use Rattle.row_node.proofs.node.RowNode.boot_rows.Goals as goal

pub invariant_of-self-in-Err : goal.invariant_of-self-in-Err
invariant_of-self-in-Err g c =
    let none = c.clear-in-Err.ensures (kept_in (g.R.Memory.Cells.room c.clear.new.self)) c.clear.ensures.blank in
    record {
      many = c.clear.ensures.cells ∙ c.in-Err.ensures.many;
      filled = none.filled;
      follows = none.follows;
      size = λ on. let off = c.requires.off in cc;
      runs = λ on. let off = c.requires.off in cc;
    }

pub invariant_of-self : goal.invariant_of-self
invariant_of-self g c =
    let e = c.in-Ok.ensures in
    record {
      many = e.many;
      filled = e.found.keeps.filled;
      follows = e.found.keeps.follows;
      size = λ on. e.exact;
      runs = λ on. e.runs;
    }

pub returns-in-Ok-clause-starts : goal.returns-in-Ok-clause-starts
returns-in-Ok-clause-starts g c = g.met.R.Rows.laws.sound c.mount_rows.new.rows (kept_in (g.R.Memory.Cells.room c.mount_rows.new.cells)) c.in-Ok.ensures.found
