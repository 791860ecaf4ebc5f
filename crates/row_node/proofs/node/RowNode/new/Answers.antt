use Rattle.std.proofs.Common.{rules}
use Rattle.nv_store.specs.RoomView.{kept_in}
use Rattle.row_node.proofs.node.RowNode.new.Goals as goal

pub invariant_of-result : goal.invariant_of-result
invariant_of-result g c =
    let none = c.clear-2.ensures (kept_in (g.R.Memory.Cells.room c.clear.new.self)) c.clear.ensures.blank in
    record {
      many = search rules;
      filled = none.filled;
      follows = none.follows;
      size = λ on. cc;
      runs = λ on. cc;
    }
