use Rattle.nv_store.specs.RoomView.{kept_in}
use Rattle.row_store.specs.Seen.{AllRead}
use Rattle.row_store.proofs.boot.all_read.Given as goal

abbrev pub invariant-loop-cell : goal.invariant-loop-cell
invariant-loop-cell g l = record { read : AllRead g.W.Rows.decoded l.cell (kept_in l.room) }
