use Rattle.std.proofs.Common.{◌≡◌, length}
use Rattle.nv_store.specs.RoomView.{kept_in}
use Rattle.host_jobs.specs.declared.sizes.TheConstants.{HOST_CELLS}
use Rattle.host_node.specs.Boots.{JobsRead}
use Rattle.host_node.proofs.boot.read_jobs.Given as goal

abbrev pub invariant-loop-cell : goal.invariant-loop-cell
invariant-loop-cell l = record { read : JobsRead (kept_in l.room) l.cell l.rows; long : length l.rows ≡ HOST_CELLS }
