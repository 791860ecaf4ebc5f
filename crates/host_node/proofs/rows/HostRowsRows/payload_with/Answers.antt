use Rattle.nv_store.specs.RoomView.{kept_in}
use Rattle.host_node.proofs.Seen.{sound_next}
use Rattle.host_node.proofs.rows.HostRowsRows.payload_with.Goals as goal

pub write_payload-requires : goal.write_payload-requires
write_payload-requires c = sound_next c.args.self.now (kept_in c.args._cells.now) c.args.row.now c.requires.keeps.filled c.requires.fits
