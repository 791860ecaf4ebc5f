use Rattle.std.proofs.Common.{◌+◌, ◌≤◌, length, arith}
use Rattle.nv_store.proofs.Gates.{put_steps, open_torn, open_done}
use Rattle.nv_store.proofs.steps.open_gate.Goals as goal

pub returns-clause-steps : goal.returns-clause-steps
returns-clause-steps g c tells =
    let old = g.N.Nv.content c.args.nv.now in
    let sized = g.met.N.Nv.sized c.args.nv.now (g.N.Nv.times c.args.nv.now).moment old tells (g.met.N.Nv.content_is c.args.nv.now tells) in
    let room : c.args.at + 5 + g.row.L ≤ length old = omega (arith, sized, c.requires.room) in
    put_steps g.row.L c.put.result (c.put.ensures.puts tells) (c.put.ensures.durable tells) (open_torn g.row.L c.args.at old room c.args.count c.args.payload.now c.ranges.count.fits (c.requires.written tells))
    (open_done g.row.L c.args.at old room c.args.count c.args.payload.now c.ranges.count.fits (c.requires.written tells))
