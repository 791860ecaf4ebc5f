use Rattle.std.proofs.Common.{◌+◌, ◌*◌, arith}
use Rattle.nv_store.specs.Slot.{slots_at}
use Rattle.nv_store.specs.Cells.{Known}
use Rattle.nv_store.proofs.TableStep.{known_more}
use Rattle.nv_store.proofs.cells.read_cell.Goals as goal

pub returns-in-Some-clause-known : goal.returns-in-Some-clause-known
returns-in-Some-clause-known g c tells clear known =
    let L = g.row.L in
    let cell = c.args.cell in
    let head = c.in-Some.head in
    let image = g.N.Nv.content c.args.nv.now in
    let own : Known 2 (slots_at L (cell * (2 * (5 + L))) image) head.count head.place head.gates c.find_cell.new.kept = rw c.in-Some.is at (c.in_ok-find_cell.ensures.known tells) in
    known_more L 2 cell c.args.heads.now.items c.args.payloads.now.items head c.find_cell.new.kept image c.requires.inside (omega (arith, c.requires.inside, c.requires.same)) known own
