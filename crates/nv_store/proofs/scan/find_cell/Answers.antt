use Rattle.std.proofs.Common.{ℕ, ◌+◌, ◌*◌, List, sym, ◌∙◌, ap}
use Rattle.nv_model.specs.Bytes.{range}
use Rattle.nv_model.proofs.Runs.{rests_twice}
use Rattle.nv_store.specs.Slot.{slots_at}
use Rattle.nv_store.proofs.Fronts.{payload_at}
use Rattle.nv_store.proofs.Find.{scanned_reads, scanned_known}
use Rattle.nv_store.proofs.scan.find_cell.Goals as goal

pub returns-then-is_mixed-clause-mixed : goal.returns-then-is_mixed-clause-mixed
returns-then-is_mixed-clause-mixed g c tells =
    let slots = slots_at g.row.L c.args.at (g.N.Nv.content c.args.nv.now) in
    let scan = c.in_ok-scan.scan in
    c.is_mixed.ensures.mixed c.if-is_mixed.true slots (scanned_reads c.args.slots slots scan.head.count scan.head.place scan.head.gates scan.counts (c.in_ok-scan.ensures.scanned tells))

pub returns-clause-rests : goal.returns-clause-rests
returns-clause-rests g c tells =
    rests_twice (g.met.N.Nv.nested c.scan_slots.new.nv tells) (g.met.N.Nv.nested c.read_payload.new.nv tells) (c.scan_slots.ensures.rests tells) (c.read_payload.ensures.rests tells)

pub returns-clause-known : goal.returns-clause-known
returns-clause-known g c tells =
    let L = g.row.L in
    let image = g.N.Nv.content c.args.nv.now in
    let slots = slots_at L c.args.at image in
    let scan = c.in_ok-scan.scan in
    let head = scan.head in
    let from = c.args.at + head.place * (5 + L) in
    let scanned = c.in_ok-scan.ensures.scanned tells in
    let clear = c.is_mixed.ensures.clear c.if-is_mixed.false slots (scanned_reads c.args.slots slots head.count head.place head.gates scan.counts scanned) in
    scanned_known c.args.slots slots head.count head.place head.gates c.read_payload.new.kept scan.counts scanned clear
    (λ held some is. payload_at L from image held is ∙ ap (λ (i : List ℕ). range i (from + 5) L) (sym (c.scan_slots.ensures.rests tells).same) ∙ sym (c.in_ok-read_payload.ensures.payload tells some))
