use Rattle.std.proofs.Common.{sym, ◌∙◌, ap}
use Rattle.verifier.specs.Index.{cell_in}
use Rattle.verifier_node.specs.declared.rows.VerifierRows.{VerifierRows}
use Rattle.bench_base.specs.Scans.{block_of}
use Rattle.verifier.proofs.Cells.{cell_found, blocks_begin}
use Rattle.row_node.specs.Knows.{keeps}
use Rattle.row_node.specs.NodeView.{held_in, seen_in}
use Rattle.verifier_node.proofs.Takes.{rows_sound}
use Rattle.verifier_node.proofs.lookups.spot.Goals as goal

pub scan_of-accepted-requires-clause-from : goal.scan_of-accepted-requires-clause-from
scan_of-accepted-requires-clause-from g c =
    let k = c.args.node.now in
    let d = c.args.device in
    let b = block_of c.args.piece in
    let found = cell_found (seen_in k) (rows_sound k.rows (held_in k) (keeps k)) d b c.in-Some.cell (sym (k.follows.indexed.cells d b) ∙ ap (λ (m : VerifierRows). cell_in m.index d b) (sym c.rows.ensures) ∙ sym c.in-Some.ensures) in
    blocks_begin (seen_in k) (rows_sound k.rows (held_in k) (keeps k)) c.in-Some.cell d b found.1

pub scan_of-accepted-requires-clause-inside : goal.scan_of-accepted-requires-clause-inside
scan_of-accepted-requires-clause-inside g c =
    let k = c.args.node.now in
    let d = c.args.device in
    let b = block_of c.args.piece in
    (cell_found (seen_in k) (rows_sound k.rows (held_in k) (keeps k)) d b c.in-Some.cell (sym (k.follows.indexed.cells d b) ∙ ap (λ (m : VerifierRows). cell_in m.index d b) (sym c.rows.ensures) ∙ sym c.in-Some.ensures)).0
