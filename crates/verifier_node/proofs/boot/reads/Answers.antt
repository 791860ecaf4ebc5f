use Rattle.std.proofs.Common.{arith, refl}
use Rattle.verifier_node.proofs.Reading.{reads_trust, reads_block, behind_eight}
use Rattle.verifier_node.proofs.boot.reads.Goals as goal

pub overflow_add-cell : goal.overflow_add-cell
overflow_add-cell c = omega arith

pub returns-in-Some : goal.returns-in-Some
returns-in-Some c =
    let device = c.in-Some.ensures.valid.0 refl in
    reads_trust c.args.cell c.in-Some.device c.args.payload.now _ c.in-Some.ensures.value (omega (arith, device)) c.read_trust.ensures

pub returns-in-None : goal.returns-in-None
returns-in-None c = reads_block c.args.cell c.args.payload.now c.read_block.result _ c.is_some.ensures (behind_eight c.args.cell _ c.in-None.is c.new.ensures.valid) c.read_block.ensures
