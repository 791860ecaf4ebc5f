use Rattle.std.proofs.Common.{arith}
use Rattle.verifier.specs.Payload.{key_of}
use Rattle.payload_rows.proofs.Same.{one_key}
use Rattle.payload_rows.proofs.verifier_rows.reads_as_trust.Goals as goal

pub returns-clause-no : goal.returns-clause-no
returns-clause-no c is reads =
    c.has_key.ensures.no is
    (one_key c.args.device (key_of c.args.payload.now) c.args.key.now c.args.payload.now (omega (arith, c.get-number.ensures.value, c.get-number.ensures.range), omega (arith, c.get-number.ensures.value, c.get-number.ensures.range)) c.if-not-read_trust.ensures reads)
