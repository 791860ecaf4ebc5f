-- The verifier before its first commit: nothing is seen of it, which is sound.
use Rattle.std.proofs.Common.{[], arith}
use Rattle.node_acts.proofs.Blanks.{few_none}
use Rattle.verifier.specs.Records.{seen_after}
use Rattle.verifier.proofs.LawActs.{follows}
use Rattle.verifier.specs.Seen.{IsKnown}

pub verifier_sound : IsKnown (seen_after [])
verifier_sound = record {
  sound = follows.sound [] (record { order = tt; roomy = omega arith; range = λ k c lt. absurd (omega arith) });
  few = few_none (seen_after []) follows.none;
}
