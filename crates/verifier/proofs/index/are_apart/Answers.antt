use Rattle.std.proofs.Common.{◌∙◌, sym, arith}
use Rattle.verifier.proofs.Settled.{rising_more}
use Rattle.verifier.proofs.index.are_apart.Goals as goal

pub loop-later-preserved : goal.loop-later-preserved
loop-later-preserved c =
    rising_more c.args.entries.now c.loop-later.later c.requires c.loop-later.auto.later c.loop-later-test.true
    (λ same. c.if-before-rank.false (c.entry_rank-before.ensures ∙ same ∙ sym c.entry_rank-rank.ensures)) c.loop-later.invariant

pub returns-then-before-rank : goal.returns-then-before-rank
returns-then-before-rank c = record {
  later = c.loop-later.later;
  second = c.loop-later.auto.later;
  inside = c.loop-later-test.true;
  same = sym c.entry_rank-before.ensures ∙ c.if-before-rank.true ∙ c.entry_rank-rank.ensures;
}

pub returns : goal.returns
returns c i j lt inside = c.loop-later.invariant i j lt (omega (arith, inside))
