use Rattle.std.proofs.Common.{ℕ, inl, inr, refl, subst, arith}
use Rattle.std.proofs.lemmas.Bool.{cases_lt}
use Rattle.host_departments.specs.Kept.{rows_in}
use Rattle.host_departments.specs.Rows.{IsSoundAt}
use Rattle.host_departments.proofs.kept.are_sound.Goals as goal

pub loop-before-preserved : goal.loop-before-preserved
loop-before-preserved c = record {
  each = λ d is le. elim (cases_lt c.loop-before.before d) [
    | inl last ↦ subst (λ (n : ℕ). IsSoundAt (rows_in c.args.room.now) n) (omega (arith, last, le)) (c.is_sound.ensures.0 c.if-not-is_sound.false)
    | inr before ↦ c.loop-before.invariant.each d is before
  ];
}

pub returns : goal.returns
returns c = (λ yes d is. c.loop-before.invariant.each d is (omega (arith, is.1, c.loop-before-test.false)), λ all. refl)
