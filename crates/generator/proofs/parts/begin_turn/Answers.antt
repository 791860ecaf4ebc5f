use Rattle.std.proofs.Common.{◌≡◌, ◌-◌, suc, arith}
use Rattle.generator.proofs.Coming.{begun, ended}
use Rattle.generator.proofs.parts.begin_turn.Goals as goal

pub returns-then-place-eq0-clause-begun : goal.returns-then-place-eq0-clause-begun
returns-then-place-eq0-clause-begun c = ended c.args.place.now c.requires.done c.if-place-eq0.true

pub returns-clause-same : goal.returns-clause-same
returns-clause-same c =
    let p = c.args.place.now in
    let more : p.turns ≡ suc (p.turns - 1) = omega (arith, c.if-place-eq0.false) in
    rw c.count_part-place.ensures.value
    (begun p c.draw_turn.result c.draw_turn.new.number (p.turns - 1) c.requires.done more c.draw_turn.ensures.value c.draw_turn.ensures.following)
