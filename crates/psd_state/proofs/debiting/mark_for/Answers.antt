use Rattle.std.proofs.Common.{arith, rules}
use Rattle.psd_state.proofs.Kept.{whole_mark}
use Rattle.psd_state.proofs.debiting.mark_for.Goals as goal

pub returns-clause-whole : goal.returns-clause-whole
returns-clause-whole c =
    whole_mark _ _ _ _ _ _ _ _ (omega (arith, c.get.ensures.range)) (search rules) (search rules) (omega (arith, c.ascending.ensures.sound.within, c.ascending.ensures.value))
    (omega (arith, c.descending.ensures.sound.within, c.descending.ensures.value)) (search rules) (omega arith) (search rules)
