use Rattle.std.proofs.lemmas.Bool.{false≢true}
use Rattle.script_check.proofs.InSlots.{not_counted}
use Rattle.script_check.proofs.slots.is_scan.Goals as goal

pub returns-then-number-lt1 : goal.returns-then-number-lt1
returns-then-number-lt1 c =
    let found = c.in-Some.ensures.found in
    ((λ t. absurd (false≢true t)), (λ n. absurd (not_counted c.in-Some.number c.args.word.now c.if-number-lt1.true found.0 found.1 n)))
