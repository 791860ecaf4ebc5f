use Rattle.std.proofs.Common.{◌≤◌, ◌∙◌, arith}
use Rattle.generator.proofs.Opened.{debits_behind}
use Rattle.generator.proofs.opening.opening_event.Goals as goal

pub returns-in_default : goal.returns-in_default
returns-in_default c =
    let far : 18 ≤ c.args.place = omega arith in
    record { value = c.debit_event.ensures.value ∙ debits_behind c.args.place far }
