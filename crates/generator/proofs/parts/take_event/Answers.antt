use Rattle.std.proofs.Common.{sym, ◌∙◌}
use Rattle.generator.proofs.Coming.{taken}
use Rattle.generator.proofs.parts.take_event.Goals as goal

pub returns-clause-taken : goal.returns-clause-taken
returns-clause-taken c =
    let p = c.args.place.now in
    taken p.part p.given p.counts p.number p.turns c.in_ok-event.event (sym c.part_event.ensures.value ∙ c.in_ok-event.was)
