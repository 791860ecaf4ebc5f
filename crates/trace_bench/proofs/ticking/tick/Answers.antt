use Rattle.std.proofs.Common.{Some, sym, ap, ◌∙◌}
use Rattle.std.proofs.lemmas.Option.{same_Some}
use Rattle.trace_seen.proofs.Telling.{ticks_alike}
use Rattle.trace_bench.proofs.ticking.tick.Goals as goal

pub returns-in-Some : goal.returns-in-Some
returns-in-Some c = ticks_alike _ _ _ _ (λ q. (λ same. c.in-Some.is ∙ ap (λ m. Some m) same, λ at. same_Some _ _ (sym c.in-Some.is ∙ at))) c.tick.ensures
