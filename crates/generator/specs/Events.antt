-- All events of a generated run.
use Rattle.std.specs.Prelude.{ℕ, zero, suc, List, [], ◌++◌}
use Rattle.bench_base.specs.declared.events.Event.{Event}
use Rattle.generator.specs.declared.turns.Counts.{Counts}
use Rattle.generator.specs.Draws.{number_after}
use Rattle.generator.specs.Opening.{opening}
use Rattle.generator.specs.Turns.{turn_from, draws_of, events_of, counted}

-- what there is after the opening: ten pieces, six messages and no scan
abbrev pub opened : Counts
opened = record { pieces = 10; messages = 6; scans = 0 }

-- the events of so many turns, the first drawn from x
abbrev pub turns : ℕ → ℕ → Counts → List Event
turns zero x c = []
turns (suc n) x c =
    events_of c (turn_from x) ++ turns n (number_after (draws_of (turn_from x)) x) (counted c (turn_from x))

-- the events of the run that is made from this seed, with so many turns
abbrev pub generated : ℕ → ℕ → List Event
generated seed count = opening ++ turns count seed opened
