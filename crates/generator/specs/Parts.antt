-- What is still to come in a run from a place in its opening or in a turn.
use Rattle.std.specs.Prelude.{suc, ◌≤◌, List, ◌++◌, drop, length}
use Rattle.bench_base.specs.declared.events.Event.{Event}
use Rattle.generator.specs.declared.{turns.Counts.Counts, parts.Part.Part, parts.Part.TheVariants.Opening, parts.Part.TheVariants.Turning, parts.Place.Place}
use Rattle.generator.specs.Opening.{opening}
use Rattle.generator.specs.Turns.{events_of, counted, HasRoom}
use Rattle.generator.specs.Events.{turns}

-- the events of the part
abbrev pub part_events : Counts → Part → List Event
part_events c Opening = opening
part_events c (Turning t) = events_of c t

-- what there is after the part
abbrev pub part_counted : Counts → Part → Counts
part_counted c Opening = c
part_counted c (Turning t) = counted c t

-- the events of the part that are still to come
abbrev pub left_of_part : Place → List Event
left_of_part p = drop p.given (part_events p.counts p.part)

-- all events that are still to come
unfoldable pub to_come : Place → List Event
to_come p = left_of_part p ++ turns p.turns p.number (part_counted p.counts p.part)

-- there is room for the turn in hand and for those to come, and no part gave more than its events
pub record IsPlace (p : Place) : Type 0 where
  pub room : HasRoom (suc p.turns) p.counts
  pub given : p.given ≤ length (part_events p.counts p.part)
