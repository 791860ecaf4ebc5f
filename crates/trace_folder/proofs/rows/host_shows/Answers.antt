use Rattle.trace_folder.proofs.Nodes.{found_as, host_is}
use Rattle.trace_folder.proofs.rows.host_shows.Goals as goal

pub returns-clause-shows : goal.returns-clause-shows
returns-clause-shows g c = found_as _ _ _ c.image_shows.result (λ bytes s are. host_is c.args.traced.now _ s are) c.image_shows.ensures.shows
