use Rattle.trace_folder.proofs.Nodes.{found_as, centre_is}
use Rattle.trace_folder.proofs.rows.centre_shows.Goals as goal

pub returns-clause-shows : goal.returns-clause-shows
returns-clause-shows g c = found_as _ _ _ c.image_shows.result (λ bytes s are. centre_is c.args.traced.now c.requires.settled _ s are) c.image_shows.ensures.shows
