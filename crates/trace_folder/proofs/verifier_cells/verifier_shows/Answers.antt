use Rattle.trace_folder.proofs.Nodes.{found_as, verifier_is}
use Rattle.trace_folder.proofs.verifier_cells.verifier_shows.Goals as goal

pub returns-clause-shows : goal.returns-clause-shows
returns-clause-shows g c = found_as _ _ _ c.image_shows.result (λ bytes s are. verifier_is c.args.traced.now c.requires.settled _ s are) c.image_shows.ensures.shows
