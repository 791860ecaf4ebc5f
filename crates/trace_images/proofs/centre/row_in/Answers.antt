use Rattle.trace_images.proofs.CentreShown.{no_row}
use Rattle.trace_images.proofs.centre.row_in.Goals as goal

pub returns-in-None-clause-none : goal.returns-in-None-clause-none
returns-in-None-clause-none c =
    no_row c.args.place c.in-Commits.count c.read_newest.new.payload c.args.cell.now c.in-Commits.ensures.shows (λ x is reads. c.in-None.ensures.none x is reads)
