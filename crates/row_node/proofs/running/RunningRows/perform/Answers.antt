use Rattle.row_node.proofs.running.RunningRows.perform.Goals as goal

pub perform-requires : goal.perform-requires
perform-requires g c = record { runs = record { on = c.args.self.now.runs; size = c.args.self.now.size }; fits = λ works. c.requires.fits }

pub returns : goal.returns
returns g c = record { performed = c.perform.ensures.performs.performed; size = c.perform.ensures.performs.size }

pub invariant_of-self : goal.invariant_of-self
invariant_of-self g c = record { runs = c.perform.ensures.runs.on; size = c.perform.ensures.runs.size }
