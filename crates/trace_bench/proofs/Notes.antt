-- The mark that the turn of a call shows.
use Rattle.std.proofs.Common.{◌≡◌, ◌++◌, ℕ, List, [], Option, Some, None, refl}
use Rattle.bench_base.specs.declared.ledger.Commit.{Commit}
use Rattle.node_acts.specs.declared.{said.GivenOut.GivenOut, said.GivenOut.TheVariants.Released, said.GivenOut.TheVariants.Printed}
use Rattle.node_acts.specs.Plans.{with_commit}
use Rattle.node_acts.specs.Said.{with_given, with_sent}
use Rattle.node_turns.specs.Turns.{in_order}
use Rattle.trace_nodes.specs.Released.{released_in}

-- the mark that is given out so, if it is released
abbrev pub given_mark : Option GivenOut → Option (List ℕ)
given_mark (Some (Released x)) = Some x.mark
given_mark (Some (Printed x)) = None
given_mark None = None

pub shown : (given : Option GivenOut) (sent : Option (List ℕ)) (commit : Option Commit)
    → given_mark given ≡ released_in (in_order ((with_sent sent ++ with_given given) ++ with_commit commit []))
shown (Some (Released x)) (Some note) (Some c) = refl
shown (Some (Released x)) (Some note) None = refl
shown (Some (Released x)) None (Some c) = refl
shown (Some (Released x)) None None = refl
shown (Some (Printed x)) (Some note) (Some c) = refl
shown (Some (Printed x)) (Some note) None = refl
shown (Some (Printed x)) None (Some c) = refl
shown (Some (Printed x)) None None = refl
shown None (Some note) (Some c) = refl
shown None (Some note) None = refl
shown None None (Some c) = refl
shown None None None = refl
