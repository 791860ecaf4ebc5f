-- What may be the next commit, and what a node's open commit is.
use Rattle.std.specs.Prelude.{◌≡◌, ℕ, true, false, List, ◌∷◌, Some}
use Rattle.bench_base.specs.declared.{words.Node.Node, ledger.Commit.Commit}
use Rattle.bench_base.specs.Nodes.{node_of}
use Rattle.bench_base.specs.Ranges.{InRange}
use Rattle.bench_base.specs.Ledger.{Ledger, is_on, counted}
use Rattle.ledger_terms.specs.Devices.{key_of}
use Rattle.psd_state.specs.Records as device
use Rattle.centre_ledger.specs.Order as centre
use Rattle.host_jobs.specs.Order as host
use Rattle.host_jobs.specs.Turns as turns
use Rattle.verifier.specs.Order as verifier
use Rattle.verifier.specs.Order.{IsRoomy}

-- commits in the order of each node, so that each node's record is that of the commits
pub record AreOrdered (C : List Commit) : Type 0 where
  pub devices : (d : ℕ) → device.InOrder d C
  pub records : (d : ℕ) (key : List ℕ) → key_of d C ≡ Some key → device.IsRecordOf (device.state_of d key C) d C
  pub centre : centre.InOrder C
  pub host : host.InOrder C
  pub turns : turns.InTurn C
  pub verifier : verifier.InOrder C
  pub roomy : IsRoomy C

-- the commit that an event makes: its node is on, its numbers fit their fields, and after it the commits are in order again
pub record IsNext (c : Commit) (H : Ledger) : Type 0 where
  pub on : is_on (node_of c) H ≡ true
  pub range : InRange c
  pub ordered : AreOrdered (c ∷ counted H)

-- the open commit of a node: the node is off, and the same holds if the commit counts
pub record IsOpen (n : Node) (c : Commit) (H : Ledger) : Type 0 where
  pub node : node_of c ≡ n
  pub off : is_on n H ≡ false
  pub range : InRange c
  pub ordered : AreOrdered (c ∷ counted H)
