-- What a run with statements did, from nothing.
use Rattle.std.proofs.Common.{◌≡◌, List, []}
use Rattle.line_runs.specs.declared.status.SideStatus.{SideStatus}
use Rattle.line_extensions.specs.SideTrace.{SideStep, steps_of}
use Rattle.bench.specs.Benches.{Nodes, Stands}
use Rattle.script_replay.specs.Chains.{SceneOf}
use Rattle.script_replay.proofs.Nothing.{stands_for_none, bench_fresh}
use Rattle.centre_statement.specs.Desk.{view_of, fresh}
use Rattle.centre_statement.specs.Fresh.{DidFreshStatements}
use Rattle.centre_statement.specs.Ran.{DidStatements}
use Rattle.centre_statement.specs.declared.{desk.StatementDesk.StatementDesk, lines.OwnLine.OwnLine}

module _ (n : Nodes) (old new : SceneOf n) (before after : StatementDesk) (starts : view_of before ≡ fresh) (stands : Stands n old.bench []) (tells : n.storage.tells) (outcome : SideStatus) where
  pub statements_fresh : (trace : List (SideStep OwnLine)) → DidStatements n old new before after outcome trace → DidFreshStatements n old new outcome trace
  statements_fresh trace did = record {
    before = before;
    after = after;
    starts = starts;
    did = did;
    bench = bench_fresh n old new stands did.side.ended (steps_of trace) did.side.bench tells;
    stated = λ τ texts unforged. did.stated τ [] texts (stands_for_none n old new stands τ) tells unforged;
  }
