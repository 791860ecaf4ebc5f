use Rattle.std.proofs.Common.{[], refl}
use Rattle.bench_base.specs.declared.events.Event.TheVariants as ev
use Rattle.bench_base.specs.declared.events.Reply.TheVariants as r
use Rattle.node_turns.specs.Turns.{turn_of}
use Rattle.bench.specs.contracts.benches.BenchOverHasNodes.TheImpl.{ghosts}
use Rattle.bench.specs.Benches.{Nodes, bench_of}
use Rattle.bench.specs.Outside.{beside, feed_of}
use Rattle.bench.proofs.Answered.{steps_none}
use Rattle.bench.proofs.OneTurn.{each_ok}
use Rattle.bench.proofs.RatesTurns.{steps_rates}
use Rattle.bench.proofs.event.rates_turn.Given.{Over}
use Rattle.bench.proofs.event.rates_turn.Goals as goal

abbrev nodes_in : Over → Nodes
nodes_in g = (ghosts g.row.M g.row.N g.M.Fuse g.M.Fuse-dict g.M.Nv g.M.Nv-dict g.N.Nv g.N.Nv-dict g.M.Destruct-dict).nodes

pub returns-in-None-clause-did : goal.returns-in-None-clause-did
returns-in-None-clause-did g c =
    let old = bench_of c.args.bench.now in (
      [],
      turn_of r.NoDay [],
      c.silent.ensures,
      λ printer. steps_none (nodes_in g) old c.requires.ready (beside (feed_of g.R.Source c.args.rates.now) printer) ev.Rates tt refl c.in-None.is,
    )

pub returns-in-Some-clause-did : goal.returns-in-Some-clause-did
returns-in-Some-clause-did g c =
    let old = bench_of c.args.bench.now in
    each_ok _ _ (λ told did. (
      did.0,
      did.1,
      did.2,
      λ printer. steps_rates (nodes_in g) did.0 did.1 c.in-Some.field-0 old c.read_turn.new.kept (beside (feed_of g.R.Source c.args.rates.now) printer)
          (beside (feed_of g.R.Source c.read_turn.new.source) printer) c.requires.ready c.in-Some.is refl c.read_turn.ensures.later did.3,
    )) c.read_turn.result c.read_turn.ensures.ok
