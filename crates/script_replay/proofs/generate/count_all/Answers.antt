use Rattle.std.proofs.Common.{ℕ, List, length, ap, arith}
use Rattle.bench_base.specs.Events.{IsWholeEvent}
use Rattle.script_text.specs.Summaries.{Tally}
use Rattle.generator.specs.Given.{NeedsNoStream}
use Rattle.bench.specs.contracts.benches.BenchOverHasNodes.TheImpl.{ghosts}
use Rattle.bench.specs.Benches.{Nodes}
use Rattle.script_replay.specs.Generated.{replies_of}
use Rattle.script_replay.proofs.Chains.{did_one}
use Rattle.script_replay.specs.ScriptLaws.{all_done}
use Rattle.script_replay.proofs.Generating.{midst_more, next_is, few_done, tally_events, replies_length, all_rest}
use Rattle.script_replay.specs.Sent.{sent_few}
use Rattle.script_replay.proofs.generate.count_all.Given.{Over}
use Rattle.script_replay.proofs.generate.count_all.Goals as goal

abbrev nodes_in : Over → Nodes
nodes_in g = (ghosts g.row.M g.row.N g.M.Fuse g.M.Fuse-dict g.M.Nv g.M.Nv-dict g.N.Nv g.N.Nv-dict g.M.Destruct-dict).nodes

pub count_event-requires-clause-whole : goal.count_event-requires-clause-whole
count_event-requires-clause-whole g c =
    next_is _ _ (all_done _) c.args.seed c.args.count IsWholeEvent (c.all_whole.ensures.law c.args.seed c.args.count c.ranges.seed.fits c.requires.few) _ _ _ _ c.loop-event.invariant.midst _ _ c.in-Some.ensures.next

pub count_event-requires-clause-alone : goal.count_event-requires-clause-alone
count_event-requires-clause-alone g c =
    next_is _ _ (all_done _) c.args.seed c.args.count NeedsNoStream (c.no_streams.ensures.law c.args.seed c.args.count) _ _ _ _ c.loop-event.invariant.midst _ _ c.in-Some.ensures.next

pub count_event-requires-clause-room : goal.count_event-requires-clause-room
count_event-requires-clause-room g c =
    let midst = c.loop-event.invariant.midst in
    let few = few_done _ c.args.seed c.args.count _ _ _ _ _ midst _ c.in-Some.ensures.next (c.few_events.ensures.law c.args.seed c.args.count) in
    let sent = sent_few (nodes_in g) _ _ midst.done midst.did in
    let none = ap (λ (l : List (List ℕ)). length l) c.requires.no_messages in
    omega (arith, sent, none, few, c.requires.few)

pub count_event-requires-clause-few : goal.count_event-requires-clause-few
count_event-requires-clause-few g c =
    let midst = c.loop-event.invariant.midst in
    let few = few_done _ c.args.seed c.args.count _ _ _ _ _ midst _ c.in-Some.ensures.next (c.few_events.ensures.law c.args.seed c.args.count) in
    let tally = ap (λ (t : Tally). t.events) midst.tally_is in
    omega (arith, tally, tally_events (replies_of midst.done), replies_length midst.done, few, c.requires.few)

pub loop-event-preserved : goal.loop-event-preserved
loop-event-preserved g c =
    let d = c.count_event.ensures.did in
    record {
      ready = c.count_event.ensures.ready;
      midst = midst_more _ _ (all_done _) c.args.seed c.args.count _ _ _ _ _ _ _ c.in-Some.event d.0 c.loop-event.invariant.midst c.in-Some.ensures.next d.1
          (did_one _ _ _ d.0 d.2) d.3;
    }

pub returns-in-None-clause-rests : goal.returns-in-None-clause-rests
returns-in-None-clause-rests g c = all_rest (nodes_in g) c.args.seed c.args.count _ _ _ _ c.loop-event.invariant.midst c.in-None.ensures.next.0 (c.no_streams.ensures.law c.args.seed c.args.count)
