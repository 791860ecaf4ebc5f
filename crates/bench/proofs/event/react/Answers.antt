use Rattle.std.proofs.Common.{◌≡◌, List, ℕ, [], Option, ◌∙◌, ap}
use Rattle.std.specs.Prelude.{◌++◌}
use Rattle.node_turns.specs.Printing.{printer_of}
use Rattle.bench.specs.Benches.{bench_of}
use Rattle.bench.specs.Outside.{feed_of}
use Rattle.bench.specs.Steps.{notes_of, sending}
use Rattle.bench.proofs.OneTurn.{each_ok, same_steps, sent_steps}
use Rattle.bench.proofs.event.react.Goals as goal

pub returns-clause-did : goal.returns-clause-did
returns-clause-did g c =
    each_ok _ _ (λ told did. (did.0, did.1, did.2, same_steps _ _ _ did.0 did.1 _ _ _ _ c.in-Rates.is (did.3 (printer_of g.P.Sink c.args.printer.now))))
    c.rates_turn.result c.rates_turn.ensures.did

pub returns-in_default-clause-did : goal.returns-in_default-clause-did
returns-in_default-clause-did g c =
    let did = c.turn_of-told.ensures.did in
    let left = bench_of c.turn_of-told.new.bench in
    let sent : bench_of c.send.new.self ≡ sending did.0 left = c.send.ensures ∙ ap (λ (o : Option (List ℕ)). record left { messages = left.messages ++ notes_of o }) did.1.1 in
    ([], did.0, did.1.0, sent_steps _ _ [] did.0 (bench_of c.args.bench.now) left (bench_of c.send.new.self) _ _ sent (did.3 (feed_of g.R.Source c.args.rates.now)))
