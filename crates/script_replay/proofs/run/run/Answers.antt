use Rattle.std.proofs.Common.{[], rules, refl, sym, ◌∙◌}
use Rattle.bench.specs.Benches.{bench_of}
use Rattle.script_text.specs.declared.program.Words.TheVariants.{Replay, Generate}
use Rattle.script_replay.specs.Chains.{scene_of}
use Rattle.line_runs.specs.declared.status.Status.TheVariants as status
use Rattle.script_replay.proofs.Calling.{apart, read_as, ran_replay, ran_generate, ran_nothing, generated_said}
use Rattle.script_replay.proofs.Completing.{completes, exact_end}
use Rattle.line_extensions.specs.Trace.{done_in}
use Rattle.line_extensions.specs.Scripts.{script_lines}
use Rattle.line_runs.proofs.Turns.{said}
use Rattle.line_runs.specs.declared.status.SideStatus.TheVariants.{Run}
use Rattle.script_replay.proofs.Running.{did_run}
use Rattle.script_replay.proofs.run.run.Goals as goal

pub returns-in-Some-Replay-clause-ran : goal.returns-in-Some-Replay-clause-ran
returns-in-Some-Replay-clause-ran g c =
    ran_replay c.replay.result _ _ _ _ (read_as _ _ Replay c.in-Some-Replay.field-0-is c.in-Some-Replay.ensures.found).1
    (said script_lines _ _ (Run c.replay.result) _ _ _ _ (λ trace e. did_run _ c.histories.ensures.today c.histories.ensures.holds (scene_of g.R.Source g.P.Sink c.args.bench.now c.args.rates.now c.args.printer.now) (bench_of c.begin.new.self)
    c.requires.ready c.begin.ensures.ready c.begin.ensures.begun c.begin.ensures.no_day c.begin.ensures.no_messages c.begin.ensures.no_rates c.begin.ensures.stands
    c.replay.result _ (done_in trace) (record { behind = e.behind; did = e.did; leaves = e.leaves })) c.replay.ensures.ran)

pub returns-in-Some-Generate-clause-ran : goal.returns-in-Some-Generate-clause-ran
returns-in-Some-Generate-clause-ran g c =
    let found = read_as _ _ (Generate c.in-Some-Generate.seed c.in-Some-Generate.count) c.in-Some-Generate.field-0-is c.in-Some-Generate.ensures.found in
    ran_generate c.generate.result _ _ _ _ c.in-Some-Generate.seed c.in-Some-Generate.count c.read_words.result (rw c.in-Some-Generate.field-0-is at c.in-Some-Generate.is) c.read_words.ensures.only found.0 found.1
    (generated_said _ _ c.generate.result _ _ _ _ (λ trace e. did_run _ c.histories.ensures.today c.histories.ensures.holds (scene_of g.R.Source g.P.Sink c.args.bench.now c.args.rates.now c.args.printer.now) (bench_of c.begin.new.self)
    c.requires.ready c.begin.ensures.ready c.begin.ensures.begun c.begin.ensures.no_day c.begin.ensures.no_messages c.begin.ensures.no_rates c.begin.ensures.stands
    c.generate.result _ trace e) c.generate.ensures.ran)

pub returns-in-None-clause-ran : goal.returns-in-None-clause-ran
returns-in-None-clause-ran g c =
    ran_nothing status.Words _ _ _ _ c.in-None.ensures.none (did_run _ c.histories.ensures.today c.histories.ensures.holds (scene_of g.R.Source g.P.Sink c.args.bench.now c.args.rates.now c.args.printer.now) (bench_of c.begin.new.self)
    c.requires.ready c.begin.ensures.ready c.begin.ensures.begun c.begin.ensures.no_day c.begin.ensures.no_messages c.begin.ensures.no_rates c.begin.ensures.stands
    status.Words _ [] (record { behind = _; did = refl; leaves = refl }))

pub returns-in-Some-Replay-clause-ends : goal.returns-in-Some-Replay-clause-ends
returns-in-Some-Replay-clause-ends g c =
    let given = (read_as _ _ Replay c.in-Some-Replay.field-0-is c.in-Some-Replay.ensures.found).1 in
    record {
      exact = λ same. exact_end c.replay.result _ _ _ _ _ c.replay.ensures.ran;
      words = (λ is. absurd (c.replay.ensures.not_words is), λ none. absurd (none Replay tt given));
      untouched = λ is. absurd (c.replay.ensures.not_words is);
      unread = λ seed count within is. absurd (apart seed count (sym given ∙ is));
      read_fault = search rules;
      write_fault = search rules;
      read_later = search rules;
      write_later = search rules;
    }

pub returns-in-Some-Replay-clause-completes : goal.returns-in-Some-Replay-clause-completes
returns-in-Some-Replay-clause-completes g c =
    completes c.replay.result _ (λ trace. Unit {0}) _ _ (ran_replay c.replay.result _ (λ trace. Unit {0}) _ _ (read_as _ _ Replay c.in-Some-Replay.field-0-is c.in-Some-Replay.ensures.found).1
    (said script_lines _ (λ trace. Unit {0}) (Run c.replay.result) _ _ _ _ (λ trace e. tt) c.replay.ensures.ran)) c.replay.ensures.read_failed c.replay.ensures.write_failed

pub returns-in-None-clause-completes : goal.returns-in-None-clause-completes
returns-in-None-clause-completes g c =
    completes status.Words _ (λ trace. Unit {0}) _ _ (ran_nothing status.Words _ _ _ _ c.in-None.ensures.none tt) (λ is. cc) (λ is. cc)
