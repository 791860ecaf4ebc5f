use Rattle.std.proofs.Common.{[], refl}
use Rattle.bench.specs.Benches.{bench_of}
use Rattle.line_runs.proofs.Turns.{said}
use Rattle.line_runs.specs.declared.status.Status.TheVariants as status
use Rattle.line_runs.specs.declared.status.SideStatus.TheVariants.{Run}
use Rattle.line_extensions.specs.Desks.{world, side_lines}
use Rattle.script_replay.specs.Chains.{scene_of}
use Rattle.script_replay.proofs.Sides.{did_side, never_words}
use Rattle.script_replay.proofs.side.run_side.Goals as goal

pub returns-then-is_called-clause-ran : goal.returns-then-is_called-clause-ran
returns-then-is_called-clause-ran g c = record {
  replays = λ is. said (side_lines g.D.Extension) _ _ c.run_lines.result _ _ _ _ (λ trace e. did_side _ g.D.Extension c.histories.ensures.today c.histories.ensures.holds
      (world (scene_of g.R.Source g.P.Sink c.args.bench.now c.args.rates.now c.args.printer.now) c.args.desk.now) (bench_of c.begin.new.self)
      c.requires.ready c.begin.ensures.ready c.begin.ensures.begun c.begin.ensures.no_day c.begin.ensures.no_messages c.begin.ensures.no_rates c.begin.ensures.stands
      c.run_lines.result _ trace e) c.run_lines.ensures.ran;
  nothing = λ other. absurd (other (c.is_called.ensures.called c.if-is_called.true));
}

pub returns-then-is_called-clause-ends : goal.returns-then-is_called-clause-ends
returns-then-is_called-clause-ends g c = record {
  exact = λ is. c.run_lines.ensures.exact;
  words = (λ is. absurd (never_words (side_lines g.D.Extension) c.run_lines.result _ _ _ _ _ c.run_lines.ensures.ran is), λ other. absurd (other (c.is_called.ensures.called c.if-is_called.true)));
  untouched = λ is. absurd (never_words (side_lines g.D.Extension) c.run_lines.result _ _ _ _ _ c.run_lines.ensures.ran is);
  read_fault = c.run_lines.ensures.read_failed;
  write_fault = c.run_lines.ensures.write_failed;
  read_later = c.run_lines.ensures.read_later;
  write_later = c.run_lines.ensures.write_later;
}

pub returns-then-is_called-clause-completes : goal.returns-then-is_called-clause-completes
returns-then-is_called-clause-completes g c =
    λ is read write stop. c.run_lines.ensures.completes (λ e. read (c.run_lines.ensures.read_failed e)) (λ e. write (c.run_lines.ensures.write_failed e)) stop

pub returns-clause-ran : goal.returns-clause-ran
returns-clause-ran g c = record {
  replays = λ is. absurd (c.is_called.ensures.other c.if-is_called.false is);
  nothing = λ other. did_side _ g.D.Extension c.histories.ensures.today c.histories.ensures.holds
      (world (scene_of g.R.Source g.P.Sink c.args.bench.now c.args.rates.now c.args.printer.now) c.args.desk.now) (bench_of c.begin.new.self)
      c.requires.ready c.begin.ensures.ready c.begin.ensures.begun c.begin.ensures.no_day c.begin.ensures.no_messages c.begin.ensures.no_rates c.begin.ensures.stands
      (Run status.Words) _ [] (record { behind = _; did = refl; leaves = refl });
}
