use Rattle.bench.specs.Benches.{bench_of}
use Rattle.script_replay.proofs.Nothing.{side_said}
use Rattle.host_departments.proofs.Running.{departments_fresh}
use Rattle.host_departments.proofs.run.run_over.Goals as goal

pub returns : goal.returns
returns g c = record {
  ran = record {
    old = bench_of c.args.bench;
    new = bench_of c.run_departments.new.bench;
    made = c.requires.made;
    ran = side_said _ _ c.run_departments.result _ _ _ _ _ (λ trace did. departments_fresh _ _ _ _ c.args.desk c.run_departments.new.desk c.requires.stands c.requires.tells c.requires.none c.requires.works _ trace did)
        c.run_departments.ensures.ran;
    ends = c.run_departments.ensures.ends;
    completes = c.run_departments.ensures.completes;
  };
}
