use Rattle.bench.specs.Benches.{bench_of}
use Rattle.script_replay.proofs.Nothing.{side_said}
use Rattle.centre_statement.proofs.Nothing.{statements_fresh}
use Rattle.centre_statement.proofs.run.run_over.Goals as goal

pub returns-clause-ran : goal.returns-clause-ran
returns-clause-ran g c =
    let ran = c.run_statement.ensures.ran in
    record {
      old = bench_of c.args.bench;
      new = bench_of c.run_statement.new.bench;
      made = c.requires.made;
      ran = side_said _ _ c.run_statement.result _ _ _ _ _ (λ trace did. statements_fresh _ _ _ ran.desk ran.after ran.starts c.requires.stands c.requires.tells _ trace did) ran.ran;
      ends = c.run_statement.ensures.ends;
      completes = c.run_statement.ensures.completes;
    }
