use Rattle.bench.specs.Benches.{bench_of}
use Rattle.script_replay.proofs.Nothing.{side_said}
use Rattle.spoil_claims.proofs.Running.{claims_fresh}
use Rattle.spoil_claims.proofs.run.run_over.Goals as goal

pub returns : goal.returns
returns g c = record {
  ran = record {
    old = bench_of c.args.bench;
    new = bench_of c.run_claims.new.bench;
    made = c.requires.made;
    ran = side_said _ _ c.run_claims.result _ _ _ _ _ (λ trace did. claims_fresh _ _ _ _ c.args.desk c.run_claims.new.desk c.requires.stands c.requires.tells c.requires.none c.requires.works _ trace did)
        c.run_claims.ensures.ran;
    ends = c.run_claims.ensures.ends;
    completes = c.run_claims.ensures.completes;
  };
}
