use Rattle.bench.specs.Benches.{bench_of}
use Rattle.script_replay.proofs.Nothing.{side_said}
use Rattle.mail_manifest.proofs.Nothing.{manifest_fresh}
use Rattle.mail_manifest.proofs.run.run_over.Goals as goal

pub returns-clause-ran : goal.returns-clause-ran
returns-clause-ran g c = record {
  old = bench_of c.args.bench;
  new = bench_of c.run_manifest.new.bench;
  made = c.requires.made;
  ran = side_said _ _ c.run_manifest.result _ _ _ _ _ (λ trace did. manifest_fresh _ _ _ c.requires.stands c.requires.tells _ trace did) c.run_manifest.ensures.ran;
  ends = c.run_manifest.ensures.ends;
  completes = c.run_manifest.ensures.completes;
}
