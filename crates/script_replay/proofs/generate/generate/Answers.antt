use Rattle.script_replay.specs.ScriptLaws.{all_done}
use Rattle.script_replay.proofs.Generating.{all_generated}
use Rattle.script_replay.proofs.generate.generate.Goals as goal

pub returns-clause-ran : goal.returns-clause-ran
returns-clause-ran g c =
    all_generated _ _ (all_done _) c.args.seed c.args.count c.put_summary.result c.count_all-summary.result _ _ _ _ c.count_all-summary.ensures.did
    (c.only_debits_given.ensures.law c.args.seed c.args.count c.ranges.seed.fits c.requires.few) c.put_summary.ensures.ends
