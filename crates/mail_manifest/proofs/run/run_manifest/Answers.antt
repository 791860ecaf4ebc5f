use Rattle.line_extensions.specs.Desks.{side_lines}
use Rattle.line_runs.proofs.Turns.{said}
use Rattle.mail_manifest.specs.CheckerDesk.{checker_desk}
use Rattle.mail_manifest.proofs.Running.{did_manifest, never_stops}
use Rattle.mail_manifest.proofs.run.run_manifest.Goals as goal

pub returns-clause-ran : goal.returns-clause-ran
returns-clause-ran g c = record {
  replays = λ is. said (side_lines checker_desk) _ _ c.run_side.result _ _ _ _ (λ trace did. did_manifest _ c.histories.ensures.today _ _ _ _ c.run_side.result c.new-checker.ensures.none trace did) (c.run_side.ensures.ran.replays is);
  nothing = λ other. did_manifest _ c.histories.ensures.today _ _ _ _ c.run_side.result c.new-checker.ensures.none _ (c.run_side.ensures.ran.nothing other);
}

pub returns-clause-never_stops : goal.returns-clause-never_stops
returns-clause-never_stops g c = λ stopped. never_stops _ _ _ c.run_side.result stopped _ _ _ _ (returns-clause-ran g c) c.run_side.ensures.ends
