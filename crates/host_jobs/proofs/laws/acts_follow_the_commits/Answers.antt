use Rattle.host_jobs.proofs.SoundActs.{leaves}
use Rattle.host_jobs.proofs.FollowingActs.{follows}
use Rattle.host_jobs.proofs.PlannedActs.{planned}
use Rattle.host_jobs.proofs.laws.acts_follow_the_commits.Goals as goal

pub returns-clause-sound : goal.returns-clause-sound
returns-clause-sound c = leaves

pub returns-clause-follows : goal.returns-clause-follows
returns-clause-follows c = follows

pub returns-clause-planned : goal.returns-clause-planned
returns-clause-planned c = planned
