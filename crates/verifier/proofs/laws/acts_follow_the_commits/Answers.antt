use Rattle.verifier.proofs.LawActs.{leaves, follows, planned}
use Rattle.verifier.proofs.laws.acts_follow_the_commits.Goals as goal

pub returns-clause-sound : goal.returns-clause-sound
returns-clause-sound c = leaves

pub returns-clause-follows : goal.returns-clause-follows
returns-clause-follows c = follows

pub returns-clause-planned : goal.returns-clause-planned
returns-clause-planned c = planned
