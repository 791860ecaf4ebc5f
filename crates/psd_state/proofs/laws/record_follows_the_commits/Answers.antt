use Rattle.psd_state.proofs.Keeping as laws
use Rattle.psd_state.proofs.laws.record_follows_the_commits.Goals as goal

pub returns-clause-made : goal.returns-clause-made
returns-clause-made c = laws.making_starts

pub returns-clause-asked : goal.returns-clause-asked
returns-clause-asked c = laws.asking_keeps

pub returns-clause-debited : goal.returns-clause-debited
returns-clause-debited c = laws.debiting_keeps

pub returns-clause-applied : goal.returns-clause-applied
returns-clause-applied c = laws.applying_keeps

pub returns-clause-others : goal.returns-clause-others
returns-clause-others c = laws.others_keep

pub returns-clause-resent : goal.returns-clause-resent
returns-clause-resent c = laws.resending_repeats
