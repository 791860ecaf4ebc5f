use Rattle.centre_ledger.proofs.ByCommits as by_commits
use Rattle.centre_ledger.proofs.Following as following
use Rattle.centre_ledger.proofs.Slots as slots
use Rattle.centre_ledger.proofs.Standings as standings
use Rattle.centre_ledger.proofs.laws.rows_follow_the_commits.Goals as goal

pub returns-clause-devices : goal.returns-clause-devices
returns-clause-devices c = record {
  registered = following.registering;
  ruled = following.ruling_keeps;
  settled = following.settling;
  others = following.other_devices;
}

pub returns-clause-customers : goal.returns-clause-customers
returns-clause-customers c = record {
  opened = following.opening;
  deposited = following.depositing;
  flagged = following.flagging;
  others = following.other_customers;
}

pub returns-clause-slots : goal.returns-clause-slots
returns-clause-slots c = slots.slots

pub returns-clause-order : goal.returns-clause-order
returns-clause-order c = slots.in_order

pub returns-clause-sound : goal.returns-clause-sound
returns-clause-sound c = slots.sound

pub returns-clause-rulings : goal.returns-clause-rulings
returns-clause-rulings c = record {
  ruled = following.ruling;
  planned = λ C q x bytes order known. (by_commits.verdict_is C order q x, by_commits.reply_is C order q x bytes known);
  paid = slots.paying;
  balanced = following.balancing;
  left = slots.left_is;
}

pub returns-clause-standing : goal.returns-clause-standing
returns-clause-standing c = standings.standing
