-- The worked rows by subject. All but today's are by the first rules.
use Rattle.std.specs.Prelude.{[], ◌∷◌}
use Rattle.bench_base.specs.Rules.{first_rules, todays_rules, editions}
use Rattle.ledger_moves.specs.Histories.{History}
use Rattle.tests_laws.specs.Runs.{IsRow, sample}
use Rattle.tests_laws.specs.Rows as rows
use Rattle.tests_laws.specs.TodayRows.{today_steps, today_ledger}

-- one script: a device is enrolled, inspected and loaded, and a piece of mail is ordered, franked, held, printed and
-- accepted; its ledger is a history
pub record PathRows : Type 0 where
  pub first : IsRow sample first_rules rows.first_steps [] rows.reply_lost_start
  pub settling : IsRow sample first_rules rows.settling_steps rows.reply_lost_start rows.settled_ledger
  pub ordinary : IsRow sample first_rules rows.ordinary_steps rows.settled_ledger rows.ordinary_ledger
  pub history : History sample (first_rules ∷ []) rows.ordinary_ledger

-- requests and their rulings
pub record RequestRows : Type 0 where
  -- a reply is lost, and the request is sent again
  pub lost : IsRow sample first_rules rows.lost_steps rows.reply_lost_start rows.lost_ledger
  -- the centre loses power in the commit of a ruling, which counts
  pub refund : IsRow sample first_rules rows.refund_steps rows.settled_ledger rows.refund_ledger
  -- resets that are not granted
  pub withdrawal : IsRow sample first_rules rows.withdrawal_steps rows.settled_ledger rows.withdrawal_ledger
  pub funds : IsRow sample first_rules rows.funds_steps rows.settled_ledger rows.funds_ledger

-- refusals of each node, and of the bench, in their order
pub record RefusalRows : Type 0 where
  pub refusals : IsRow sample first_rules rows.refusals_steps rows.settled_ledger rows.refusals_ledger
  pub scans : IsRow sample first_rules rows.scans_steps rows.ordinary_ledger rows.scans_ledger
  pub checks : IsRow sample first_rules rows.checks_steps [] rows.checks_ledger

-- the same device goes on under today's rules, with marks and messages of version 2 and in its days of grace; what comes
-- out is a history by all versions of the rules
pub record TodaysRows : Type 0 where
  pub today : IsRow sample todays_rules today_steps rows.settled_ledger today_ledger
  pub goes_on : History sample editions today_ledger
