use Rattle.std.proofs.Common.{[], ◌∷◌}
use Rattle.bench_base.specs.Rules.{first_rules, wide_rules, todays_rules}
use Rattle.ledger_moves.specs.Histories.{History, nothing, earlier}
use Rattle.tests_laws.specs.Runs.{sample}
use Rattle.tests_laws.specs.Rows as rows
use Rattle.tests_laws.specs.TodayRows.{today_steps, today_ledger}
use Rattle.tests_laws.proofs.Runs.{row_history}
use Rattle.tests_laws.proofs.WorkedPath.{first_row, settling_row, ordinary_row}
use Rattle.tests_laws.proofs.WorkedFunds.{lost_row, refund_row, withdrawal_row, funds_row}
use Rattle.tests_laws.proofs.WorkedRefusals.{refusals_row, scans_row, checks_row}
use Rattle.tests_laws.proofs.WorkedToday.{today_row}
use Rattle.tests_laws.proofs.rows.worked_rows.Goals as goal

settled_history : History sample (first_rules ∷ []) rows.settled_ledger
settled_history =
    row_history sample first_rules [] rows.settling_steps rows.reply_lost_start rows.settled_ledger settling_row
    (row_history sample first_rules [] rows.first_steps [] rows.reply_lost_start first_row nothing)

pub returns-clause-path : goal.returns-clause-path
returns-clause-path c = record {
  first = first_row;
  settling = settling_row;
  ordinary = ordinary_row;
  history = row_history sample first_rules [] rows.ordinary_steps rows.settled_ledger rows.ordinary_ledger ordinary_row settled_history;
}

pub returns-clause-requests : goal.returns-clause-requests
returns-clause-requests c = record { lost = lost_row; refund = refund_row; withdrawal = withdrawal_row; funds = funds_row }

pub returns-clause-refusals : goal.returns-clause-refusals
returns-clause-refusals c = record { refusals = refusals_row; scans = scans_row; checks = checks_row }

pub returns-clause-today : goal.returns-clause-today
returns-clause-today c = record {
  today = today_row;
  goes_on = row_history sample todays_rules (wide_rules ∷ first_rules ∷ []) today_steps rows.settled_ledger today_ledger today_row (earlier (earlier settled_history));
}
