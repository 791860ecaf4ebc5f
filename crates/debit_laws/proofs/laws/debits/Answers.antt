use Rattle.std.proofs.Common.{[], ◌∷◌}
use Rattle.bench_base.specs.Ledger.{Ledger, counted}
use Rattle.bench_base.specs.Replies.{class_of}
use Rattle.bench_base.specs.Rules.{todays_rules, wide_rules, first_rules, editions}
use Rattle.ledger_moves.specs.Histories.{History, moves}
use Rattle.ledger_moves.specs.Moves.{plan, entries}
use Rattle.ledger_moves.specs.Tariffs.{Tariff}
use Rattle.ledger_laws.proofs.Grown.{Inv}
use Rattle.ledger_laws.proofs.Histories.{histories, allows_same, carried_by}
use Rattle.debit_laws.proofs.Entries.{class_more}
use Rattle.debit_laws.proofs.Marks.{debits_more, last_debited, released_debited}
use Rattle.debit_laws.proofs.Plans.{plan_tame}
use Rattle.debit_laws.proofs.laws.debits.Goals as goal

-- what holds of a history
kept_by : (c : goal.After-histories) (τ : Tariff) (H : Ledger) → History τ editions H → Inv todays_rules H
kept_by c τ H h =
    let E = c.histories.ensures.today in
    histories τ editions E H h todays_rules (carried_by (wide_rules ∷ first_rules ∷ []) todays_rules E.0, allows_same todays_rules)

pub returns-clause-one : goal.returns-clause-one
returns-clause-one c τ ρ H x text reply = class_more (plan τ ρ H x text) (class_of reply) H (plan_tame ρ H τ x text)

pub returns-clause-more : goal.returns-clause-more
returns-clause-more c τ H x text reply h unforged moved mark =
    let K = entries τ todays_rules H x text reply in
    debits_more todays_rules mark (counted H) (counted K) (kept_by c τ K (moves x text reply h unforged moved)).good
    (class_more (plan τ todays_rules H x text) (class_of reply) H (plan_tame todays_rules H τ x text))

pub returns-clause-kept : goal.returns-clause-kept
returns-clause-kept c τ H mark h last = last_debited todays_rules last.0 mark (counted H) (kept_by c τ H h).good last.2

pub returns-clause-released : goal.returns-clause-released
returns-clause-released c τ H mark h released = released_debited mark H (kept_by c τ H h).told released
