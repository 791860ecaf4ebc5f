use Rattle.std.proofs.Common.{◌∷◌, arith}
use Rattle.bench_base.specs.Ledger.{counted}
use Rattle.ledger_moves.specs.Histories.{earlier}
use Rattle.ledger_laws.proofs.Histories.{histories, allows_same, carried_by}
use Rattle.ledger_laws.proofs.Lawfulness.{everywhere, lawful, has_owner, no_imbalance, is_fitting, linked}
use Rattle.ledger_laws.proofs.Standing.{standing, begins}
use Rattle.ledger_laws.proofs.Postage.{all_paid}
use Rattle.ledger_laws.proofs.Answered.{moves_sane, sent_read, replies_ruled}
use Rattle.ledger_laws.proofs.Ups.{either_up}
use Rattle.ledger_laws.proofs.laws.histories.Goals as goal

pub returns-clause-today : goal.returns-clause-today
returns-clause-today c = (
  (record { version = (omega arith, omega arith); total = omega arith }, record { total = omega arith; version = omega arith; grace = omega arith; small = omega arith }),
  (
    (record { version = (omega arith, omega arith); total = omega arith }, record { total = omega arith; version = omega arith; grace = omega arith; small = omega arith }),
    (record { version = (omega arith, omega arith); total = omega arith }, tt),
  ),
)

pub returns-clause-earlier : goal.returns-clause-earlier
returns-clause-earlier c τ H h = earlier (earlier h)

pub returns-clause-holds : goal.returns-clause-holds
returns-clause-holds c τ ρ ρs H E h =
    let kept = histories τ (ρ ∷ ρs) E H h ρ (carried_by ρs ρ E.0, allows_same ρ) in
    record {
      lawful = lawful ρ H kept;
      owners = everywhere ρ _ (λ P g t. has_owner ρ (counted P) g) H kept;
      linked = everywhere ρ _ (λ P g t. linked ρ (counted P) g) H kept;
      balanced = everywhere ρ _ (λ P g t. no_imbalance ρ (counted P) g) H kept;
      sane = moves_sane τ ρ ρs H E h;
      begins = everywhere ρ _ (λ P g t. begins ρ (counted P) g) H kept;
      covered = everywhere ρ _ (λ P g t. standing ρ (counted P) g) H kept;
      paid = all_paid ρ H kept;
      fitting = everywhere ρ _ (λ P g t. is_fitting ρ (counted P) g) H kept;
      sent = sent_read ρ H kept;
      replied = replies_ruled ρ H kept;
      either = either_up τ ρ ρs H E h;
    }
