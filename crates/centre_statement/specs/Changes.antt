-- What a commit that counts changes of a customer's money, in mills.
use Rattle.std.specs.Prelude.{ℕ, ◌+◌, ◌-◌, ◌^◌, min, Option, Some, None, ◌==◌, if◌then◌else◌}
use Rattle.bench_base.specs.declared.{words.Kind.Kind, words.Kind.TheVariants.Enrol, words.Kind.TheVariants.Reset, words.Kind.TheVariants.Audit, words.Kind.TheVariants.Refund, words.Kind.TheVariants.Withdraw, ledger.Commit.Commit, ledger.Commit.TheVariants.Deposited, ledger.Commit.TheVariants.Ruled}
use Rattle.bench_base.specs.Kinds.{is_granted}
use Rattle.psd_wire.specs.declared.message.Request.{Request}
use Rattle.ledger_terms.specs.Requests.{request_in}
use Rattle.statement_check.specs.declared.line.Cause.{Cause}
use Rattle.statement_check.specs.declared.line.Cause.TheVariants as causes
use Rattle.centre_statement.specs.declared.change.Change.{Change}

abbrev pub change : Cause → ℕ → Change
change cause amount = record { cause = cause; amount = amount }

-- what is changed by a granted ruling on a request of this kind and amount
abbrev pub change_of : Kind → ℕ → ℕ → ℕ → Option Change
change_of Enrol d n amount = None
change_of Audit d n amount = None
change_of Reset d n amount = Some (change (causes.Reset d n) amount)
change_of Refund d n amount = Some (change (causes.Refund d n) amount)
change_of Withdraw d n amount = Some (change (causes.Withdraw d n) amount)

-- what is changed of this customer's money: the request is the customer's
abbrev pub granted_change : ℕ → ℕ → Request → ℕ → Option Change
granted_change d n q w = if q.customer == w then change_of q.kind d n q.amount else None

-- what a commit changes of this customer's money: a deposit, or a granted ruling for a reset, a refund or a withdrawal
abbrev pub change_in : Commit → ℕ → Option Change
change_in (Deposited who receipt amount) w = if who == w then Some (change (causes.Deposit receipt) amount) else None
change_in (Ruled d n v note) w = if is_granted v then granted_change d n (request_in note) w else None
change_in _ w = None

-- the balance after a change, within 64 bits
abbrev pub left_after : ℕ → Cause → ℕ → ℕ
left_after before (causes.Deposit receipt) amount = min (before + amount) (2 ^ 64 - 1)
left_after before (causes.Reset d n) amount = before - amount
left_after before (causes.Refund d n) amount = min (before + amount) (2 ^ 64 - 1)
left_after before (causes.Withdraw d n) amount = min (before + amount) (2 ^ 64 - 1)
