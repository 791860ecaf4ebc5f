-- How each call of the centre is reported, and what the ledger plans for it: its act, by what is looked up in the commits, the newest first. Amounts
-- are in mills.
use Rattle.std.specs.Prelude.{ℕ, ◌-◌, Bool, List, Option, option_map}
use Rattle.bench_base.specs.declared.{ledger.Commit.Commit, events.Reply.Reply}
use Rattle.bench_base.specs.declared.events.Reply.TheVariants as r
use Rattle.bench_base.specs.Plans.{Plan}
use Rattle.node_acts.specs.declared.{act.Act.Act, said.Said.Said}
use Rattle.node_acts.specs.Said.{replies, sends, saying, said_plan}
use Rattle.ledger_terms.specs.Centres.{registered, balance}
use Rattle.ledger_terms.specs.InFlight.{in_flight, acknowledged_resets, acknowledged_refunds}
use Rattle.centre_ledger.specs.declared.{rows.Row.Row, acts.Deposit.Deposit, standing.Standing.Standing, taking.CentreAnswer.CentreAnswer}
use Rattle.centre_ledger.specs.declared.taking.CentreAnswer.TheVariants as answer
use Rattle.centre_ledger.specs.Acts.{CentreAct, LookUps, register_by, open_by, flag_by, deposit_by, balance_by, stand_by, take_by}
use Rattle.centre_ledger.specs.Records.{device_row, customer_row}
use Rattle.centre_ledger.specs.Standing.{flight_shown}

-- == what is reported ==

-- an act, by how it says what it answers
abbrev pub says : {A : Type 0} → (A → Said) → CentreAct A → Act Row Reply Said
says say act = saying r.CentreRefused say act

-- the reply to a registration
abbrev pub told_registered : ℕ → Unit {0} → Said
told_registered d u = replies (r.Registered d)

-- the reply to a new customer
abbrev pub told_opened : ℕ → Unit {0} → Said
told_opened w u = replies (r.Opened w)

-- the reply to a suspension or its end
abbrev pub told_flagged : ℕ → Bool → Unit {0} → Said
told_flagged w flag u = replies (r.Flagged w flag)

-- the reply to a deposit
abbrev pub told_deposited : ℕ → ℕ → Deposit → Said
told_deposited w receipt a = replies (r.Deposited w receipt a.again a.total)

-- the reply to a balance
abbrev pub told_balance : ℕ → ℕ → Said
told_balance w left = replies (r.Balance w left)

-- beside the device's own total
abbrev pub told_standing : ℕ → ℕ → Standing → Said
told_standing d total a = replies (r.Reconciled d total a.centre a.in_flight)

-- what became of a message that it took; a Reply is sent as message k
abbrev pub told_taken : ℕ → CentreAnswer → Said
told_taken k (answer.Ruled d n v note again) = sends (r.Ruled d n v again k) note
told_taken k (answer.Settled d n again) = replies (r.Settled d n again)

-- == what is planned ==

-- the acknowledged resets less the refunds and withdrawals, and the ruling in flight
abbrev pub standing_after : ℕ → List Commit → Standing
standing_after d C = record { centre = acknowledged_resets d C - acknowledged_refunds d C; in_flight = flight_shown (in_flight d C) }

-- what the centre holds of a device that is registered
abbrev pub shown_standing : ℕ → List Commit → Option Standing
shown_standing d C = option_map (λ x. standing_after d C) (registered d C)

-- what the centre looks up, in a list of commits
abbrev pub in_commits : List Commit → LookUps
in_commits C = record { device = λ d. device_row d C; customer = λ w. customer_row w C; left = λ w. balance w C; standing = λ d. shown_standing d C }

-- the plan of a registration
abbrev pub register_plan : ℕ → ℕ → List ℕ → List Commit → Plan
register_plan d origin key C = said_plan (says (told_registered d) (register_by d origin key (in_commits C)))

-- the plan of a new customer
abbrev pub open_plan : ℕ → List Commit → Plan
open_plan w C = said_plan (says (told_opened w) (open_by w (in_commits C)))

-- the plan of a suspension or its end
abbrev pub flag_plan : ℕ → Bool → List Commit → Plan
flag_plan w flag C = said_plan (says (told_flagged w flag) (flag_by w flag (in_commits C)))

-- the plan of a deposit
abbrev pub deposit_plan : ℕ → ℕ → ℕ → List Commit → Plan
deposit_plan w receipt amount C = said_plan (says (told_deposited w receipt) (deposit_by w receipt amount (in_commits C)))

-- the plan of a balance
abbrev pub balance_plan : ℕ → List Commit → Plan
balance_plan w C = said_plan (says (told_balance w) (balance_by w (in_commits C)))

-- beside the device's own total; the device has answered before
abbrev pub reconcile_plan : ℕ → ℕ → List Commit → Plan
reconcile_plan d total C = said_plan (says (told_standing d total) (stand_by d (in_commits C)))

-- bytes that are handed to the centre; a Reply is message k
abbrev pub take_plan : ℕ → List ℕ → List Commit → Plan
take_plan k bytes C = said_plan (says (told_taken k) (take_by bytes (in_commits C)))
