-- How each call of the host is reported, and what the ledger plans for it: its act, by what is looked up in the commits, the newest first. Postage is
-- in mills.
use Rattle.std.specs.Prelude.{ℕ, ◌-◌, List, Option, None, Result, if◌then◌else◌}
use Rattle.bench_base.specs.declared.{refusals.RateRefusal.RateRefusal, ledger.Commit.Commit, events.Reply.Reply}
use Rattle.bench_base.specs.declared.events.Reply.TheVariants as r
use Rattle.bench_base.specs.Plans.{Plan}
use Rattle.bench_base.specs.Jobs.{last_job, state_of, open_job, top, in_cells}
use Rattle.node_acts.specs.declared.{act.Act.Act, said.Said.Said, said.GivenOut.TheVariants.Printed}
use Rattle.node_acts.specs.Said.{replies, gives, sends, saying, said_plan}
use Rattle.host_jobs.specs.declared.{rows.JobRow.JobRow, acts.Ordered.Ordered, orders.Shelf.Shelf}
use Rattle.host_jobs.specs.Acts.{HostAct, LookUps, order_by, debit_message_by, begin_print_by, close_by, take_by}
use Rattle.host_jobs.specs.Records.{tops_after, record_of}

-- == what is reported ==

-- an act, by how it says what it answers
abbrev pub says : {A : Type 0} → (A → Said) → HostAct A → Act JobRow Reply Said
says say act = saying r.HostRefused say act

-- the reply to an order
abbrev pub told_ordered : Ordered → Said
told_ordered a = replies (r.Ordered a.job a.postage)

-- the message that asks for the mark of a job is message k
abbrev pub told_sent : ℕ → ℕ → List ℕ → Said
told_sent j k note = sends (r.SentDebit j k) note

-- the reply to a print, which gives out the mark
abbrev pub told_printed : ℕ → List ℕ → Said
told_printed j mark = gives (r.Printed j) (Printed (record { job = j; mark = mark }))

-- the reply to a close
abbrev pub told_closed : ℕ → Unit {0} → Said
told_closed j u = replies (r.Closed j)

-- the reply to a mark that is held
abbrev pub told_held : ℕ → Said
told_held j = replies (r.Held j)

-- == what is planned ==

-- what an order of the device asks of the commits
abbrev pub shelf_of : ℕ → List Commit → Shelf
shelf_of d C = record { last = last_job C; open_job = open_job d C; top = top d C; oldest = state_of (last_job C - 1023) C }

-- the row of a job that a cell holds, with the present tops
abbrev pub shown_job : ℕ → List Commit → Option JobRow
shown_job j C = if in_cells j C then record_of j C else None

-- what the host looks up, in a list of commits
abbrev pub in_commits : List Commit → LookUps
in_commits C = record { shelf = λ d. shelf_of d C; job = λ j. shown_job j C; tops = tops_after C }

-- the plan of an order
abbrev pub order_plan : ℕ → ℕ → ℕ → Option (Result ℕ RateRefusal) → List Commit → Plan
order_plan d piece class price C = said_plan (says told_ordered (order_by d piece class price (in_commits C)))

-- by message k
abbrev pub send_plan : ℕ → ℕ → List Commit → Plan
send_plan k j C = said_plan (says (told_sent j k) (debit_message_by j (in_commits C)))

-- the plan of a print
abbrev pub print_plan : ℕ → List Commit → Plan
print_plan j C = said_plan (says (told_printed j) (begin_print_by j (in_commits C)))

-- the plan of a close
abbrev pub close_plan : ℕ → List Commit → Plan
close_plan j C = said_plan (says (told_closed j) (close_by j (in_commits C)))

-- bytes that are handed to the host
abbrev pub take_plan : List ℕ → List Commit → Plan
take_plan bytes C = said_plan (says told_held (take_by bytes (in_commits C)))
