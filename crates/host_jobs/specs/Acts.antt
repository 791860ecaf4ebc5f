-- What each call of the host does, by what it looks up: in its rows, or in a list of commits. Postage is in mills.
use Rattle.std.specs.Prelude.{ℕ, ◌-◌, List, [], get_or, set, max, Option, Some, None, Result, Ok, Err}
use Rattle.bench_base.specs.declared.{words.JobState.JobState, refusals.Unread.Unread, refusals.MarkFault.MarkFault, refusals.RateRefusal.RateRefusal, refusals.HostRefusal.HostRefusal}
use Rattle.bench_base.specs.declared.words.JobState.TheVariants as state
use Rattle.bench_base.specs.declared.refusals.Unread.TheVariants as unread
use Rattle.bench_base.specs.declared.refusals.HostRefusal.TheVariants as no
use Rattle.bench_base.specs.declared.ledger.Commit.TheVariants as c
use Rattle.node_acts.specs.declared.{act.Act.Act, act.Act.TheVariants.Refuse, act.Act.TheVariants.Tell, act.Act.TheVariants.Commits}
use Rattle.indicium.specs.declared.Mark.{Mark}
use Rattle.indicium.specs.Marks.{read_mark}
use Rattle.psd_wire.specs.declared.message.Message.{Message}
use Rattle.psd_wire.specs.declared.message.Message.TheVariants as m
use Rattle.psd_wire.specs.Grammar.{read, spell}
use Rattle.host_jobs.specs.declared.{orders.Shelf.Shelf, acts.Ordered.Ordered, rows.JobRow.JobRow}
use Rattle.host_jobs.specs.Answers.{order_answer, send_answer, print_answer, close_answer, hold_answer, debit_of}
use Rattle.host_jobs.specs.Rows.{Jobs, job_in, job_row, last_in, top_in, open_in, oldest_in, tops_in}

-- what a call of the host does
abbrev pub HostAct : Type 0 → Type 0
HostAct A = Act JobRow HostRefusal A

-- what is shown when a piece of a device is ordered, the row of a job that a cell holds, and the tops of devices 1 to 8
pub record LookUps : Type 0 where
  pub shelf : ℕ → Shelf
  pub job : ℕ → Option JobRow
  pub tops : List ℕ

abbrev pub shelf_in : ℕ → Jobs → Shelf
shelf_in d rows = record { last = last_in rows; open_job = open_in d rows; top = top_in d rows; oldest = oldest_in rows }

abbrev pub in_rows : Jobs → LookUps
in_rows rows = record { shelf = λ d. shelf_in d rows; job = λ j. job_row rows j; tops = tops_in rows }

-- == order ==

abbrev pub ordered_row : ℕ → ℕ → ℕ → ℕ → ℕ → List ℕ → JobRow
ordered_row j d piece class postage tops =
    record { job = j; device = d; piece = piece; postage = postage; class = class; state = state.Ordered; tops = tops; indicium = None }

-- the act of an order, by its answer: the number of the new job, or why it is refused
abbrev pub ordered_act : ℕ → ℕ → ℕ → ℕ → List ℕ → Result ℕ HostRefusal → HostAct Ordered
ordered_act d piece class postage tops (Err x) = Refuse x
ordered_act d piece class postage tops (Ok j) =
    Commits (c.Ordered j d piece postage class) (ordered_row j d piece class postage tops) (record { job = j; postage = postage })

-- the price comes first: there are no rates, or they refuse, or they say the postage
abbrev pub order_by : ℕ → ℕ → ℕ → Option (Result ℕ RateRefusal) → LookUps → HostAct Ordered
order_by d piece class None at = Refuse no.NoRates
order_by d piece class (Some (Err x)) at = Refuse (no.Rate x)
order_by d piece class (Some (Ok postage)) at = ordered_act d piece class postage at.tops (order_answer piece (at.shelf d) (at.shelf d).open_job)

abbrev pub order_act : ℕ → ℕ → ℕ → Option (Result ℕ RateRefusal) → Jobs → HostAct Ordered
order_act d piece class price rows = order_by d piece class price (in_rows rows)

-- == a job in its cell ==

-- the row in this state, with the present tops
abbrev pub moved : JobRow → JobState → List ℕ → JobRow
moved r s tops = record r { state = s; tops = tops }

-- the act, unless there is a reason to refuse
abbrev pub unless : {A : Type 0} → Option HostRefusal → HostAct A → HostAct A
unless None act = act
unless (Some x) act = Refuse x

-- the message that asks the device for the mark of the piece
abbrev pub debit_note : JobRow → List ℕ
debit_note r = spell (m.Debit (debit_of (job_in r))) []

-- the debit of a job is sent, by the row of the job
abbrev pub sent_act : Option JobRow → HostAct (List ℕ)
sent_act None = Refuse no.NoJob
sent_act (Some r) = unless (send_answer (Some r.state)) (Tell (debit_note r))

-- the same, by what is looked up
abbrev pub debit_message_by : ℕ → LookUps → HostAct (List ℕ)
debit_message_by j at = sent_act (at.job j)

abbrev pub debit_message_act : ℕ → Jobs → HostAct (List ℕ)
debit_message_act j rows = debit_message_by j (in_rows rows)

-- the mark that is to be printed is given out
abbrev pub begun_act : JobRow → Option (List ℕ) → List ℕ → HostAct (List ℕ)
begun_act r None tops = Refuse no.NoJob
begun_act r (Some x) tops = Commits (c.Began r.job) (moved r state.Begun tops) x

-- the print of a job begins, by the row of the job
abbrev pub printed_act : Option JobRow → List ℕ → HostAct (List ℕ)
printed_act None tops = Refuse no.NoJob
printed_act (Some r) tops = unless (print_answer (Some r.state)) (begun_act r r.indicium tops)

-- the same, by what is looked up
abbrev pub begin_print_by : ℕ → LookUps → HostAct (List ℕ)
begin_print_by j at = printed_act (at.job j) at.tops

abbrev pub begin_print_act : ℕ → Jobs → HostAct (List ℕ)
begin_print_act j rows = begin_print_by j (in_rows rows)

-- a job is closed, by its row
abbrev pub closed_act : Option JobRow → List ℕ → HostAct (Unit {0})
closed_act None tops = Refuse no.NoJob
closed_act (Some r) tops = unless (close_answer (Some r.state)) (Commits (c.Closed r.job) (moved r state.Closed tops) tt)

-- the same, by what is looked up
abbrev pub close_by : ℕ → LookUps → HostAct (Unit {0})
close_by j at = closed_act (at.job j) at.tops

abbrev pub close_act : ℕ → Jobs → HostAct (Unit {0})
close_act j rows = close_by j (in_rows rows)

-- == a Release ==

-- the tops once this piece of device d is held
abbrev pub raised : ℕ → ℕ → List ℕ → List ℕ
raised d piece tops = set tops (d - 1) (max piece (get_or tops (d - 1) 0))

-- the row of a job that holds its mark
abbrev pub held_row : JobRow → List ℕ → List ℕ → JobRow
held_row r x tops = record r { state = state.Held; tops = raised r.device r.piece tops; indicium = Some x }

-- the number of the job that takes the mark is answered
abbrev pub held_act : List ℕ → Mark → Option JobRow → List ℕ → HostAct ℕ
held_act x k None tops = Refuse no.NoJob
held_act x k (Some r) tops = unless (hold_answer k r.piece r.postage r.class) (Commits (c.Held r.job x) (held_row r x tops) r.job)

-- a mark is held by the open job of its device, if there is one
abbrev pub open_act : List ℕ → Mark → Option ℕ → LookUps → HostAct ℕ
open_act x k None at = Refuse no.NoJob
open_act x k (Some j) at = held_act x k (at.job j) at.tops

-- the act of a Release, by what its mark reads as
abbrev pub mark_act : List ℕ → Result (Mark × List ℕ) MarkFault → LookUps → HostAct ℕ
mark_act x (Err fault) at = Refuse (no.Unread unread.Mark)
mark_act x (Ok k) at = open_act x k.0 (at.shelf k.0.device).open_job at

-- what is done with the message that the bytes read as
abbrev pub message_act : Result Message Unread → LookUps → HostAct ℕ
message_act (Ok (m.Release x)) at = mark_act x (read_mark x) at
message_act (Ok _) at = Refuse (no.Unread unread.Tag)
message_act (Err x) at = Refuse (no.Unread x)

-- the act of a message, by what it reads as
abbrev pub take_by : List ℕ → LookUps → HostAct ℕ
take_by bytes at = message_act (read bytes) at

abbrev pub take_act : List ℕ → Jobs → HostAct ℕ
take_act bytes rows = take_by bytes (in_rows rows)
