-- What each call of a device does, by its record. Amounts are in mills, days since 1970-01-01.
use Rattle.std.specs.Prelude.{ℕ, ℤ, ◌+◌, Bool, true, false, not, List, [], ◌∷◌, Option, Some, None, Result, Ok, Err, ◌==◌}
use Rattle.bench_base.specs.declared.{words.Kind.Kind, refusals.Unread.Unread, refusals.DevRefusal.DevRefusal, ledger.Commit.Commit, events.DevView.DevView}
use Rattle.bench_base.specs.declared.refusals.Unread.TheVariants as unread
use Rattle.bench_base.specs.declared.refusals.DevRefusal.TheVariants as no
use Rattle.bench_base.specs.declared.ledger.Commit.TheVariants as c
use Rattle.bench_base.specs.Rules.{Rules}
use Rattle.node_acts.specs.declared.{act.Act.Act, act.Act.TheVariants.Refuse, act.Act.TheVariants.Tell, act.Act.TheVariants.Commits}
use Rattle.bench_base.specs.Rows.{first_holding}
use Rattle.psd_wire.specs.declared.{message.ReplyMsg.ReplyMsg, message.DebitMsg.DebitMsg, message.Message.Message}
use Rattle.psd_wire.specs.declared.message.Message.TheVariants as m
use Rattle.psd_wire.specs.Codes.{has_code}
use Rattle.psd_wire.specs.Grammar.{read}
use Rattle.psd_state.specs.State.{State}
use Rattle.psd_state.specs.Answers.{made_state, debit_answer, ask_answer, apply_answer, resend_answer, done_answer, status_of}
use Rattle.psd_state.specs.declared.{debiting.Debited.Debited, debiting.Debited.TheVariants.New, debiting.Debited.TheVariants.Again, acts.Franked.Franked, acts.Taken.Taken}
use Rattle.psd_state.specs.declared.acts.Taken.TheVariants as taken

-- what a call of a device does
abbrev pub DeviceAct : Type 0 → Type 0
DeviceAct A = Act State DevRefusal A

-- == make ==

-- a device is made once
abbrev pub make_act : ℕ → List ℕ → Option State → DeviceAct (Unit {0})
make_act device key None = Commits (c.Made device key) (made_state device key) tt
make_act device key (Some s) = Refuse no.Made

-- == debit ==

-- the commit of a debit
abbrev pub debit_commit : Rules → ℕ → DebitMsg → ℤ → Commit
debit_commit ρ device q today = c.Debited device q.piece q.postage q.class today ρ.version

-- the act of a debit, by its answer: a new mark, the same once more, or why it is refused
abbrev pub franked_act : Rules → ℕ → DebitMsg → ℤ → Result Debited DevRefusal → DeviceAct Franked
franked_act ρ device q today (Err x) = Refuse x
franked_act ρ device q today (Ok (New s x)) = Commits (debit_commit ρ device q today) s (record { mark = x; again = false })
franked_act ρ device q today (Ok (Again x)) = Tell (record { mark = x; again = true })

-- a debit, by the record
abbrev pub debit_act : Rules → ℕ → DebitMsg → ℤ → Option State → DeviceAct Franked
debit_act ρ device q today None = Refuse no.Blank
debit_act ρ device q today (Some s) = franked_act ρ device q today (debit_answer ρ s q today)

-- == ask ==

-- the note of what is asked is committed, with its number, and answered
abbrev pub asked_act : ℕ → ℕ → Result (State × List ℕ) DevRefusal → DeviceAct (List ℕ)
asked_act device n (Err x) = Refuse x
asked_act device n (Ok x) = Commits (c.Asked device n x.1) x.0 x.1

-- a transaction is asked for, by the record
abbrev pub ask_act : Rules → ℕ → Kind → ℕ → ℕ → ℤ → Option State → DeviceAct (List ℕ)
ask_act ρ device kind customer amount today None = Refuse no.Blank
ask_act ρ device kind customer amount today (Some s) = asked_act device (s.number + 1) (ask_answer ρ s kind customer amount today)

-- == take ==

-- the act of a Reply, by its answer
abbrev pub applied_act : ℕ → ReplyMsg → Result State DevRefusal → DeviceAct Taken
applied_act device p (Err x) = Refuse x
applied_act device p (Ok s) = Commits (c.Applied device p.number p.verdict) s (taken.Applied p.number p.verdict)

-- when a Reply is not applied at all
abbrev pub reply_rows : ℕ → List ℕ → ReplyMsg → List ℕ → List (Bool × DeviceAct Taken)
reply_rows device bytes p key =
    (not (p.device == device), Refuse (no.WrongDevice p.device))
    ∷ (not (has_code key bytes), Refuse no.BadCode)
    ∷ []

-- a Reply is taken, by the record: first its rows of refusals, then its answer
abbrev pub reply_act : ℕ → List ℕ → ReplyMsg → Option State → DeviceAct Taken
reply_act device bytes p None = Refuse no.Blank
reply_act device bytes p (Some s) = first_holding (reply_rows device bytes p s.key) (applied_act device p (apply_answer s s.pending p))

-- a debit that came as a message: the piece is reported too
abbrev pub released_of : ℕ → Franked → Taken
released_of piece f = taken.Released piece f.mark f.again

-- a debit that a message asked for is reported as a Release
abbrev pub released : ℕ → DeviceAct Franked → DeviceAct Taken
released piece (Refuse x) = Refuse x
released piece (Tell f) = Tell (released_of piece f)
released piece (Commits c s f) = Commits c s (released_of piece f)

-- what is done with the message that the bytes read as
abbrev pub message_act : Rules → ℕ → List ℕ → ℤ → Option State → Result Message Unread → DeviceAct Taken
message_act ρ device bytes today state (Ok (m.Reply p)) = reply_act device bytes p state
message_act ρ device bytes today state (Ok (m.Debit q)) = released q.piece (debit_act ρ device q today state)
message_act ρ device bytes today state (Ok _) = Refuse (no.Unread unread.Tag)
message_act ρ device bytes today state (Err x) = Refuse (no.Unread x)

abbrev pub take_act : Rules → ℕ → List ℕ → ℤ → Option State → DeviceAct Taken
take_act ρ device bytes today state = message_act ρ device bytes today state (read bytes)

-- == resend, ack, status: they commit nothing ==

-- what the record answers is reported
abbrev pub told_act : {A : Type 0} → Result A DevRefusal → DeviceAct A
told_act (Ok a) = Tell a
told_act (Err x) = Refuse x

abbrev pub resend_act : Option State → DeviceAct (List ℕ)
resend_act None = Refuse no.Blank
resend_act (Some s) = told_act (resend_answer s s.pending)

-- a Done is made, by the record
abbrev pub ack_act : Option State → DeviceAct (List ℕ)
ack_act None = Refuse no.Blank
ack_act (Some s) = told_act (done_answer s)

-- the status, by the record
abbrev pub status_act : ℤ → Option State → DeviceAct DevView
status_act today None = Refuse no.Blank
status_act today (Some s) = Tell (status_of s today)
