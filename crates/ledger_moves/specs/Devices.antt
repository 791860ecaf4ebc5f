-- The device's part of an event: the plan of what its record after the commits does. Amounts are in mills, days since 1970-01-01.
use Rattle.std.specs.Prelude.{ℕ, ℤ, ◌+◌, Bool, List, [], ◌∷◌, Option, Some, None, Result, option_map}
use Rattle.bench_base.specs.declared.{words.Kind.Kind, refusals.Unread.Unread, refusals.DevRefusal.DevRefusal, ledger.Commit.Commit, ledger.Entry.Entry, events.Reply.Reply}
use Rattle.bench_base.specs.declared.refusals.DevRefusal.TheVariants as no
use Rattle.bench_base.specs.declared.ledger.Entry.TheVariants as e
use Rattle.bench_base.specs.declared.events.Reply.TheVariants as r
use Rattle.bench_base.specs.Rules.{Rules}
use Rattle.bench_base.specs.Plans.{Plan, refuse, told}
use Rattle.node_acts.specs.Plans.{plan_of}
use Rattle.psd_wire.specs.declared.{message.DebitMsg.DebitMsg, message.Message.Message}
use Rattle.psd_wire.specs.declared.message.Message.TheVariants as m
use Rattle.psd_wire.specs.Grammar.{spell}
use Rattle.ledger_terms.specs.Devices.{key_of, number}
use Rattle.psd_state.specs.State.{State}
use Rattle.psd_state.specs.Records.{state_of}
use Rattle.psd_state.specs.Acts as acts
use Rattle.psd_state.specs.Acts.{DeviceAct}
use Rattle.psd_state.specs.declared.{acts.Franked.Franked, acts.Taken.Taken}
use Rattle.psd_state.specs.declared.acts.Taken.TheVariants as taken

-- the record of device d after these commits, if it was made: under this key
abbrev pub record_with : ℕ → List Commit → Option (List ℕ) → Option State
record_with d C key = option_map (λ k. state_of d k C) key

abbrev pub record_in : ℕ → List Commit → Option State
record_in d C = record_with d C (key_of d C)

-- the plan of an act of device d, by its reply and its entries if it is done
abbrev pub planned : {A : Type 0} → ℕ → (A → Reply) → (A → List Entry) → DeviceAct A → Plan
planned d reply tell act = plan_of (r.DevRefused d) reply tell act

-- the device refuses
abbrev pub no_device : ℕ → DevRefusal → Plan
no_device d x = refuse (r.DevRefused d x)

-- the plan of making a device
abbrev pub make_plan : ℕ → List ℕ → List Commit → Option (List ℕ) → Plan
make_plan d key C k = planned d (λ u. r.Made d) (λ u. []) (acts.make_act d key (record_with d C k))

-- == ask, resend, ack ==

-- the note of what is asked is sent as message k
abbrev pub asked_plan : ℕ → ℕ → ℕ → DeviceAct (List ℕ) → Plan
asked_plan d n k act = planned d (λ note. r.SentRequest d n k) (λ note. e.Sent note ∷ []) act

-- the plan of asking for a transaction
abbrev pub ask_plan : Rules → ℕ → Kind → ℕ → ℕ → ℤ → ℕ → List Commit → Option (List ℕ) → Plan
ask_plan ρ d kind who a today k C key = asked_plan d (number d C + 1) k (acts.ask_act ρ d kind who a today (record_with d C key))

-- the note of the last Asked is sent as it was
abbrev pub resend_plan : ℕ → ℕ → Option (List ℕ) → Option (ℕ × List ℕ) → Plan
resend_plan d k None w = no_device d no.Blank
resend_plan d k (Some key) None = no_device d no.NothingPending
resend_plan d k (Some key) (Some p) = told (r.SentRequest d p.0 k) (e.Sent p.1 ∷ [])

-- the plan of a Done that is sent as message k
abbrev pub done_plan : ℕ → ℕ → ℕ → DeviceAct (List ℕ) → Plan
done_plan d n k act = planned d (λ note. r.SentDone d n k) (λ note. e.Sent note ∷ []) act

-- the plan of an acknowledgement
abbrev pub ack_plan : ℕ → ℕ → List Commit → Option (List ℕ) → Plan
ack_plan d k C key = done_plan d (number d C) k (acts.ack_act (record_with d C key))

-- the plan of a status
abbrev pub status_plan : ℕ → ℤ → List Commit → Option (List ℕ) → Plan
status_plan d today C key = planned d (r.Status d) (λ view. []) (acts.status_act today (record_with d C key))

-- == debit ==

-- how a debit is reported, by whether it was made before and its mark
pub record Teller : Type 0 where
  pub reply : Bool → List ℕ → Reply
  pub tell : List ℕ → List Entry

-- to the user of the device
abbrev pub shown : ℕ → ℕ → Teller
shown d piece = record { reply = λ again x. r.Marked d piece again x; tell = λ x. e.Released d piece x ∷ [] }

-- by message k, to who sent the debit
abbrev pub sent : ℕ → ℕ → ℕ → Teller
sent d piece k = record { reply = λ again x. r.Released d piece again k; tell = λ x. e.Sent (spell (m.Release x) []) ∷ e.Released d piece x ∷ [] }

-- the plan of a debit by its act, reported in one of two ways
abbrev pub franked_plan : Teller → ℕ → DeviceAct Franked → Plan
franked_plan T d act = planned d (λ f. T.reply f.again f.mark) (λ f. T.tell f.mark) act

-- the plan of a debit, reported in one of two ways
abbrev pub debit_plan : Rules → Teller → ℕ → DebitMsg → ℤ → List Commit → Option (List ℕ) → Plan
debit_plan ρ T d q today C key = franked_plan T d (acts.debit_act ρ d q today (record_with d C key))

-- == a Reply, a Debit ==

-- how device d reports what it took; a debit by message k
abbrev pub taken_reply : ℕ → ℕ → Taken → Reply
taken_reply d k (taken.Applied n v) = r.Applied d n v
taken_reply d k (taken.Released piece x again) = (sent d piece k).reply again x

-- the entries of a message that was taken: only a debit has some
abbrev pub taken_tell : ℕ → ℕ → Taken → List Entry
taken_tell d k (taken.Applied n v) = []
taken_tell d k (taken.Released piece x again) = (sent d piece k).tell x

-- the plan of a message that a device takes
abbrev pub taken_plan : ℕ → ℕ → DeviceAct Taken → Plan
taken_plan d k act = planned d (taken_reply d k) (taken_tell d k) act

-- bytes that are handed to the device, by what they read as
abbrev pub device_take : Rules → ℕ → ℤ → ℕ → List ℕ → Result Message Unread → List Commit → Option (List ℕ) → Plan
device_take ρ k today d bytes read C key = taken_plan d k (acts.message_act ρ d bytes today (record_with d C key) read)
