-- A device, as the ledger shows it to the bench, and what a call of it does by that alone.
use Rattle.std.specs.Prelude.{ℕ, ℤ, ◌+◌, ◌≤◌, Bool, List, [], Option, Some, None, IfSome, ◌==◌, if◌then◌else◌}
use Rattle.bench_base.specs.declared.{words.Node.TheVariants.Device, sizes.TheConstants.MOST_COMMITS, ledger.Commit.Commit, events.DevView.DevView, events.Reply.Reply}
use Rattle.bench_base.specs.declared.events.Reply.TheVariants as r
use Rattle.bench_base.specs.Rules.{todays_rules}
use Rattle.bench_base.specs.Ledger.{count_of}
use Rattle.node_acts.specs.declared.{act.Act.Act, said.Said.Said, said.GivenOut.TheVariants.Released}
use Rattle.node_acts.specs.Said.{replies, gives, sends, saying, kind_by}
use Rattle.node_acts.specs.Kinds.{Kind}
use Rattle.psd_wire.specs.declared.message.Message.TheVariants as m
use Rattle.psd_wire.specs.Grammar.{spell}
use Rattle.psd_state.specs.State.{State, Holds}
use Rattle.psd_state.specs.Seen.{Seen, counting}
use Rattle.psd_state.specs.Acts.{DeviceAct, make_act, debit_act, ask_act, resend_act, ack_act, status_act, take_act}
use Rattle.psd_state.specs.declared.{acts.Franked.Franked, acts.Taken.Taken}
use Rattle.psd_state.specs.declared.acts.Taken.TheVariants as taken
use Rattle.ledger_moves.specs.Devices.{record_in}
use Rattle.ledger_moves.specs.Moves.{debit_by}
use Rattle.bench_abstraction.specs.declared.{calls.DeviceCall.DeviceCall, calls.DeviceCall.TheVariants.Make, calls.DeviceCall.TheVariants.Debit, calls.DeviceCall.TheVariants.Ask, calls.DeviceCall.TheVariants.Resend, calls.DeviceCall.TheVariants.Ack, calls.DeviceCall.TheVariants.Status, calls.DeviceCall.TheVariants.Take}

abbrev pub seen_in : ℕ → List Commit → Seen
seen_in d C = record { count = count_of (Device d) C; state = record_in d C }

-- == what it says ==

-- the number of the last transaction that was applied
abbrev pub number_in : Option State → ℕ
number_in None = 0
number_in (Some s) = s.number

-- and of the one after it, which stands still at the end of its type
abbrev pub next_number : Option State → ℕ
next_number None = 0
next_number (Some s) = if s.number == 4294967295 then s.number else s.number + 1

abbrev pub made : ℕ → Said
made d = replies (r.Made d)

abbrev pub marked : ℕ → ℕ → Franked → Said
marked d piece f = gives (r.Marked d piece f.again f.mark) (Released (record { device = d; piece = piece; mark = f.mark }))

abbrev pub sent : Reply → List ℕ → Said
sent reply note = sends reply note

-- a request is message k
abbrev pub asked : ℕ → ℕ → Option State → List ℕ → Said
asked d k s note = sends (r.SentRequest d (next_number s) k) note

abbrev pub shown : ℕ → DevView → Said
shown d view = replies (r.Status d view)

-- a debit that came as a message is answered by message k
abbrev pub released : ℕ → ℕ → ℕ → List ℕ → Bool → Said
released d k piece mark again = record {
  reply = r.Released d piece again k;
  given = Some (Released (record { device = d; piece = piece; mark = mark }));
  sent = Some (spell (m.Release mark) []);
}

-- what became of a message that it took
abbrev pub took : ℕ → ℕ → Taken → Said
took d k (taken.Applied n v) = replies (r.Applied d n v)
took d k (taken.Released piece mark again) = released d k piece mark again

-- == its calls ==

-- the act of device d, by how it says what it answers
abbrev pub says : {A : Type 0} → ℕ → (A → Said) → DeviceAct A → Act State Reply Said
says d say act = saying (r.DevRefused d) say act

abbrev pub device_act : ℕ → ℤ → DeviceCall → Option State → Act State Reply Said
device_act d today (Make c) s = says d (λ u. made d) (make_act d c.key s)
device_act d today (Debit c) s = says d (marked d c.piece) (debit_act todays_rules d (debit_by d c.piece c.postage c.class) today s)
device_act d today (Ask c) s = says d (asked d c.message s) (ask_act todays_rules d c.kind c.customer c.amount today s)
device_act d today (Resend c) s = says d (asked d c.message s) (resend_act s)
device_act d today (Ack c) s = says d (sent (r.SentDone d (number_in s) c.message)) (ack_act s)
device_act d today Status s = says d (shown d) (status_act today s)
device_act d today (Take c) s = says d (took d c.message) (take_act todays_rules d c.bytes today s)

abbrev pub device_kind : Kind ℕ Seen DeviceCall
device_kind = kind_by counting (λ d. Device d) seen_in (λ d today call s. device_act d today call s.state)

-- a record that storage can show: no more commits than its cell can count, and what holds of each record
pub record IsKnown (s : Seen) : Type 0 where
  pub few : s.count ≤ MOST_COMMITS
  pub holds : IfSome s.state Holds
