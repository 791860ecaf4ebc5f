-- The acts of a device's calls: what they change, and how they are reported.
use Rattle.std.proofs.Common.{rules, ◌≡◌, ◌≢◌, ℕ, ℤ, ◌+◌, ◌==◌, ◌&&◌, List, Option, Some, None, Result, Ok, Err, inl, inr, refl, subst, arith}
use Rattle.std.specs.Prelude.{IfSome}
use Rattle.bench_base.specs.declared.{words.Node.TheVariants.Device, words.Kind.Kind, refusals.DevRefusal.DevRefusal, refusals.Unread.Unread}
use Rattle.bench_base.specs.declared.words.Kind.TheVariants as kinds
use Rattle.bench_base.specs.Kinds.{is_granted}
use Rattle.bench_base.specs.declared.refusals.DevRefusal.TheVariants as no
use Rattle.bench_base.specs.declared.events.Event.TheVariants as ev
use Rattle.bench_base.specs.declared.events.Reply.TheVariants as r
use Rattle.bench_base.specs.Rules.{Rules, todays_rules}
use Rattle.bench_base.proofs.Rows.{chosen, first}
use Rattle.indicium.specs.declared.Mark.{Mark}
use Rattle.indicium.specs.Marks as marks
use Rattle.node_acts.proofs.OfCommits.{commit_says}
use Rattle.psd_state.proofs.Released.{commit_released}
use Rattle.node_storage.specs.declared.node.Node.{Ghosts}
use Rattle.node_storage.specs.Shown.{IsFitting}
use Rattle.psd_wire.specs.declared.{message.DebitMsg.DebitMsg, message.ReplyMsg.ReplyMsg, message.Request.Request, message.Message.Message}
use Rattle.psd_wire.specs.declared.message.Message.TheVariants as m
use Rattle.psd_wire.specs.Grammar.{read}
use Rattle.psd_state.specs.State.{State}
use Rattle.psd_state.specs.Acts.{DeviceAct, make_act, franked_act, debit_act, asked_act, ask_act, applied_act, reply_rows, reply_act, message_act, take_act, told_act, resend_act, ack_act, status_act}
use Rattle.psd_state.specs.Answers.{debit_answer, new_answer, piece_rows, debit_rows, frozen_kind, repeated, unless, unless_again, ask_answer, ask_rows, waiting_kind, apply_answer, apply_rows, after_apply, resend_answer, done_answer}
use Rattle.psd_state.specs.Answers as answers
use Rattle.psd_state.specs.declared.{debiting.Debited.Debited, debiting.Debited.TheVariants.New, debiting.Debited.TheVariants.Again, acts.Taken.Taken}
use Rattle.psd_state.specs.declared.acts.Taken.TheVariants as taken_as
use Rattle.ledger_moves.specs.Moves.{debit_by}
use Rattle.bench_abstraction.specs.declared.{calls.DeviceCall.DeviceCall, calls.DeviceCall.TheVariants.Make, calls.DeviceCall.TheVariants.Debit, calls.DeviceCall.TheVariants.Ask, calls.DeviceCall.TheVariants.Resend, calls.DeviceCall.TheVariants.Ack, calls.DeviceCall.TheVariants.Status, calls.DeviceCall.TheVariants.Take}
use Rattle.bench_abstraction.specs.Devices as views
use Rattle.bench_abstraction.specs.Devices.{device_act}
use Rattle.bench_abstraction.proofs.Plans.{call_own}
use Rattle.bench.specs.Calls.{device_call_event}
use Rattle.bench.proofs.Calls.{polite_says, CommitsNone, told_made, told_none}
use Rattle.node_turns.proofs.Calls.{IsCallOf, IsToldBy, MayRefuse, MaySay}

-- == what a call changes ==

-- a new record has this number
abbrev Keeps : ℕ → Result Debited DevRefusal → Type 0
Keeps n (Ok (New s x)) = s.device ≡ n
Keeps n (Ok (Again x)) = Unit {0}
Keeps n (Err x) = Unit {0}

unless_keeps : (n : ℕ) (o : Option Kind) (answer : Result Debited DevRefusal) → Keeps n answer → Keeps n (unless o no.Frozen answer)
unless_keeps n None answer keeps = keeps
unless_keeps n (Some k) answer keeps = tt

again_keeps : (n : ℕ) (o : Option Mark) (c : DebitMsg) (key : List ℕ) (otherwise : Result Debited DevRefusal) → Keeps n otherwise → Keeps n (unless_again o c key otherwise)
again_keeps n None c key otherwise keeps = keeps
again_keeps n (Some k) c key otherwise keeps =
    chosen (Keeps n) ((k.postage == c.postage) && (k.class == c.class)) (Ok (Again (marks.spell k key))) (Err (no.Conflict k.postage k.class)) (λ _. tt) (λ _. tt)

-- a debit leaves the device's number
debit_keeps : (ρ : Rules) (s : State) (c : DebitMsg) (today : ℤ) → Keeps s.device (debit_answer ρ s c today)
debit_keeps ρ s c today = chosen (Keeps s.device) (c.device == s.device) (unless_again (repeated s.mark c.piece) c s.key (new_answer ρ s c today)) (Err (no.WrongDevice c.device))
    (λ same. again_keeps s.device (repeated s.mark c.piece) c s.key (new_answer ρ s c today)
    (first (Keeps s.device) (piece_rows s c) _ (search rules)
    (λ _. unless_keeps s.device (frozen_kind s.pending) _ (first (Keeps s.device) (debit_rows ρ s c today) _ (search rules) (λ _. refl)))))
    (λ _. tt)

-- so does what is asked
abbrev KeepsAsked : ℕ → Result (State × List ℕ) DevRefusal → Type 0
KeepsAsked n (Ok x) = x.0.device ≡ n
KeepsAsked n (Err x) = Unit {0}

unless_asked : (n : ℕ) (o : Option Kind) (answer : Result (State × List ℕ) DevRefusal) → KeepsAsked n answer → KeepsAsked n (unless o no.Busy answer)
unless_asked n None answer keeps = keeps
unless_asked n (Some k) answer keeps = tt

ask_keeps : (s : State) (kind : Kind) (who amount : ℕ) (today : ℤ) → KeepsAsked s.device (ask_answer todays_rules s kind who amount today)
ask_keeps s kind who amount today =
    unless_asked s.device (waiting_kind s.pending) _ (first (KeepsAsked s.device) (ask_rows todays_rules s kind amount today) _ (search rules) (λ _. refl))

-- and what is applied
abbrev KeepsApplied : ℕ → Result State DevRefusal → Type 0
KeepsApplied n (Ok x) = x.device ≡ n
KeepsApplied n (Err x) = Unit {0}

granted_keeps : (k : Kind) (s : State) (q : Request) (p : ReplyMsg) → (answers.granted k s q p).device ≡ s.device
granted_keeps kinds.Enrol s q p = refl
granted_keeps kinds.Reset s q p = refl
granted_keeps kinds.Audit s q p = refl
granted_keeps kinds.Refund s q p = refl
granted_keeps kinds.Withdraw s q p = refl

apply_keeps : (s : State) (o : Option Request) (p : ReplyMsg) → KeepsApplied s.device (apply_answer s o p)
apply_keeps s None p = tt
apply_keeps s (Some q) p = first (KeepsApplied s.device) (apply_rows p q) (Ok (after_apply s q p)) (search rules)
    (λ _. chosen (λ (x : State). x.device ≡ s.device) (is_granted p.verdict) _ _ (λ _. granted_keeps q.kind s q p) (λ _. refl))

module _ {K S R : Type 0} (n : Ghosts K S ℕ State R) (from : (d : ℕ) (s : n.Seen) (x : State) → x.device ≡ d → n.IsFrom d s x) (d : ℕ) (seen : n.Seen) where
  make_fits : (key : List ℕ) (state : Option State) → IsFitting n d seen (make_act d key state)
  make_fits key None = from d seen _ refl
  make_fits key (Some t) = tt

  franked_fits : (q : DebitMsg) (today : ℤ) (answer : Result Debited DevRefusal) → Keeps d answer → IsFitting n d seen (franked_act todays_rules d q today answer)
  franked_fits q today (Err x) keeps = tt
  franked_fits q today (Ok (New t x)) keeps = from d seen t keeps
  franked_fits q today (Ok (Again x)) keeps = tt

  debit_fits : (q : DebitMsg) (today : ℤ) (state : Option State) → IfSome state (λ s. s.device ≡ d) → IsFitting n d seen (debit_act todays_rules d q today state)
  debit_fits q today None is = tt
  debit_fits q today (Some t) is = franked_fits q today (debit_answer todays_rules t q today) (subst (λ (k : ℕ). Keeps k (debit_answer todays_rules t q today)) is (debit_keeps todays_rules t q today))

  asked_fits : (k : ℕ) (answer : Result (State × List ℕ) DevRefusal) → KeepsAsked d answer → IsFitting n d seen (asked_act d k answer)
  asked_fits k (Err x) keeps = tt
  asked_fits k (Ok x) keeps = from d seen x.0 keeps

  ask_fits : (kind : Kind) (who amount : ℕ) (today : ℤ) (state : Option State) → IfSome state (λ s. s.device ≡ d) → IsFitting n d seen (ask_act todays_rules d kind who amount today state)
  ask_fits kind who amount today None is = tt
  ask_fits kind who amount today (Some s) is =
      asked_fits (s.number + 1) (ask_answer todays_rules s kind who amount today) (subst (λ (k : ℕ). KeepsAsked k (ask_answer todays_rules s kind who amount today)) is (ask_keeps s kind who amount today))

  told_fits : {A : Type 0} (answer : Result A DevRefusal) → IsFitting n d seen (told_act answer)
  told_fits (Ok a) = tt
  told_fits (Err x) = tt

  resend_fits : (state : Option State) → IsFitting n d seen (resend_act state)
  resend_fits None = tt
  resend_fits (Some s) = told_fits (resend_answer s s.pending)

  ack_fits : (state : Option State) → IsFitting n d seen (ack_act state)
  ack_fits None = tt
  ack_fits (Some s) = told_fits (done_answer s)

  status_fits : (today : ℤ) (state : Option State) → IsFitting n d seen (status_act today state)
  status_fits today None = tt
  status_fits today (Some s) = tt

  applied_fits : (p : ReplyMsg) (answer : Result State DevRefusal) → KeepsApplied d answer → IsFitting n d seen (applied_act d p answer)
  applied_fits p (Err x) keeps = tt
  applied_fits p (Ok s) keeps = from d seen s keeps

  reply_fits : (bytes : List ℕ) (p : ReplyMsg) (state : Option State) → IfSome state (λ s. s.device ≡ d) → IsFitting n d seen (reply_act d bytes p state)
  reply_fits bytes p None is = tt
  reply_fits bytes p (Some s) is =
      first (λ (a : DeviceAct Taken). IsFitting n d seen a) (reply_rows d bytes p s.key) (applied_act d p (apply_answer s s.pending p)) (search rules)
      (λ _. applied_fits p (apply_answer s s.pending p) (subst (λ (k : ℕ). KeepsApplied k (apply_answer s s.pending p)) is (apply_keeps s s.pending p)))

  message_fits : (bytes : List ℕ) (today : ℤ) (state : Option State) → IfSome state (λ s. s.device ≡ d) → (x : Result Message Unread) → IsFitting n d seen (message_act todays_rules d bytes today state x)
  message_fits bytes today state is (Ok (m.Reply p)) = reply_fits bytes p state is
  message_fits bytes today state is (Ok (m.Debit q)) = commit_released _ q.piece (debit_act todays_rules d q today state) (debit_fits q today state is)
  message_fits bytes today state is (Ok (m.Request q)) = tt
  message_fits bytes today state is (Ok (m.Done q)) = tt
  message_fits bytes today state is (Ok (m.Release x)) = tt
  message_fits bytes today state is (Err x) = tt

  -- a call of a device changes the record of that device
  pub call_fits : (today : ℤ) (call : DeviceCall) (state : Option State) → IfSome state (λ s. s.device ≡ d) → IsFitting n d seen (device_act d today call state)
  call_fits today (Make c) state is = commit_says _ _ _ (make_act d c.key state) (make_fits c.key state)
  call_fits today (Debit c) state is =
      commit_says _ _ _ (debit_act todays_rules d (debit_by d c.piece c.postage c.class) today state) (debit_fits (debit_by d c.piece c.postage c.class) today state is)
  call_fits today (Ask c) state is = commit_says _ _ _ (ask_act todays_rules d c.kind c.customer c.amount today state) (ask_fits c.kind c.customer c.amount today state is)
  call_fits today (Resend c) state is = commit_says _ _ _ (resend_act state) (resend_fits state)
  call_fits today (Ack c) state is = commit_says _ _ _ (ack_act state) (ack_fits state)
  call_fits today Status state is = commit_says _ _ _ (status_act today state) (status_fits today state)
  call_fits today (Take c) state is = commit_says _ _ _ (take_act todays_rules d c.bytes today state) (message_fits c.bytes today state is (read c.bytes))

-- == what commits nothing ==

told_free : {A : Type 0} (answer : Result A DevRefusal) → CommitsNone (told_act answer)
told_free (Ok a) = tt
told_free (Err x) = tt

resend_free : (state : Option State) → CommitsNone (resend_act state)
resend_free None = tt
resend_free (Some s) = told_free (resend_answer s s.pending)

ack_free : (state : Option State) → CommitsNone (ack_act state)
ack_free None = tt
ack_free (Some s) = told_free (done_answer s)

status_free : (today : ℤ) (state : Option State) → CommitsNone (status_act today state)
status_free today None = tt
status_free today (Some s) = tt

-- == how they are reported ==

pub call_of : (d : ℕ) (call : DeviceCall) → IsCallOf (Device d) (device_call_event d call)
call_of d (Make c) = record { on = refl; at = refl; no_switch = λ e. cc; no_cut = λ calls keep byte e. cc }
call_of d (Debit c) = record { on = refl; at = refl; no_switch = λ e. cc; no_cut = λ calls keep byte e. cc }
call_of d (Ask c) = record { on = refl; at = refl; no_switch = λ e. cc; no_cut = λ calls keep byte e. cc }
call_of d (Resend c) = record { on = refl; at = refl; no_switch = λ e. cc; no_cut = λ calls keep byte e. cc }
call_of d (Ack c) = record { on = refl; at = refl; no_switch = λ e. cc; no_cut = λ calls keep byte e. cc }
call_of d Status = record { on = refl; at = refl; no_switch = λ e. cc; no_cut = λ calls keep byte e. cc }
call_of d (Take c) = record { on = refl; at = refl; no_switch = λ e. cc; no_cut = λ calls keep byte e. cc }

no_off : (d : ℕ) (call : DeviceCall) → device_call_event d call ≢ ev.Off (Device d)
no_off d (Make c) = λ e. cc
no_off d (Debit c) = λ e. cc
no_off d (Ask c) = λ e. cc
no_off d (Resend c) = λ e. cc
no_off d (Ack c) = λ e. cc
no_off d Status = λ e. cc
no_off d (Take c) = λ e. cc

-- a device's refusal
refused : (d : ℕ) (call : DeviceCall) (x : DevRefusal) → MayRefuse (Device d) (device_call_event d call) (r.DevRefused d x)
refused d call x = record {
  told = refl;
  on_day = λ e. cc;
  not_off = λ e. cc;
  gets = record { on = (call_of d call).on; at = (call_of d call).at; no_switch = no_off d call };
}

took_said : (d k : ℕ) (bytes : List ℕ) (a : Taken) → MaySay (ev.Give (Device d) bytes) (views.took d k a)
took_said d k bytes (taken_as.Applied n v) = record { told = refl; gets = inr (bytes, refl); adds = λ made none. (made, none, refl) }
took_said d k bytes (taken_as.Released piece x again) = record { told = refl; gets = inr (bytes, refl); adds = λ made none. (_, x, (made, none, refl)) }

pub call_told : (d : ℕ) (today : ℤ) (call : DeviceCall) (s : Option State) → IsToldBy (Device d) (device_call_event d call) (device_act d today call s)
call_told d today (Make c) s = told_made (Device d) _ refl (omega arith) (device_act d today (Make c) s) (call_own d today (Make c) s)
    (polite_says (Device d) (ev.Make d c.key) (r.DevRefused d) (λ u. views.made d) (refused d (Make c)) (λ u. record { told = refl; gets = (c.key, refl); adds = λ made none. (made, none, refl) }) (make_act d c.key s))
call_told d today (Debit c) s = told_made (Device d) _ refl (omega arith) (device_act d today (Debit c) s) (call_own d today (Debit c) s)
    (polite_says (Device d) (ev.Debit d c.piece c.postage c.class) (r.DevRefused d) (views.marked d c.piece) (refused d (Debit c)) (λ f. record { told = refl; gets = (c.postage, c.class, refl); adds = λ made none. (made, none, refl) })
    (debit_act todays_rules d (debit_by d c.piece c.postage c.class) today s))
call_told d today (Ask c) s = told_made (Device d) _ refl (omega arith) (device_act d today (Ask c) s) (call_own d today (Ask c) s)
    (polite_says (Device d) (ev.Ask d c.kind c.customer c.amount) (r.DevRefused d) (views.asked d c.message s) (refused d (Ask c)) (λ note. record { told = refl; gets = inl (c.kind, c.customer, c.amount, refl); adds = λ made none. (note, (made, none, refl)) })
    (ask_act todays_rules d c.kind c.customer c.amount today s))
call_told d today (Resend c) s = told_none (Device d) _ (device_act d today (Resend c) s) (commit_says _ _ _ (resend_act s) (resend_free s))
    (polite_says (Device d) (ev.Resend d) (r.DevRefused d) (views.asked d c.message s) (refused d (Resend c)) (λ note. record { told = refl; gets = inr refl; adds = λ made none. (note, (made, none, refl)) }) (resend_act s))
call_told d today (Ack c) s = told_none (Device d) _ (device_act d today (Ack c) s) (commit_says _ _ _ (ack_act s) (ack_free s))
    (polite_says (Device d) (ev.Ack d) (r.DevRefused d) (views.sent (r.SentDone d (views.number_in s) c.message)) (refused d (Ack c)) (λ note. record { told = refl; gets = refl; adds = λ made none. (note, (made, none, refl)) }) (ack_act s))
call_told d today Status s = told_none (Device d) _ (device_act d today Status s) (commit_says _ _ _ (status_act today s) (status_free today s))
    (polite_says (Device d) (ev.Status d) (r.DevRefused d) (views.shown d) (refused d Status) (λ shown. record { told = refl; gets = refl; adds = λ made none. (made, none, refl) }) (status_act today s))
call_told d today (Take c) s = told_made (Device d) _ refl (omega arith) (device_act d today (Take c) s) (call_own d today (Take c) s)
    (polite_says (Device d) (ev.Give (Device d) c.bytes) (r.DevRefused d) (views.took d c.message) (refused d (Take c)) (took_said d c.message c.bytes) (take_act todays_rules d c.bytes today s))
