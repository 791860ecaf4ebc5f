-- The plan of an event of a device follows from what is seen of the device.
use Rattle.std.proofs.Common.{◌≡◌, ◌≢◌, ℕ, ℤ, ◌∷◌, arith, List, [], Option, Some, None, Result, Ok, Err, refl, sym, ◌∙◌, ap, subst, if◌then◌else◌, rules}
use Rattle.bench_base.proofs.Rows.{first}
use Rattle.std.specs.Prelude.{length, ◌+◌, ◌==◌, IfSome, slice_get}
use Rattle.bench_base.specs.declared.{words.Kind.Kind, words.Node.Node, words.Node.TheVariants.Device, refusals.DevRefusal.DevRefusal, refusals.Unread.Unread, ledger.Commit.Commit, events.Event.Event}
use Rattle.bench_base.specs.declared.ledger.Entry.TheVariants as entry
use Rattle.std.proofs.lemmas.Bool.{ne_eqb}
use Rattle.std.proofs.lemmas.Option.{same_Some}
use Rattle.bench_base.specs.declared.ledger.Commit.TheVariants as c
use Rattle.bench_base.specs.Rules.{todays_rules}
use Rattle.bench_base.specs.Nodes.{node_of}
use Rattle.bench_base.specs.Plans.{Plan, told}
use Rattle.bench_base.specs.Plans as plans
use Rattle.bench_base.specs.declared.events.Reply.TheVariants as r
use Rattle.bench_base.specs.Cells.{OfDevice, place_of}
use Rattle.bench_base.specs.Ledger.{Ledger, day_in, counted, messages, message}
use Rattle.psd_wire.specs.declared.{message.DebitMsg.DebitMsg, message.ReplyMsg.ReplyMsg, message.Message.Message}
use Rattle.psd_wire.specs.declared.message.Message.TheVariants as m
use Rattle.psd_wire.specs.Grammar.{read}
use Rattle.ledger_terms.specs.Devices.{key_of, pending, number, waiting}
use Rattle.psd_state.specs.State.{State, Holds, PendingOk}
use Rattle.psd_state.specs.Records.{IsRecordOf, IsOutstanding, state_of}
use Rattle.psd_state.specs.Answers.{debit_answer, ask_answer, apply_answer, resend_answer, done_answer}
use Rattle.psd_state.proofs.Decisions.{asks_below}
use Rattle.psd_state.specs.Laws.{ResendingRepeats}
use Rattle.psd_state.specs.declared.{debiting.Debited.Debited, debiting.Debited.TheVariants.New, debiting.Debited.TheVariants.Again, acts.Taken.Taken}
use Rattle.psd_state.specs.declared.acts.Taken.TheVariants as taken_as
use Rattle.psd_state.specs.Acts.{DeviceAct, make_act, franked_act, debit_act, asked_act, ask_act, applied_act, reply_rows, reply_act, message_act, take_act, told_act, resend_act, ack_act, status_act}
use Rattle.node_acts.specs.declared.{act.Act.Act, asked.Asked.Asked as AskedOf}
use Rattle.node_acts.specs.Kinds.{node_plan}
use Rattle.node_acts.specs.Plans.{IsOfNode}
use Rattle.node_acts.specs.Said.{tells, saying, said_plan, seen_plan}
use Rattle.node_acts.proofs.OfCommits.{of_commit, commit_says}
use Rattle.psd_state.proofs.Released.{commit_released}
use Rattle.psd_state.specs.Seen.{counting}
use Rattle.ledger_moves.specs.Tariffs.{Tariff}
use Rattle.ledger_moves.specs.Devices as device
use Rattle.ledger_moves.specs.Devices.{record_in, record_with}
use Rattle.ledger_moves.specs.Moves.{plan, at_node, debit_by, addressee, deliver_plan, give_plan}
use Rattle.bench_abstraction.specs.declared.{calls.DeviceCall.DeviceCall, calls.DeviceCall.TheVariants.Make, calls.DeviceCall.TheVariants.Debit, calls.DeviceCall.TheVariants.Ask, calls.DeviceCall.TheVariants.Resend, calls.DeviceCall.TheVariants.Ack, calls.DeviceCall.TheVariants.Status, calls.DeviceCall.TheVariants.Take}
use Rattle.bench_abstraction.specs.declared.routing.Routed.TheVariants as route
use Rattle.bench_abstraction.specs.declared.routing.OfDay.TheVariants as of_day
use Rattle.bench_abstraction.specs.Routing as routing
use Rattle.bench_abstraction.specs.Routing.{routed}
use Rattle.bench_abstraction.specs.Tariff.{Quote}
use Rattle.bench_abstraction.specs.Devices.{seen_in, asked, took, device_act, device_kind, IsKnown}
use Rattle.bench_abstraction.specs.Messages.{sent_in}
use Rattle.bench_abstraction.proofs.Calling.{plan_says, at_seen, IsWornAlike}
use Rattle.bench_abstraction.proofs.Counts.{worn_is}
use Rattle.bench_abstraction.proofs.Events.{each_asked, same_taker}
use Rattle.bench_abstraction.proofs.Sent.{sent_many, sent_at}
use Rattle.bench_abstraction.proofs.Shown.{device_view}

-- == the node of each commit ==

module _ (d : ℕ) where
  make_own : (key : List ℕ) (s : Option State) → IsOfNode (Device d) (make_act d key s)
  make_own key None = refl
  make_own key (Some s) = tt

  franked_own : (q : DebitMsg) (today : ℤ) (result : Result Debited DevRefusal) → IsOfNode (Device d) (franked_act todays_rules d q today result)
  franked_own q today (Err x) = tt
  franked_own q today (Ok (New s x)) = refl
  franked_own q today (Ok (Again x)) = tt

  debit_own : (q : DebitMsg) (today : ℤ) (s : Option State) → IsOfNode (Device d) (debit_act todays_rules d q today s)
  debit_own q today None = tt
  debit_own q today (Some s) = franked_own q today (debit_answer todays_rules s q today)

  asked_own : (n : ℕ) (result : Result (State × List ℕ) DevRefusal) → IsOfNode (Device d) (asked_act d n result)
  asked_own n (Err x) = tt
  asked_own n (Ok x) = refl

  ask_own : (kind : Kind) (who amount : ℕ) (today : ℤ) (s : Option State) → IsOfNode (Device d) (ask_act todays_rules d kind who amount today s)
  ask_own kind who amount today None = tt
  ask_own kind who amount today (Some s) = asked_own (s.number + 1) (ask_answer todays_rules s kind who amount today)

  told_own : {A : Type 0} (result : Result A DevRefusal) → IsOfNode (Device d) (told_act result)
  told_own (Ok a) = tt
  told_own (Err x) = tt

  resend_own : (s : Option State) → IsOfNode (Device d) (resend_act s)
  resend_own None = tt
  resend_own (Some s) = told_own (resend_answer s s.pending)

  ack_own : (s : Option State) → IsOfNode (Device d) (ack_act s)
  ack_own None = tt
  ack_own (Some s) = told_own (done_answer s)

  status_own : (today : ℤ) (s : Option State) → IsOfNode (Device d) (status_act today s)
  status_own today None = tt
  status_own today (Some s) = tt

  applied_own : (p : ReplyMsg) (result : Result State DevRefusal) → IsOfNode (Device d) (applied_act d p result)
  applied_own p (Err x) = tt
  applied_own p (Ok s) = refl

  reply_own : (bytes : List ℕ) (p : ReplyMsg) (s : Option State) → IsOfNode (Device d) (reply_act d bytes p s)
  reply_own bytes p None = tt
  reply_own bytes p (Some s) =
      first (λ (a : DeviceAct Taken). IsOfNode (Device d) a) (reply_rows d bytes p s.key) (applied_act d p (apply_answer s s.pending p)) (search rules)
      (λ _. applied_own p (apply_answer s s.pending p))

  message_own : (bytes : List ℕ) (today : ℤ) (s : Option State) (x : Result Message Unread) → IsOfNode (Device d) (message_act todays_rules d bytes today s x)
  message_own bytes today s (Ok (m.Reply p)) = reply_own bytes p s
  message_own bytes today s (Ok (m.Debit q)) = commit_released _ q.piece (debit_act todays_rules d q today s) (debit_own q today s)
  message_own bytes today s (Ok (m.Request q)) = tt
  message_own bytes today s (Ok (m.Done q)) = tt
  message_own bytes today s (Ok (m.Release x)) = tt
  message_own bytes today s (Err x) = tt

  pub call_own : (today : ℤ) (call : DeviceCall) (s : Option State) → IsOfNode (Device d) (device_act d today call s)
  call_own today (Make c) s = commit_says _ _ _ (make_act d c.key s) (make_own c.key s)
  call_own today (Debit c) s = commit_says _ _ _ (debit_act todays_rules d (debit_by d c.piece c.postage c.class) today s) (debit_own (debit_by d c.piece c.postage c.class) today s)
  call_own today (Ask c) s = commit_says _ _ _ (ask_act todays_rules d c.kind c.customer c.amount today s) (ask_own c.kind c.customer c.amount today s)
  call_own today (Resend c) s = commit_says _ _ _ (resend_act s) (resend_own s)
  call_own today (Ack c) s = commit_says _ _ _ (ack_act s) (ack_own s)
  call_own today Status s = commit_says _ _ _ (status_act today s) (status_own today s)
  call_own today (Take c) s = commit_says _ _ _ (take_act todays_rules d c.bytes today s) (message_own c.bytes today s (read c.bytes))

  -- a device's commit goes into its one cell
  own_cell : (c : Commit) → node_of c ≡ Device d → place_of c ≡ OfDevice d
  own_cell (c.Made e key) own = cc
  own_cell _ own = cc

-- the next number, where it fits
counts_on : {n : ℕ} → n ≢ 4294967295 → (if n == 4294967295 then n else n + 1) ≡ n + 1
counts_on {n} fits = rw (ne_eqb n 4294967295 fits) refl

-- a device with the last number asks for nothing
not_full : (s : State) (kind : Kind) (who amount : ℕ) (today : ℤ) (x : State × List ℕ) → ask_answer todays_rules s kind who amount today ≡ Ok x → s.number ≢ 4294967295
not_full s kind who amount today x is full =
    let below = asks_below todays_rules s kind who amount today x is in
    omega (arith, below, full)

module _ (H : Ledger) (resending : ResendingRepeats) where
  module _ (d : ℕ) (known : IsKnown (seen_in d (counted H))) (records : (key : List ℕ) → key_of d (counted H) ≡ Some key → IsRecordOf (state_of d key (counted H)) d (counted H)) where
    abbrev C : List Commit
    C = counted H

    worn_alike : {F A : Type 0} (act : Act State F A) → IsOfNode (Device d) act → IsWornAlike counting (Device d) (seen_in d) H act
    worn_alike act own = of_commit _ _ act own (λ c x is. worn_is d c C (own_cell d c is) known.few)

    -- at the device, the plan of its act is what is seen
    at : (today : ℤ) (call : DeviceCall) → at_node (Device d) H (said_plan (device_act d today call (record_in d C))) ≡ seen_plan counting (Device d) (device_view d H) (device_act d today call (record_in d C))
    at today call =
        let act = device_act d today call (record_in d C) in
        at_seen counting (Device d) (seen_in d) H act (call_own d today call (record_in d C)) (worn_alike act (call_own d today call (record_in d C)))

    by_plan : (p : Plan) (today : ℤ) (call : DeviceCall) → p ≡ said_plan (device_act d today call (record_in d C))
        → at_node (Device d) H p ≡ seen_plan counting (Device d) (device_view d H) (device_act d today call (record_in d C))
    by_plan p today call is = ap (at_node (Device d) H) is ∙ at today call

    ask_is : (kind : Kind) (who amount : ℕ) (today : ℤ) (k : ℕ) (o : Option (List ℕ))
        → device.ask_plan todays_rules d kind who amount today k C o ≡ said_plan (device_act d today (Ask (record { kind = kind; customer = who; amount = amount; message = k })) (record_with d C o))
    ask_is kind who amount today k None = refl
    ask_is kind who amount today k (Some key) = by (ask_answer todays_rules s kind who amount today) refl
      where
        s : State
        s = state_of d key C

        by : (x : Result (State × List ℕ) DevRefusal) → ask_answer todays_rules s kind who amount today ≡ x
            → device.asked_plan d (number d C + 1) k (asked_act d (s.number + 1) x) ≡ said_plan (saying (r.DevRefused d) (asked d k (Some s)) (asked_act d (s.number + 1) x))
        by (Err x) is = refl
        by (Ok x) is = ap (λ (n : ℕ). plans.made (r.SentRequest d n k) (c.Asked d (s.number + 1) x.1) (entry.Sent x.1 ∷ [])) (sym (counts_on (not_full s kind who amount today x is)))

    ack_is : (today : ℤ) (k : ℕ) (o : Option (List ℕ)) → device.ack_plan d k C o ≡ said_plan (device_act d today (Ack (record { message = k })) (record_with d C o))
    ack_is today k None = refl
    ack_is today k (Some key) = plan_says _ _ _ _ (λ note. refl) (λ note. refl) (ack_act (Some (state_of d key C)))

    -- what is sent again is what was asked last, under its number
    numbered : (key : List ℕ) (w : ℕ × List ℕ) → IsOutstanding key (waiting (Some w)) (Some w) → PendingOk d (number d C) (state_of d key C).phase (state_of d key C).registers (waiting (Some w)) → w.0 ≡ number d C + 1
    numbered key w out ok = ap (λ (x : ℕ × List ℕ). x.0) (same_Some _ _ out) ∙ ok.number

    resend_by : (today : ℤ) (k : ℕ) (key : List ℕ) (w : Option (ℕ × List ℕ)) → pending d C ≡ w → key_of d C ≡ Some key → Holds (state_of d key C)
        → device.resend_plan d k (Some key) w ≡ said_plan (device_act d today (Resend (record { message = k })) (Some (state_of d key C)))
    resend_by today k key None is made holds = rw is refl
    resend_by today k key (Some w) is made holds =
        let record_is = records key made in
        let answer : resend_answer (state_of d key C) (state_of d key C).pending ≡ Ok w.1 = resending d w.0 C (state_of d key C) w.1 record_is is in
        let out : IsOutstanding key (waiting (Some w)) (Some w) = subst (λ (o : Option (ℕ × List ℕ)). IsOutstanding key (waiting o) o) is record_is.outstanding in
        let ok : PendingOk d (number d C) (state_of d key C).phase (state_of d key C).registers (waiting (Some w)) =
        subst (λ (o : Option (ℕ × List ℕ)). PendingOk d (number d C) (state_of d key C).phase (state_of d key C).registers (waiting o)) is holds.pending in
        rw (answer, numbered key w out ok) (ap (λ (n : ℕ). told (r.SentRequest d n k) (entry.Sent w.1 ∷ [])) (sym (counts_on (fits ok))))
      where
        -- the number of a request that was sent fits its field
        fits : PendingOk d (number d C) (state_of d key C).phase (state_of d key C).registers (waiting (Some w)) → number d C ≢ 4294967295
        fits ok = λ full. let small = ok.whole.1.1.1.1.0 in omega (arith, small, ok.number, full)

    resend_is : (today : ℤ) (k : ℕ) (o : Option (List ℕ)) → key_of d C ≡ o → device.resend_plan d k o (pending d C) ≡ said_plan (device_act d today (Resend (record { message = k })) (record_with d C o))
    resend_is today k None made = refl
    resend_is today k (Some key) made = resend_by today k key (pending d C) refl made (holds_in made)
      where
        holds_in : key_of d C ≡ Some key → Holds (state_of d key C)
        holds_in is = subst (λ (o : Option (List ℕ)). IfSome (record_with d C o) Holds) is known.holds

    took_reply : (k : ℕ) (a : Taken) → device.taken_reply d k a ≡ (took d k a).reply
    took_reply k (taken_as.Applied n v) = refl
    took_reply k (taken_as.Released piece x again) = refl

    took_tells : (k : ℕ) (a : Taken) → device.taken_tell d k a ≡ tells (took d k a)
    took_tells k (taken_as.Applied n v) = refl
    took_tells k (taken_as.Released piece x again) = refl

    take_is : (bytes : List ℕ) (today : ℤ) (k : ℕ) (o : Option (List ℕ))
        → device.device_take todays_rules k today d bytes (read bytes) C o ≡ said_plan (device_act d today (Take (record { bytes = bytes; message = k })) (record_with d C o))
    take_is bytes today k o = plan_says _ _ _ _ (took_reply k) (took_tells k) (take_act todays_rules d bytes today (record_with d C o))

    -- what it is handed, by message k
    handed : (bytes : List ℕ) (today : ℤ) (k : ℕ) → messages H ≡ k → give_plan todays_rules today (Device d) bytes H ≡ seen_plan counting (Device d) (device_view d H) (device_act d today (Take (record { bytes = bytes; message = k })) (record_in d C))
    handed bytes today k is =
        ap (λ (n : ℕ). at_node (Device d) H (device.device_take todays_rules n today d bytes (read bytes) C (key_of d C))) is ∙ by_plan _ today (Take (record { bytes = bytes; message = k })) (take_is bytes today k (key_of d C))

  -- a message that device d takes is for it
  delivered : (today : ℤ) (k d : ℕ) (bytes : List ℕ) → slice_get (sent_in H) k ≡ Some bytes → routing.taker bytes ≡ Device d → deliver_plan todays_rules today k (message k H) H ≡ give_plan todays_rules today (Device d) bytes H
  delivered today k d bytes there to =
      ap (λ (o : Option (List ℕ)). deliver_plan todays_rules today k o H) (sym (sent_at H k) ∙ there)
      ∙ ap (λ (n : Node). give_plan todays_rules today n bytes H) (same_taker (addressee (read bytes)) (Device d) (λ same. cc) to)

  abbrev KnownAt : ℕ → Type 0
  KnownAt d = IsKnown (seen_in d (counted H)) × ((key : List ℕ) → key_of d (counted H) ≡ Some key → IsRecordOf (state_of d key (counted H)) d (counted H))

  abbrev IsPlanned : Tariff → ℤ → Event → ℕ → AskedOf DeviceCall → Type 0
  IsPlanned τ today e d asked = KnownAt d → plan τ todays_rules H e [] ≡ node_plan counting (Device d) (device_kind.plan d today (device_view d H)) (device_view d H) asked

  pub planned : (τ : Tariff) (today : ℤ) (quote : Quote) → day_in H ≡ Some today → (e : Event) (d : ℕ) (asked : AskedOf DeviceCall) → routed (sent_in H) quote e ≡ Some (route.OfDay (of_day.Device d asked)) → IsPlanned τ today e d asked
  unfolding plan
  planned τ today quote day = each_asked (sent_in H) quote (IsPlanned τ today) (record {
    on = λ d known. rw day refl;
    off = λ d known. rw day refl;
    cut = λ d calls keep byte known. rw day refl;
    make = λ d key known. rw day (by_plan d known.0 known.1 _ today (Make (record { key = key })) (plan_says _ _ _ _ (λ u. refl) (λ u. refl) (make_act d key (record_in d (counted H)))));
    debit = λ d piece postage class known.
        rw day (by_plan d known.0 known.1 _ today (Debit (record { piece = piece; postage = postage; class = class })) (plan_says _ _ _ _ (λ f. refl) (λ f. refl) (debit_act todays_rules d (debit_by d piece postage class) today (record_in d (counted H)))));
    ask = λ d kind who amount known. rw (day, sym (sent_many H)) (by_plan d known.0 known.1 _ today (Ask (record { kind = kind; customer = who; amount = amount; message = length (sent_in H) })) (ask_is d known.0 known.1 kind who amount today (length (sent_in H)) (key_of d (counted H))));
    resend = λ d known. rw (day, sym (sent_many H)) (by_plan d known.0 known.1 _ today (Resend (record { message = length (sent_in H) })) (resend_is d known.0 known.1 today (length (sent_in H)) (key_of d (counted H)) refl));
    ack = λ d known. rw (day, sym (sent_many H)) (by_plan d known.0 known.1 _ today (Ack (record { message = length (sent_in H) })) (ack_is d known.0 known.1 today (length (sent_in H)) (key_of d (counted H))));
    status = λ d known. rw day (by_plan d known.0 known.1 _ today Status (plan_says _ _ _ _ (λ w. refl) (λ w. refl) (status_act today (record_in d (counted H)))));
    give = λ d bytes known. rw day (handed d known.0 known.1 bytes today (length (sent_in H)) (sym (sent_many H)));
    deliver = λ k d bytes there to known. rw day (delivered today k d bytes there to ∙ handed d known.0 known.1 bytes today (length (sent_in H)) (sym (sent_many H)));
  })
