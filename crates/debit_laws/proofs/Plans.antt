-- No plan makes more than one commit count.
use Rattle.std.proofs.Common.{◌≡◌, ◌⊎◌, inl, inr, ℕ, ℤ, pos, Bool, true, false, ◌+◌, List, [], ◌∷◌, ◌++◌, Option, Some, None, Result, Ok, Err, refl, length, drop}
use Rattle.std.specs.Prelude.{nat_lt}
use Rattle.bench_base.specs.declared.{words.Node.Node, words.Node.TheVariants.Device, words.Node.TheVariants.Centre, words.Node.TheVariants.Host, words.Node.TheVariants.Verifier, ledger.Commit.Commit, ledger.Entry.Entry, events.Event.Event, events.Reply.Reply}
use Rattle.bench_base.specs.declared.ledger.Entry.TheVariants as e
use Rattle.bench_base.specs.declared.events.Event.TheVariants as ev
use Rattle.bench_base.specs.declared.events.Reply.TheVariants as r
use Rattle.bench_base.specs.Rules.{Rules}
use Rattle.bench_base.specs.Nodes.{node_of}
use Rattle.bench_base.specs.Plans.{Plan, refuse, made, told}
use Rattle.bench_base.specs.Events.{needs_day}
use Rattle.bench_base.specs.Cells.{is_worn}
use Rattle.bench_base.specs.Ledger.{Ledger, day_in, rates_in, messages, message, is_on, count_of, torn_of, counted}
use Rattle.node_acts.specs.declared.{act.Act.Act, act.Act.TheVariants.Refuse, act.Act.TheVariants.Tell, act.Act.TheVariants.Commits, said.Said.Said, said.GivenOut.GivenOut, said.GivenOut.TheVariants.Released, said.GivenOut.TheVariants.Printed}
use Rattle.node_acts.specs.Plans.{plan_of}
use Rattle.node_acts.specs.Said.{with_given, with_sent, tells, said_plan}
use Rattle.psd_wire.specs.Grammar.{read}
use Rattle.ledger_terms.specs.Devices.{key_of, number, pending}
use Rattle.psd_state.specs.State.{State}
use Rattle.psd_state.specs.Acts as acts
use Rattle.psd_state.specs.Acts.{DeviceAct}
use Rattle.psd_state.specs.declared.acts.Taken.{Taken}
use Rattle.psd_state.specs.declared.acts.Taken.TheVariants as taken
use Rattle.centre_ledger.specs.Acts as centre_acts
use Rattle.centre_ledger.specs.Plans as centre
use Rattle.host_jobs.specs.Acts as host_acts
use Rattle.host_jobs.specs.Plans as host
use Rattle.verifier.specs.Acts as scan_acts
use Rattle.verifier.specs.Plans as scans
use Rattle.ledger_moves.specs.Devices as device
use Rattle.ledger_moves.specs.Moves as moves
use Rattle.ledger_moves.specs.Moves.{plan, at_node, unless_worn}
use Rattle.ledger_moves.specs.Tariffs.{Tariff, TextFault, NoToml, NoForm}
use Rattle.bench_base.proofs.Rows.{chosen}
use Rattle.debit_laws.proofs.Entries.{AllQuiet, IsTame, quiet_tame, up_more}

-- what a node says after its commit
tells_quiet : (s : Said) → AllQuiet (tells s)
tells_quiet s = go s.sent s.given
  where
    go : (w : Option (List ℕ)) (g : Option GivenOut) → AllQuiet (with_sent w ++ with_given g)
    go None None = tt
    go None (Some (Released x)) = (tt, tt)
    go None (Some (Printed x)) = (tt, tt)
    go (Some note) None = (tt, tt)
    go (Some note) (Some (Released x)) = (tt, (tt, tt))
    go (Some note) (Some (Printed x)) = (tt, (tt, tt))

module _ (ρ : Rules) (H : Ledger) where
  -- a refusal
  still : (x : Reply) → IsTame H (refuse x)
  still x = inl refl

  -- an act that records its answers by such entries
  act_ok : {X F A : Type 0} (refusal : F → Reply) (reply : A → Reply) (tell : A → List Entry) (act : Act X F A) → ((a : A) → AllQuiet (tell a)) → IsTame H (plan_of refusal reply tell act)
  act_ok refusal reply tell (Refuse x) quiet = still (refusal x)
  act_ok refusal reply tell (Tell a) quiet = quiet_tame H (told (reply a) (tell a)) (quiet a)
  act_ok refusal reply tell (Commits c x a) quiet = quiet_tame H (made (reply a) c (tell a)) (quiet a)

  -- an act with answers of type `Said`
  said_ok : {X : Type 0} (act : Act X Reply Said) → IsTame H (said_plan act)
  said_ok act = act_ok (λ x. x) (λ a. a.reply) tells act tells_quiet

  -- where the node is on and no cell worn
  at : (n : Node) (p : Plan) → IsTame H p → IsTame H (at_node n H p)
  at n p ok = chosen (IsTame H) (is_on n H) (unless_worn (counted H) p p.commit) (refuse (r.OffNode n)) (λ on. go p.commit) (λ off. still (r.OffNode n))
    where
      go : (w : Option Commit) → IsTame H (unless_worn (counted H) p w)
      go None = ok
      go (Some c) = chosen (IsTame H) (is_worn c (counted H)) (refuse (r.Worn (node_of c))) p (λ worn. still (r.Worn (node_of c))) (λ fresh. ok)

  -- == devices ==

  resend_ok : (d k : ℕ) (key : Option (List ℕ)) (w : Option (ℕ × List ℕ)) → IsTame H (device.resend_plan d k key w)
  resend_ok d k None w = inl refl
  resend_ok d k (Some key) None = inl refl
  resend_ok d k (Some key) (Some p) = inl refl

  taken_quiet : (d k : ℕ) (t : Taken) → AllQuiet (device.taken_tell d k t)
  taken_quiet d k (taken.Applied n v) = tt
  taken_quiet d k (taken.Released piece x again) = (tt, (tt, tt))

  abbrev C : List Commit
  C = counted H

  abbrev held : ℕ → Option State
  held d = device.record_with d C (key_of d C)

  -- what each other node looks up
  abbrev accounts : centre_acts.LookUps
  accounts = centre.in_commits C

  abbrev jobs : host_acts.LookUps
  jobs = host.in_commits C

  abbrev blocks : scan_acts.LookUps
  blocks = scans.in_commits C

  -- == the centre ==

  reconcile_ok : (d : ℕ) (key : Option (List ℕ)) → IsTame H (moves.reconcile_plan d key C)
  reconcile_ok d None = inl refl
  reconcile_ok d (Some key) = said_ok _

  -- == bytes that are handed to a node ==

  give_ok : (today : ℤ) (n : Node) (bytes : List ℕ) → IsTame H (moves.give_plan ρ today n bytes H)
  give_ok today (Device d) bytes =
      at (Device d) (device.device_take ρ (messages H) today d bytes (read bytes) C (key_of d C))
      (act_ok (r.DevRefused d) (device.taken_reply d (messages H)) (device.taken_tell d (messages H)) (acts.message_act ρ d bytes today (held d) (read bytes)) (taken_quiet d (messages H)))
  give_ok today Centre bytes = at Centre (centre.take_plan (messages H) bytes C) (said_ok (centre.says (centre.told_taken (messages H)) (centre_acts.take_by bytes accounts)))
  give_ok today Host bytes = at Host (host.take_plan bytes C) (said_ok (host.says host.told_held (host_acts.take_by bytes jobs)))
  give_ok today Verifier bytes = inl refl

  deliver_ok : (today : ℤ) (k : ℕ) (o : Option (List ℕ)) → IsTame H (moves.deliver_plan ρ today k o H)
  deliver_ok today k None = inl refl
  deliver_ok today k (Some bytes) = give_ok today (moves.addressee (read bytes)) bytes

  -- == the verifier ==

  scan_ok : (n : ℕ) (today : ℤ) (bytes : List ℕ) → IsTame H (moves.scan_plan n today bytes H)
  scan_ok n today bytes = at Verifier (scans.scan_plan n bytes today C) (said_ok (scans.says (scans.told_accepted n) (scan_acts.scan_by n bytes today blocks)))

  scan_sent_ok : (n : ℕ) (today : ℤ) (k : ℕ) (o : Option (List ℕ)) → IsTame H (moves.scan_sent n today k o H)
  scan_sent_ok n today k None = inl refl
  scan_sent_ok n today k (Some bytes) = scan_ok n today (drop 2 bytes)

  -- == all events ==

  module _ (τ : Tariff) where
    reading_ok : (text : List ℕ) (x : Result (ℕ × ℕ) TextFault) → IsTame H (moves.reading_plan text x)
    reading_ok text (Err NoToml) = inl refl
    reading_ok text (Err NoForm) = inl refl
    reading_ok text (Ok x) = inl refl

    rates_ok : (text : List ℕ) → IsTame H (moves.rates_plan τ text)
    rates_ok text = chosen (IsTame H) (nat_lt 65536 (length text)) (refuse r.RatesLength) (moves.reading_plan text (τ.reading text)) (λ long. still r.RatesLength) (λ short. reading_ok text (τ.reading text))

    -- a node comes on with the commits that it had
    on_ok : (n : Node) → IsTame H (moves.on_plan n H)
    on_ok n = chosen (IsTame H) (is_on n H) (refuse (r.OnAlready n)) (told (r.Up n (count_of n C)) (e.Up n (count_of n C) ∷ [])) (λ on. still (r.OnAlready n)) (λ off. up_more (torn_of n H) n (count_of n C) C)

    event_ok : (x : Event) (text : List ℕ) (today : ℤ) → IsTame H (moves.plan_on τ ρ H x text today)
    event_ok ev.Rates text today = rates_ok text
    event_ok (ev.On n) text today = on_ok n
    event_ok (ev.Off n) text today = at n (told (r.Down n) (e.Down n ∷ [])) (inl refl)
    event_ok (ev.Make d key) text today = at (Device d) (device.make_plan d key C (key_of d C)) (act_ok (r.DevRefused d) (λ u. r.Made d) (λ u. []) (acts.make_act d key (held d)) (λ u. tt))
    event_ok (ev.Debit d piece postage class) text today =
        let q = moves.debit_by d piece postage class in
        at (Device d) (device.debit_plan ρ (device.shown d piece) d q today C (key_of d C))
        (act_ok (r.DevRefused d) (λ f. r.Marked d piece f.again f.mark) (λ f. e.Released d piece f.mark ∷ []) (acts.debit_act ρ d q today (held d)) (λ f. (tt, tt)))
    event_ok (ev.Ask d kind who a) text today =
        at (Device d) (device.ask_plan ρ d kind who a today (messages H) C (key_of d C))
        (act_ok (r.DevRefused d) (λ note. r.SentRequest d (number d C + 1) (messages H)) (λ note. e.Sent note ∷ []) (acts.ask_act ρ d kind who a today (held d)) (λ note. (tt, tt)))
    event_ok (ev.Resend d) text today = at (Device d) (device.resend_plan d (messages H) (key_of d C) (pending d C)) (resend_ok d (messages H) (key_of d C) (pending d C))
    event_ok (ev.Ack d) text today =
        at (Device d) (device.ack_plan d (messages H) C (key_of d C))
        (act_ok (r.DevRefused d) (λ note. r.SentDone d (number d C) (messages H)) (λ note. e.Sent note ∷ []) (acts.ack_act (held d)) (λ note. (tt, tt)))
    event_ok (ev.Status d) text today = at (Device d) (device.status_plan d today C (key_of d C)) (act_ok (r.DevRefused d) (r.Status d) (λ view. []) (acts.status_act today (held d)) (λ view. tt))
    event_ok (ev.Register d origin key) text today = at Centre (centre.register_plan d origin key C) (said_ok (centre.says (centre.told_registered d) (centre_acts.register_by d origin key accounts)))
    event_ok (ev.OpenCustomer w) text today = at Centre (centre.open_plan w C) (said_ok (centre.says (centre.told_opened w) (centre_acts.open_by w accounts)))
    event_ok (ev.Deposit w n a) text today = at Centre (centre.deposit_plan w n a C) (said_ok (centre.says (centre.told_deposited w n) (centre_acts.deposit_by w n a accounts)))
    event_ok (ev.Flag w flag) text today = at Centre (centre.flag_plan w flag C) (said_ok (centre.says (centre.told_flagged w flag) (centre_acts.flag_by w flag accounts)))
    event_ok (ev.Balance w) text today = at Centre (centre.balance_plan w C) (said_ok (centre.says (centre.told_balance w) (centre_acts.balance_by w accounts)))
    event_ok (ev.Deliver k) text today = deliver_ok today k (message k H)
    event_ok (ev.Give n bytes) text today = give_ok today n bytes
    event_ok (ev.Order d piece class grams zone) text today =
        let price = moves.price_by τ class grams zone (rates_in H) in
        at Host (host.order_plan d piece class price C) (said_ok (host.says host.told_ordered (host_acts.order_by d piece class price jobs)))
    event_ok (ev.Send j) text today = at Host (host.send_plan (messages H) j C) (said_ok (host.says (host.told_sent j (messages H)) (host_acts.debit_message_by j jobs)))
    event_ok (ev.Print j) text today = at Host (host.print_plan j C) (said_ok (host.says (host.told_printed j) (host_acts.begin_print_by j jobs)))
    event_ok (ev.Close j) text today = at Host (host.close_plan j C) (said_ok (host.says (host.told_closed j) (host_acts.close_by j jobs)))
    event_ok (ev.Trust d key) text today = at Verifier (scans.trust_plan d key C) (said_ok (scans.says (scans.told_trusted d) (scan_acts.trust_by d key blocks)))
    event_ok (ev.ScanMsg n k) text today = scan_sent_ok n today k (message k H)
    event_ok (ev.ScanHex n bytes) text today = scan_ok n today bytes
    event_ok (ev.Reconcile d) text today =
        let p = moves.reconcile_plan d (key_of d C) C in
        at (Device d) (at_node Centre H p) (at Centre p (reconcile_ok d (key_of d C)))
    event_ok _ text today = inl refl

    dated_ok : (x : Event) (text : List ℕ) (day : Option ℤ) → IsTame H (moves.on_day (moves.plan_on τ ρ H x text) day)
    dated_ok x text None = inl refl
    dated_ok x text (Some today) = event_ok x text today

    -- THE PLAN OF AN EVENT MAKES AT MOST ONE COMMIT COUNT
    pub plan_tame : (x : Event) (text : List ℕ) → IsTame H (plan τ ρ H x text)
    unfolding plan
    plan_tame x text = chosen (IsTame H) (needs_day x) (moves.on_day (moves.plan_on τ ρ H x text) (day_in H)) (moves.plan_on τ ρ H x text (pos 0)) (λ needs. dated_ok x text (day_in H)) (λ free. event_ok x text (pos 0))
