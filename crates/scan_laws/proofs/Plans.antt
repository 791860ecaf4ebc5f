-- What the plan of each event records; and which plans accept a piece: those of scans, under the number of the scan.
use Rattle.std.proofs.Common.{◌≡◌, ℕ, ℤ, pos, ◌+◌, Bool, true, false, List, [], ◌∷◌, Option, Some, None, Result, Ok, Err, inl, inr, refl, subst, length, drop}
use Rattle.std.specs.Prelude.{is_some, nat_lt}
use Rattle.bench_base.specs.declared.{words.Node.Node, words.Node.TheVariants.Device, words.Node.TheVariants.Centre, words.Node.TheVariants.Host, words.Node.TheVariants.Verifier, refusals.MarkFault.MarkFault, refusals.RateRefusal.RateRefusal, refusals.ScanRefusal.ScanRefusal, ledger.Commit.Commit, ledger.Commit.TheVariants.Accepted, ledger.Entry.Entry, events.Event.Event, events.Reply.Reply}
use Rattle.bench_base.specs.declared.ledger.Entry.TheVariants as e
use Rattle.bench_base.specs.declared.events.Event.TheVariants as ev
use Rattle.bench_base.specs.declared.events.Reply.TheVariants as r
use Rattle.bench_base.specs.Rules.{todays_rules}
use Rattle.bench_base.specs.Nodes.{node_of}
use Rattle.bench_base.specs.Plans.{Plan, refuse, told}
use Rattle.bench_base.specs.Events.{needs_day}
use Rattle.bench_base.specs.Cells.{is_worn}
use Rattle.bench_base.specs.Ledger.{Ledger, day_in, rates_in, messages, message, is_on, counted}
use Rattle.bench_base.specs.Scans.{trusted}
use Rattle.node_acts.specs.declared.{act.Act.Act, act.Act.TheVariants.Refuse, act.Act.TheVariants.Tell, act.Act.TheVariants.Commits, said.Said.Said}
use Rattle.node_acts.specs.Plans.{IsOfNode}
use Rattle.node_acts.specs.Said.{tells, saying, said_plan}
use Rattle.indicium.specs.declared.Mark.{Mark}
use Rattle.indicium.specs.Marks.{read_mark}
use Rattle.psd_wire.specs.Codes.{has_code}
use Rattle.psd_wire.specs.Grammar.{read}
use Rattle.ledger_terms.specs.Devices.{key_of, number, pending}
use Rattle.psd_state.specs.State.{State}
use Rattle.psd_state.specs.Acts as acts
use Rattle.psd_state.specs.Acts.{DeviceAct}
use Rattle.psd_state.specs.declared.acts.Taken.{Taken}
use Rattle.psd_state.specs.declared.acts.Taken.TheVariants as taken
use Rattle.centre_ledger.specs.declared.taking.CentreAnswer.{CentreAnswer}
use Rattle.centre_ledger.specs.declared.taking.CentreAnswer.TheVariants as answer
use Rattle.centre_ledger.specs.Acts as centre_acts
use Rattle.centre_ledger.specs.Plans as centre
use Rattle.centre_ledger.proofs.Own.{open_own, flag_own, deposit_own, left_own, register_own, stood_own, take_own as centre_take_own}
use Rattle.host_jobs.specs.Acts.{HostAct, LookUps, order_by, debit_message_by, begin_print_by, close_by, take_by}
use Rattle.host_jobs.specs.Plans as host
use Rattle.host_jobs.proofs.Own.{order_own, send_own, print_own, close_own, take_own}
use Rattle.verifier.specs.declared.{acts.Accepted.Accepted as ScannedPiece, acts.Spot.Spot}
use Rattle.verifier.specs.Acts.{ScanAct, trusted_act, answered_act, marked_act, read_act}
use Rattle.verifier.specs.Plans as scans
use Rattle.ledger_moves.specs.Devices as device
use Rattle.ledger_moves.specs.Moves as moves
use Rattle.ledger_moves.specs.Moves.{plan, at_node, unless_worn}
use Rattle.ledger_moves.specs.Tariffs.{Tariff, TextFault, NoToml, NoForm}
use Rattle.bench_abstraction.specs.declared.calls.DeviceCall.TheVariants as call
use Rattle.bench_abstraction.proofs.Plans.{call_own}
use Rattle.bench_base.proofs.Rows.{chosen}
use Rattle.node_acts.proofs.OfCommits.{said_commit}
use Rattle.scan_laws.specs.Acceptances.{IsOfPiece, IsScanOf}
use Rattle.scan_laws.proofs.Entries.{Is, AllBring, CommitBrings, PlanBrings}
use Rattle.scan_laws.proofs.Tells.{NoCommits, Says, is_clean, cleanly, ups, printed, job_printed, only_job}

-- a commit of another node than the verifier is no acceptance
of_device : (P : ℕ → ℕ → ℕ → Type 0) (d : ℕ) (c : Commit) → node_of c ≡ Device d → Is P c
of_device P d (Accepted e p n) own = absurd (cc)
of_device P d _ own = tt

of_centre : (P : ℕ → ℕ → ℕ → Type 0) (c : Commit) → node_of c ≡ Centre → Is P c
of_centre P (Accepted e p n) own = absurd (cc)
of_centre P _ own = tt

of_host : (P : ℕ → ℕ → ℕ → Type 0) (c : Commit) → node_of c ≡ Host → Is P c
of_host P (Accepted e p n) own = absurd (cc)
of_host P _ own = tt

-- what says its answers commits what it says them of
unsaid : {X F A : Type 0} (m : Node) (refusal : F → Reply) (say : A → Said) (act : Act X F A) → IsOfNode m (saying refusal say act) → IsOfNode m act
unsaid m refusal say act own = said_commit _ refusal say act own

-- Plans at this ledger, where P is known of each acceptance and a print is of this job
module _ (P : ℕ → ℕ → ℕ → Type 0) (H : Ledger) (job : Option ℕ) where
  -- it records no more than it may, and P is known of all that it commits
  pub record Clean (p : Plan) : Type 0 where
    pub says : Says H job p.reply p.after
    pub commits : CommitBrings P p.commit

  -- a plain answer
  sure : {p : Plan} → CommitBrings P p.commit → is_clean p.reply p.after ≡ true → Clean p
  sure commits is = record { says = cleanly H job _ _ is; commits = commits }

  -- an act with answers of type `Said`, of a node that commits no acceptances
  said_ok : {X F A : Type 0} (m : Node) (refusal : F → Reply) (say : A → Said) (act : Act X F A) → ((c : Commit) → node_of c ≡ m → Is P c) → IsOfNode m act → ((x : F) → is_clean (refusal x) [] ≡ true) → ((a : A) → is_clean (say a).reply (tells (say a)) ≡ true)
      → Clean (said_plan (saying refusal say act))
  said_ok m refusal say (Refuse x) brings own refused done = sure tt (refused x)
  said_ok m refusal say (Tell a) brings own refused done = sure tt (done a)
  said_ok m refusal say (Commits c x a) brings own refused done = sure (brings c own) (done a)

  -- where the node is on and no cell worn
  pub at : (n : Node) (p : Plan) → Clean p → Clean (at_node n H p)
  at n p ok = chosen Clean (is_on n H) (unless_worn (counted H) p p.commit) (refuse (r.OffNode n)) (λ on. go p.commit) (λ off. sure tt refl)
    where
      go : (w : Option Commit) → Clean (unless_worn (counted H) p w)
      go None = ok
      go (Some c) = chosen Clean (is_worn c (counted H)) (refuse (r.Worn (node_of c))) p (λ worn. sure tt refl) (λ fresh. ok)

  -- == devices ==

  acts_ok : {A : Type 0} (d : ℕ) (reply : A → Reply) (tell : A → List Entry) (act : DeviceAct A) → IsOfNode (Device d) act → ((a : A) → is_clean (reply a) (tell a) ≡ true) → Clean (device.planned d reply tell act)
  acts_ok d reply tell (Refuse x) own done = sure tt refl
  acts_ok d reply tell (Tell a) own done = sure tt (done a)
  acts_ok d reply tell (Commits c x a) own done = sure (of_device P d c own) (done a)

  resend_ok : (d k : ℕ) (key : Option (List ℕ)) (w : Option (ℕ × List ℕ)) → Clean (device.resend_plan d k key w)
  resend_ok d k None w = sure tt refl
  resend_ok d k (Some key) None = sure tt refl
  resend_ok d k (Some key) (Some p) = sure tt refl

  taken_ok : (d k : ℕ) (t : Taken) → is_clean (device.taken_reply d k t) (device.taken_tell d k t) ≡ true
  taken_ok d k (taken.Applied n v) = refl
  taken_ok d k (taken.Released piece x again) = refl

  -- == the centre ==

  abbrev shown : centre_acts.LookUps
  shown = centre.in_commits (counted H)

  open_ok : (w : ℕ) → Clean (centre.open_plan w (counted H))
  open_ok w = said_ok Centre r.CentreRefused (centre.told_opened w) (centre_acts.open_by w shown) (of_centre P) (open_own w (shown.customer w)) (λ x. refl) (λ u. refl)

  flag_ok : (w : ℕ) (flag : Bool) → Clean (centre.flag_plan w flag (counted H))
  flag_ok w flag = said_ok Centre r.CentreRefused (centre.told_flagged w flag) (centre_acts.flag_by w flag shown) (of_centre P) (flag_own w flag (shown.customer w)) (λ x. refl) (λ u. refl)

  deposit_ok : (w n a : ℕ) → Clean (centre.deposit_plan w n a (counted H))
  deposit_ok w n a = said_ok Centre r.CentreRefused (centre.told_deposited w n) (centre_acts.deposit_by w n a shown) (of_centre P) (deposit_own w n a (shown.customer w)) (λ x. refl) (λ d. refl)

  balance_ok : (w : ℕ) → Clean (centre.balance_plan w (counted H))
  balance_ok w = said_ok Centre r.CentreRefused (centre.told_balance w) (centre_acts.balance_by w shown) (of_centre P) (left_own w (shown.left w) (shown.customer w)) (λ x. refl) (λ left. refl)

  register_ok : (d origin : ℕ) (key : List ℕ) → Clean (centre.register_plan d origin key (counted H))
  register_ok d origin key = said_ok Centre r.CentreRefused (centre.told_registered d) (centre_acts.register_by d origin key shown) (of_centre P) (register_own d origin key (shown.device d)) (λ x. refl) (λ u. refl)

  took_ok : (k : ℕ) (a : CentreAnswer) → is_clean (centre.told_taken k a).reply (tells (centre.told_taken k a)) ≡ true
  took_ok k (answer.Ruled d n v note again) = refl
  took_ok k (answer.Settled d n again) = refl

  reconcile_ok : (d : ℕ) (key : Option (List ℕ)) → Clean (moves.reconcile_plan d key (counted H))
  reconcile_ok d None = sure tt refl
  reconcile_ok d (Some key) = said_ok Centre r.CentreRefused (centre.told_standing d _) (centre_acts.stand_by d shown) (of_centre P) (stood_own d (shown.standing d)) (λ x. refl) (λ a. refl)

  -- == the host ==

  abbrev looked : LookUps
  looked = host.in_commits (counted H)

  order_ok : (d piece class : ℕ) (price : Option (Result ℕ RateRefusal)) → Clean (host.order_plan d piece class price (counted H))
  order_ok d piece class price = said_ok Host r.HostRefused host.told_ordered (order_by d piece class price looked) (of_host P) (order_own d piece class price looked) (λ x. refl) (λ a. refl)

  send_ok : (k j : ℕ) → Clean (host.send_plan k j (counted H))
  send_ok k j = said_ok Host r.HostRefused (host.told_sent j k) (debit_message_by j looked) (of_host P) (send_own (looked.job j)) (λ x. refl) (λ note. refl)

  -- a print that is done prints a mark of the job
  prints_ok : (j : ℕ) → Some j ≡ job → (act : HostAct (List ℕ)) → IsOfNode Host act → Clean (said_plan (host.says (host.told_printed j) act))
  prints_ok j is (Refuse x) own = sure tt refl
  prints_ok j is (Tell mark) own = record { says = subst (λ (n : Option ℕ). Says H n (r.Printed j) (e.Printed j mark ∷ [])) is (printed H j mark); commits = tt }
  prints_ok j is (Commits c x mark) own = record { says = subst (λ (n : Option ℕ). Says H n (r.Printed j) (e.Printed j mark ∷ [])) is (printed H j mark); commits = of_host P c own }

  print_ok : (j : ℕ) → Some j ≡ job → Clean (host.print_plan j (counted H))
  print_ok j is = prints_ok j is (begin_print_by j looked) (print_own (looked.job j) looked.tops)

  close_ok : (j : ℕ) → Clean (host.close_plan j (counted H))
  close_ok j = said_ok Host r.HostRefused (host.told_closed j) (close_by j looked) (of_host P) (close_own (looked.job j) looked.tops) (λ x. refl) (λ u. refl)

  host_take_ok : (bytes : List ℕ) → Clean (host.take_plan bytes (counted H))
  host_take_ok bytes = said_ok Host r.HostRefused host.told_held (take_by bytes looked) (of_host P) (take_own (read bytes) looked) (λ x. refl) (λ j. refl)

  -- == bytes that are handed to a node ==

  give_ok : (today : ℤ) (n : Node) (bytes : List ℕ) → Clean (moves.give_plan todays_rules today n bytes H)
  give_ok today (Device d) bytes =
      let s = device.record_with d (counted H) (key_of d (counted H)) in
      at (Device d) _ (acts_ok d (device.taken_reply d (messages H)) (device.taken_tell d (messages H)) (acts.message_act todays_rules d bytes today s (read bytes)) (unsaid (Device d) _ _ _ (call_own d today (call.Take (record { bytes = bytes; message = messages H })) s)) (taken_ok d (messages H)))
  give_ok today Centre bytes = at Centre _ (said_ok Centre r.CentreRefused (centre.told_taken (messages H)) (centre_acts.take_by bytes shown) (of_centre P) (centre_take_own bytes shown (read bytes)) (λ x. refl) (took_ok (messages H)))
  give_ok today Host bytes = at Host _ (host_take_ok bytes)
  give_ok today Verifier bytes = sure tt refl

  deliver_ok : (today : ℤ) (k : ℕ) (o : Option (List ℕ)) → Clean (moves.deliver_plan todays_rules today k o H)
  deliver_ok today k None = sure tt refl
  deliver_ok today k (Some bytes) = give_ok today (moves.addressee (read bytes)) bytes

  -- == the verifier ==

  trust_ok : (d : ℕ) (key : List ℕ) (known : Bool) → Clean (said_plan (scans.says (scans.told_trusted d) (trusted_act d key known)))
  trust_ok d key true = sure tt refl
  trust_ok d key false = sure tt refl

  module _ (n : ℕ) where
    -- the plan of a scan, by its act
    abbrev CleanScan : ScanAct ScannedPiece → Type 0
    CleanScan act = Clean (said_plan (scans.says (scans.told_accepted n) act))

    scanned_ok : (k : Mark) → P k.device k.piece n → (cell : ℕ) (x : Result Bool ScanRefusal) → CleanScan (answered_act n k cell x)
    scanned_ok k may cell (Err x) = sure tt refl
    scanned_ok k may cell (Ok true) = sure tt refl
    scanned_ok k may cell (Ok false) = sure may refl

    keyed_ok : (bytes : List ℕ) (k : Mark) → P k.device k.piece n → (today : ℤ) (key : Option (List ℕ)) (spot : Spot) → CleanScan (marked_act n bytes k today key spot)
    keyed_ok bytes k may today None spot = sure tt refl
    keyed_ok bytes k may today (Some key) spot = chosen CleanScan (has_code key bytes) _ _ (λ good. scanned_ok k may spot.cell _) (λ bad. sure tt refl)

    read_ok : (bytes : List ℕ) → ((d p : ℕ) → IsOfPiece d p bytes → P d p n) → (today : ℤ) (x : Result (Mark × List ℕ) MarkFault) → read_mark bytes ≡ x → CleanScan (read_act n bytes today (scans.in_commits (counted H)) x)
    read_ok bytes may today (Err fault) reads = sure tt refl
    read_ok bytes may today (Ok k) reads =
        let at = scans.in_commits (counted H) in
        keyed_ok bytes k.0 (may k.0.device k.0.piece (record { mark = k.0; code = k.1; reads = reads; device = refl; piece = refl })) today (at.key k.0.device) (at.spot k.0.device k.0.piece)

    scan_ok : (today : ℤ) (bytes : List ℕ) → ((d p : ℕ) → IsOfPiece d p bytes → P d p n) → Clean (moves.scan_plan n today bytes H)
    scan_ok today bytes may = at Verifier _ (read_ok bytes may today (read_mark bytes) refl)

    scan_sent_ok : ((d p : ℕ) → P d p n) → (today : ℤ) (k : ℕ) (o : Option (List ℕ)) → Clean (moves.scan_sent n today k o H)
    scan_sent_ok may today k None = sure tt refl
    scan_sent_ok may today k (Some bytes) = scan_ok today (drop 2 bytes) (λ d p of. may d p)

  -- == all events ==

  module _ (τ : Tariff) where
    reading_ok : (text : List ℕ) (x : Result (ℕ × ℕ) TextFault) → Clean (moves.reading_plan text x)
    reading_ok text (Err NoToml) = sure tt refl
    reading_ok text (Err NoForm) = sure tt refl
    reading_ok text (Ok x) = sure tt refl

    rates_ok : (text : List ℕ) → Clean (moves.rates_plan τ text)
    rates_ok text = chosen Clean (nat_lt 65536 (length text)) _ _ (λ long. sure tt refl) (λ short. reading_ok text (τ.reading text))

    on_ok : (n : Node) → Clean (moves.on_plan n H)
    on_ok n = chosen Clean (is_on n H) _ _ (λ on. sure tt refl) (λ off. record { says = ups H job n; commits = tt })

    abbrev C : List Commit
    C = counted H

    abbrev held : ℕ → Option State
    held d = device.record_with d C (key_of d C)

    event_ok : (x : Event) (text : List ℕ) (today : ℤ) → job_printed x ≡ job → ((d p n : ℕ) → IsScanOf d p n x → P d p n) → Clean (moves.plan_on τ todays_rules H x text today)
    event_ok ev.Rates text today own may = rates_ok text
    event_ok (ev.On n) text today own may = on_ok n
    event_ok (ev.Off n) text today own may = at n (told (r.Down n) (e.Down n ∷ [])) (sure tt refl)
    event_ok (ev.Make d key) text today own may = at (Device d) (device.make_plan d key C (key_of d C)) (acts_ok d (λ u. r.Made d) (λ u. []) (acts.make_act d key (held d)) (unsaid (Device d) _ _ _ (call_own d today (call.Make (record { key = key })) (held d))) (λ a. refl))
    event_ok (ev.Debit d piece postage class) text today own may =
        at (Device d) _ (acts_ok d (λ f. r.Marked d piece f.again f.mark) (λ f. e.Released d piece f.mark ∷ []) (acts.debit_act todays_rules d (moves.debit_by d piece postage class) today (held d)) (unsaid (Device d) _ _ _ (call_own d today (call.Debit (record { piece = piece; postage = postage; class = class })) (held d))) (λ a. refl))
    event_ok (ev.Ask d kind who a) text today own may =
        at (Device d) _ (acts_ok d (λ note. r.SentRequest d (number d C + 1) (messages H)) (λ note. e.Sent note ∷ []) (acts.ask_act todays_rules d kind who a today (held d)) (unsaid (Device d) _ _ _ (call_own d today (call.Ask (record { kind = kind; customer = who; amount = a; message = messages H })) (held d))) (λ a. refl))
    event_ok (ev.Resend d) text today own may = at (Device d) _ (resend_ok d (messages H) (key_of d C) (pending d C))
    event_ok (ev.Ack d) text today own may = at (Device d) _ (acts_ok d (λ note. r.SentDone d (number d C) (messages H)) (λ note. e.Sent note ∷ []) (acts.ack_act (held d)) (unsaid (Device d) _ _ _ (call_own d today (call.Ack (record { message = messages H })) (held d))) (λ a. refl))
    event_ok (ev.Status d) text today own may = at (Device d) _ (acts_ok d (λ shown. r.Status d shown) (λ shown. []) (acts.status_act today (held d)) (unsaid (Device d) _ _ _ (call_own d today call.Status (held d))) (λ a. refl))
    event_ok (ev.Register d origin key) text today own may = at Centre _ (register_ok d origin key)
    event_ok (ev.OpenCustomer w) text today own may = at Centre _ (open_ok w)
    event_ok (ev.Deposit w n a) text today own may = at Centre _ (deposit_ok w n a)
    event_ok (ev.Flag w flag) text today own may = at Centre _ (flag_ok w flag)
    event_ok (ev.Balance w) text today own may = at Centre _ (balance_ok w)
    event_ok (ev.Deliver k) text today own may = deliver_ok today k (message k H)
    event_ok (ev.Give n bytes) text today own may = give_ok today n bytes
    event_ok (ev.Order d piece class grams zone) text today own may = at Host _ (order_ok d piece class (moves.price_by τ class grams zone (rates_in H)))
    event_ok (ev.Send j) text today own may = at Host _ (send_ok (messages H) j)
    event_ok (ev.Print j) text today own may = at Host _ (print_ok j own)
    event_ok (ev.Close j) text today own may = at Host _ (close_ok j)
    event_ok (ev.Trust d key) text today own may = at Verifier _ (trust_ok d key (is_some (trusted d C)))
    event_ok (ev.ScanMsg n k) text today own may = scan_sent_ok n (λ d p. may d p n (inl (k, refl))) today k (message k H)
    event_ok (ev.ScanHex n bytes) text today own may = scan_ok n today bytes (λ d p of. may d p n (inr (bytes, refl, of)))
    event_ok (ev.Reconcile d) text today own may = at (Device d) _ (at Centre _ (reconcile_ok d (key_of d C)))
    -- what the bench answers alone
    event_ok x text today own may = sure tt refl

    dated_ok : (x : Event) (text : List ℕ) (day : Option ℤ) → job_printed x ≡ job → ((d p n : ℕ) → IsScanOf d p n x → P d p n) → Clean (moves.on_day (moves.plan_on τ todays_rules H x text) day)
    dated_ok x text None own may = sure tt refl
    dated_ok x text (Some today) own may = event_ok x text today own may

    pub plan_clean : (x : Event) (text : List ℕ) → job_printed x ≡ job → ((d p n : ℕ) → IsScanOf d p n x → P d p n) → Clean (plan τ todays_rules H x text)
    unfolding plan
    plan_clean x text own may = chosen Clean (needs_day x) _ _ (λ needs. dated_ok x text (day_in H) own may) (λ free. event_ok x text (pos 0) own may)

-- entries without commits accept nothing
none_brings : (P : ℕ → ℕ → ℕ → Type 0) (l : List Entry) → NoCommits l → AllBring P l
none_brings P [] none = tt
none_brings P (e.Commit c ∷ l) none = absurd none
none_brings P (e.Torn m c ∷ l) none = absurd none
none_brings P (_ ∷ l) none = (tt, none_brings P l none)

-- THE PLAN OF AN EVENT ACCEPTS NO PIECE BUT A SCANNED ONE
pub plan_brings : (P : ℕ → ℕ → ℕ → Type 0) (H : Ledger) (τ : Tariff) (x : Event) (text : List ℕ) → ((d p n : ℕ) → IsScanOf d p n x → P d p n) → PlanBrings P (plan τ todays_rules H x text)
plan_brings P H τ x text may =
    let clean = plan_clean P H (job_printed x) τ x text refl may in
    (clean.commits, none_brings P (plan τ todays_rules H x text).after clean.says.none)

-- WHAT IT ANSWERS AND TELLS
pub plan_says : (H : Ledger) (τ : Tariff) (x : Event) (text : List ℕ) → Says H (job_printed x) (plan τ todays_rules H x text).reply (plan τ todays_rules H x text).after
plan_says H τ x text = (plan_clean (λ d p n. Unit {0}) H (job_printed x) τ x text refl (λ d p n scan. tt)).says

-- it answers that a job was printed only to a `print` of it, and prints a mark then
pub only_print : (H : Ledger) (τ : Tariff) (x : Event) (text : List ℕ) (j : ℕ) → (plan τ todays_rules H x text).reply ≡ r.Printed j → (x ≡ ev.Print j) × ((mark : List ℕ) × ((plan τ todays_rules H x text).after ≡ e.Printed j mark ∷ []))
only_print H τ x text j is = let w = (plan_says H τ x text).prints j is in (only_job x j w.0, w.1)
