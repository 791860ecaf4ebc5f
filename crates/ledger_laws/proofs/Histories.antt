-- Every history keeps the invariant, whatever fails. Each part of an event's plan is right; so what any move adds keeps the
-- invariant; and a later version of the rules allows what the one before it does.
use Rattle.std.proofs.Common.{◌≡◌, ℕ, ℤ, pos, ◌≤◌, ◌+ℤ◌, ◌≤ℤ◌, true, false, true≢false, List, [], ◌∷◌, length, drop, Option, Some, None, Result, Ok, Err, refl, sym, ap, subst, ◌∙◌, inl, inr, ⊎_elim, arith}
use Rattle.std.specs.Prelude.{◌==◌, nat_lt}
use Rattle.std.proofs.lemmas.Bool.{cases_Bool}
use Rattle.std.proofs.lemmas.Int.{ints}
use Rattle.std.proofs.lemmas.Option.{same_Some, none-some}
use Rattle.bench_base.specs.declared.{words.Node.Node, words.Node.TheVariants.Device, words.Node.TheVariants.Centre, words.Node.TheVariants.Host, words.Node.TheVariants.Verifier, refusals.MarkFault.MarkFault, ledger.Commit.Commit, events.Event.Event}
use Rattle.bench_base.specs.declared.refusals.DevRefusal.TheVariants as no
use Rattle.bench_base.specs.declared.ledger.Commit.TheVariants as c
use Rattle.bench_base.specs.declared.ledger.Entry.TheVariants as e
use Rattle.bench_base.specs.declared.events.Event.TheVariants as ev
use Rattle.bench_base.specs.declared.events.Reply.TheVariants as r
use Rattle.bench_base.specs.Rules.{Rules}
use Rattle.bench_base.specs.Plans.{Plan, told}
use Rattle.bench_base.specs.Ranges.{IsDevice, IsDay, IsCount, IsPostage, TakesBytes, IsGiven}
use Rattle.bench_base.specs.Table.{IsBytes}
use Rattle.bench_base.specs.Ledger.{Ledger, day_in, rates_in, messages, message, IsSent, is_on, count_of, counted}
use Rattle.bench_base.specs.Scans.{trusted}
use Rattle.indicium.specs.declared.Mark.{Mark}
use Rattle.indicium.specs.Marks.{read_mark}
use Rattle.psd_wire.specs.declared.{message.DebitMsg.DebitMsg, message.Message.Message}
use Rattle.psd_wire.specs.declared.message.Message.TheVariants as m
use Rattle.psd_wire.specs.Grammar.{read}
use Rattle.psd_wire.proofs.Readings.{read_found, mark_long}
use Rattle.ledger_terms.specs.Devices.{key_of, pending}
use Rattle.ledger_moves.specs.Devices
use Rattle.node_acts.specs.Said.{said_plan}
use Rattle.host_jobs.specs.Acts.{message_act}
use Rattle.host_jobs.specs.Plans as host
use Rattle.ledger_moves.specs.Tariffs.{Tariff, TextFault, NoToml, NoForm}
use Rattle.ledger_terms.specs.Editions.{IsCarried, Allows, Follows, Editions}
use Rattle.bench_base.specs.Events.{needs_day, IsWholeEvent}
use Rattle.bench_base.proofs.Facts.{ok_same}
use Rattle.ledger_moves.specs.Moves
use Rattle.ledger_moves.specs.Moves.{plan}
use Rattle.ledger_moves.specs.Histories.{IsKnown, IsKnownMark, Unforged, History, nothing, begins, moves, earlier}
use Rattle.bench_base.proofs.Rows.{chosen}
use Rattle.ledger_laws.proofs.Good.{Fits, Good}
use Rattle.ledger_laws.proofs.Money.{ruling_asked}
use Rattle.ledger_laws.proofs.Asked.{note_reads}
use Rattle.ledger_laws.proofs.Lengths.{mark_behind, long_release}
use Rattle.ledger_laws.proofs.Grown.{Inv, IsCommand, GenuineAs, genuine_at, inv_none, inv_begin, inv_day, inv_rates, inv_down, inv_up}
use Rattle.ledger_laws.proofs.Plans.{PlanOk, ok_refuse, ok_at, moved}
use Rattle.ledger_laws.proofs.DevicePlans.{ask_ok, debit_ok, ok_shown, make_ok, resend_ok, ack_ok, status_ok, device_ok}
use Rattle.ledger_laws.proofs.CentrePlans.{register_ok, open_ok, flag_ok, balance_ok, deposit_ok, centre_ok, reconcile_ok}
use Rattle.ledger_laws.proofs.HostPlans.{order_ok, send_ok, host_ok, print_ok, close_ok, trust_ok, scan_ok}

pub message_sent : (k : ℕ) (bytes : List ℕ) (H : Ledger) → message k H ≡ Some bytes → IsSent bytes H
message_sent k bytes [] h = absurd (none-some _ h)
message_sent k bytes (e.Sent x ∷ H) h = ⊎_elim
    (λ (t : (k == messages H) ≡ true). inl (same_Some _ _ (rw t at h)))
    (λ (t : (k == messages H) ≡ false). inr (message_sent k bytes H (rw t at h)))
    (cases_Bool (k == messages H))
message_sent k bytes (e.Begin ∷ H) h = absurd (none-some _ h)
message_sent k bytes (_ ∷ H) h = message_sent k bytes H h

-- bytes that were sent are known to whoever takes them
known_sent : (bytes : List ℕ) (n : Node) (H : Ledger) (C : List Commit) (x : Message) → GenuineAs bytes x H C → IsSent bytes H → IsKnown bytes (Ok x) n H
known_sent bytes n H C (m.Reply p) g s = λ to key has code. s
known_sent bytes n H C (m.Request q) g s = λ to x has code. s
known_sent bytes n H C (m.Done q) g s = λ to x has code. s
known_sent bytes n H C (m.Release x) g s = λ to. g
known_sent bytes n H C (m.Debit q) g s = λ to. tt

module _ (τ : Tariff) (ρ : Rules) (carried : IsCarried ρ) (H : Ledger) (i : Inv ρ H) where
  at_ok : (n : Node) (p : Plan) → (is_on n H ≡ true → PlanOk ρ H p) → PlanOk ρ H (Moves.at_node n H p)
  at_ok n p f = ok_at ρ H n p f

  -- == bytes that are handed to a node ==

  sent_device : (bytes : List ℕ) (today : ℤ) (d : ℕ) (x : Message) → IsDay today → IsDevice d → ((q : DebitMsg) → x ≡ m.Debit q → IsCommand q) → read bytes ≡ Ok x → IsKnown bytes (Ok x) (Device d) H → PlanOk ρ H (Moves.give_plan ρ today (Device d) bytes H)
  sent_device bytes today d x day device class reads known = at_ok (Device d) _ (λ on.
      subst (λ z. PlanOk ρ H (Devices.device_take ρ (messages H) today d bytes z (counted H) (key_of d (counted H)))) (sym reads)
      (device_ok ρ carried H i d (messages H) today bytes on device day (Ok x) reads known (λ q h. class q (ok_same h))))

  sent_host : (bytes : List ℕ) (today : ℤ) (x : Message) → read bytes ≡ Ok x → IsKnown bytes (Ok x) Host H → PlanOk ρ H (Moves.give_plan ρ today Host bytes H)
  sent_host bytes today x reads known = at_ok Host _ (λ on. subst (λ z. PlanOk ρ H (said_plan (host.says host.told_held (message_act z (host.in_commits (counted H)))))) (sym reads) (host_ok ρ carried H i bytes (Ok x) on known))

  sent_centre : (bytes : List ℕ) (today : ℤ) (x : Message) → read bytes ≡ Ok x → IsKnown bytes (Ok x) Centre H → PlanOk ρ H (Moves.give_plan ρ today Centre bytes H)
  sent_centre bytes today x reads known = at_ok Centre _ (λ on. centre_ok ρ H i on (messages H) bytes (subst (λ z. IsKnown bytes z Centre H) (sym reads) known))

  -- a message that was sent names one of the devices
  by_tag : (bytes : List ℕ) (today : ℤ) (x : Message) → IsDay today → read bytes ≡ Ok x → GenuineAs bytes x H (counted H) → IsSent bytes H → PlanOk ρ H (Moves.give_plan ρ today (Moves.addressee (Ok x)) bytes H)
  by_tag bytes today (m.Reply p) day reads g s =
      let asked = ruling_asked ρ p.device p.number (p.verdict, g.note) (counted H) i.good g.ruled_as in
      let it = note_reads ρ p.device p.number g.note (counted H) i.good asked in
      sent_device bytes today p.device (m.Reply p) day it.range.0 (λ q h. absurd (cc)) reads (known_sent bytes (Device p.device) H (counted H) (m.Reply p) g s)
  by_tag bytes today (m.Debit q) day reads g s = sent_device bytes today q.device (m.Debit q) day g.0 (λ z h. subst IsCommand (debit_same h) g.1) reads (λ to. tt)
    where
      debit_same : {a b : DebitMsg} → m.Debit a ≡ m.Debit b → a ≡ b
      debit_same h = cc
  by_tag bytes today (m.Release x) day reads g s = sent_host bytes today (m.Release x) reads (known_sent bytes Host H (counted H) (m.Release x) g s)
  by_tag bytes today (m.Request q) day reads g s = sent_centre bytes today (m.Request q) reads (known_sent bytes Centre H (counted H) (m.Request q) g s)
  by_tag bytes today (m.Done q) day reads g s = sent_centre bytes today (m.Done q) reads (known_sent bytes Centre H (counted H) (m.Done q) g s)

  deliver_ok : (k : ℕ) (today : ℤ) → IsDay today → (x : Option (List ℕ)) → message k H ≡ x → PlanOk ρ H (Moves.deliver_plan ρ today k x H)
  deliver_ok k today day None h = ok_refuse ρ H (r.NoMessage k) refl tt
  deliver_ok k today day (Some bytes) h =
      let s = message_sent k bytes H h in
      let g = i.sents bytes s in
      subst (λ z. PlanOk ρ H (Moves.give_plan ρ today (Moves.addressee z) bytes H)) (sym g.reads) (by_tag bytes today g.what day g.reads g.vouched s)

  -- a Debit that bytes read as fits its fields
  debit_fits : (bytes : List ℕ) → IsBytes bytes → (q : DebitMsg) → read bytes ≡ Ok (m.Debit q) → IsCommand q
  debit_fits bytes h q e = let whole = (read_found bytes (m.Debit q) h e).1.whole in (whole.1.1.1.0, whole.1.1.1.1.1.0)

  give_ok : (today : ℤ) (n : Node) (bytes : List ℕ) → IsDay today → TakesBytes n → IsGiven bytes → IsKnown bytes (read bytes) n H → PlanOk ρ H (Moves.give_plan ρ today n bytes H)
  give_ok today (Device d) bytes day takes fits known = at_ok (Device d) _ (λ on. device_ok ρ carried H i d (messages H) today bytes on takes day (read bytes) refl known (debit_fits bytes fits.1))
  give_ok today Centre bytes day takes fits known = at_ok Centre _ (λ on. centre_ok ρ H i on (messages H) bytes known)
  give_ok today Host bytes day takes fits known = at_ok Host _ (λ on. host_ok ρ carried H i bytes (read bytes) on known)
  give_ok today Verifier bytes day takes fits known = absurd takes

  -- == scans ==

  -- what is a mark from the third byte on was sent as a Release
  behind_known : (bytes : List ℕ) → IsSent bytes H → (o : Result (Mark × List ℕ) MarkFault) → read_mark (drop 2 bytes) ≡ o → IsKnownMark (drop 2 bytes) o H
  behind_known bytes s (Err fault) reads = tt
  behind_known bytes s (Ok k) reads = λ key has code.
      let g = i.sents bytes s in
      let long = mark_behind bytes (mark_long (drop 2 bytes) k reads) in
      let is = long_release bytes g.what g.reads long in
      genuine_at bytes (m.Release (drop 2 bytes)) H (counted H) g (g.reads ∙ ap (λ (z : Message). Ok z) is)

  scan_bytes : (n : ℕ) (today : ℤ) (bytes : List ℕ) → IsCount n → IsKnownMark bytes (read_mark bytes) H → PlanOk ρ H (Moves.scan_plan n today bytes H)
  scan_bytes n today bytes word known = at_ok Verifier _ (λ on. scan_ok ρ carried H i n bytes today on word (read_mark bytes) refl known)

  scan_sent_ok : (n k : ℕ) (today : ℤ) → IsCount n → (x : Option (List ℕ)) → message k H ≡ x → PlanOk ρ H (Moves.scan_sent n today k x H)
  scan_sent_ok n k today word None h = ok_refuse ρ H (r.NoMessage k) refl tt
  scan_sent_ok n k today word (Some bytes) h = scan_bytes n today (drop 2 bytes) word (behind_known bytes (message_sent k bytes H h) (read_mark (drop 2 bytes)) refl)

  -- == the other events ==

  on_ok : (n : Node) → PlanOk ρ H (Moves.on_plan n H)
  on_ok n = chosen (PlanOk ρ H) (is_on n H) _ _
      (λ _. ok_refuse ρ H (r.OnAlready n) refl tt)
      (λ _. record { sane = tt; plain = refl; no_up = λ l k h. refl; fit = λ x h. absurd (none-some _ h); keeps = λ j. inv_up ρ H n (count_of n (counted H)) j })

  off_ok : (n : Node) → PlanOk ρ H (told (r.Down n) (e.Down n ∷ []))
  off_ok n = record { sane = tt; plain = refl; no_up = λ l k h. refl; fit = λ x h. absurd (none-some _ h); keeps = λ j. inv_down ρ H n j }

  reading_ok : (text : List ℕ) (o : Result (ℕ × ℕ) TextFault) → PlanOk ρ H (Moves.reading_plan text o)
  reading_ok text (Err NoToml) = ok_refuse ρ H r.RatesToml refl tt
  reading_ok text (Err NoForm) = ok_refuse ρ H r.RatesForm refl tt
  reading_ok text (Ok x) = record { sane = tt; plain = refl; no_up = λ l k h. refl; fit = λ y h. absurd (none-some _ h); keeps = λ j. inv_rates ρ H text j }

  rates_ok : (text : List ℕ) → PlanOk ρ H (Moves.rates_plan τ text)
  rates_ok text = chosen (PlanOk ρ H) (nat_lt 65536 (length text)) _ _ (λ _. ok_refuse ρ H r.RatesLength refl tt) (λ _. reading_ok text (τ.reading text))

  price_within : (class grams zone : ℕ) (o : Option (List ℕ)) (a : ℕ) → Moves.price_by τ class grams zone o ≡ Some (Ok a) → IsPostage a
  price_within class grams zone None a h = absurd (none-some _ h)
  price_within class grams zone (Some text) a h = τ.bounds text class grams zone a (same_Some _ _ h)

  reconcile_all : (d : ℕ) (w : Option (List ℕ)) → is_on Centre H ≡ true → PlanOk ρ H (Moves.reconcile_plan d w (counted H))
  reconcile_all d None on = ok_refuse ρ H (r.DevRefused d no.Blank) refl tt
  reconcile_all d (Some key) on = reconcile_ok ρ H i on d _

  day_ok : (x : Event) (text : List ℕ) (today : ℤ) → IsDay today → IsWholeEvent x → Unforged x H → PlanOk ρ H (Moves.plan_on τ ρ H x text today)
  day_ok (ev.Day t) text today day w u = record { sane = tt; plain = refl; no_up = λ n k h. refl; fit = λ y h. absurd (none-some _ h); keeps = λ j. inv_day ρ H t w j }
  day_ok ev.Rates text today day w u = rates_ok text
  day_ok (ev.On n) text today day w u = on_ok n
  day_ok (ev.Off n) text today day w u = at_ok n _ (λ _. off_ok n)
  day_ok (ev.Make d key) text today day w u = at_ok (Device d) _ (λ on. make_ok ρ carried H i d key on w.0 w.1 (key_of d (counted H)) refl)
  day_ok (ev.Debit d p a k) text today day w u = at_ok (Device d) _ (λ on. debit_ok ρ carried H i (Devices.shown d p) d (Moves.debit_by d p a k) today (ok_shown ρ carried d p) on w.0 (w.1, w.3) day (key_of d (counted H)) refl)
  day_ok (ev.Ask d kind who a) text today day w u = at_ok (Device d) _ (λ on. ask_ok ρ carried H i d kind who a today (messages H) on w.0 w.1 day (key_of d (counted H)) refl)
  day_ok (ev.Resend d) text today day w u = at_ok (Device d) _ (λ _. resend_ok ρ carried H i d (messages H) (key_of d (counted H)) (pending d (counted H)) refl)
  day_ok (ev.Ack d) text today day w u = at_ok (Device d) _ (λ _. ack_ok ρ carried H i d (messages H) (key_of d (counted H)))
  day_ok (ev.Status d) text today day w u = at_ok (Device d) _ (λ _. status_ok ρ carried H i d today (key_of d (counted H)))
  day_ok (ev.Register d o key) text today day w u = at_ok Centre _ (λ on. register_ok ρ H i on d o key w.0 w.1 w.2)
  day_ok (ev.OpenCustomer c) text today day w u = at_ok Centre _ (λ on. open_ok ρ H i on c w)
  day_ok (ev.Deposit c n a) text today day w u = at_ok Centre _ (λ on. deposit_ok ρ H i on c n a w.0 w.1 w.2)
  day_ok (ev.Flag c s) text today day w u = at_ok Centre _ (λ on. flag_ok ρ H i on c s w)
  day_ok (ev.Balance c) text today day w u = at_ok Centre _ (λ on. balance_ok ρ H i on c)
  day_ok (ev.Deliver k) text today day w u = deliver_ok k today day (message k H) refl
  day_ok (ev.Give n bytes) text today day w u = give_ok today n bytes day w.0 w.1 u
  day_ok (ev.Order d p k grams zone) text today day w u = at_ok Host _ (λ on. order_ok ρ carried H i d p k on w.0 w.1 w.2 (Moves.price_by τ k grams zone (rates_in H)) (λ a h. price_within k grams zone (rates_in H) a h))
  day_ok (ev.Send j) text today day w u = at_ok Host _ (λ _. send_ok ρ carried H i (messages H) j)
  day_ok (ev.Print j) text today day w u = at_ok Host _ (λ on. print_ok ρ carried H i j on w)
  day_ok (ev.Close j) text today day w u = at_ok Host _ (λ on. close_ok ρ carried H i j on w)
  day_ok (ev.Trust d key) text today day w u = at_ok Verifier _ (λ on. trust_ok ρ carried H i d key on w.0 w.1 (trusted d (counted H)) refl)
  day_ok (ev.ScanMsg n k) text today day w u = scan_sent_ok n k today (w.0, w.1) (message k H) refl
  day_ok (ev.ScanHex n bytes) text today day w u = scan_bytes n today bytes (w.0, w.1) u
  day_ok (ev.Reconcile d) text today day w u = at_ok (Device d) _ (λ _. at_ok Centre _ (λ on. reconcile_all d (key_of d (counted H)) on))
  -- what the bench answers alone
  day_ok x text today day w u = ok_refuse ρ H (Moves.plan_on τ ρ H x text today).reply refl tt

  dated_ok : (x : Event) (text : List ℕ) (day : Option ℤ) → day_in H ≡ day → IsWholeEvent x → Unforged x H → PlanOk ρ H (Moves.on_day (Moves.plan_on τ ρ H x text) day)
  dated_ok x text None is w u = ok_refuse ρ H r.NoDay refl tt
  dated_ok x text (Some today) is w u = day_ok x text today (i.dated today is) w u

  undated_ok : (x : Event) (text : List ℕ) → needs_day x ≡ false → IsWholeEvent x → PlanOk ρ H (Moves.plan_on τ ρ H x text (pos 0))
  undated_ok (ev.Day t) text free w = record { sane = tt; plain = refl; no_up = λ n k h. refl; fit = λ y h. absurd (none-some _ h); keeps = λ j. inv_day ρ H t w j }
  undated_ok ev.End text free w = ok_refuse ρ H r.End refl tt
  undated_ok _ text free w = absurd (true≢false free)

  event_ok : (x : Event) (text : List ℕ) (day : Option ℤ) → day_in H ≡ day → IsWholeEvent x → Unforged x H → PlanOk ρ H (Moves.plan_at τ ρ H x text day)
  event_ok x text day is w u = chosen (PlanOk ρ H) (needs_day x) _ _ (λ yes. dated_ok x text day is w u) (λ free. undated_ok x text free w)

  -- the plan of every whole event is right
  pub plan_ok : (x : Event) (text : List ℕ) → IsWholeEvent x → Unforged x H → PlanOk ρ H (plan τ ρ H x text)
  unfolding plan
  plan_ok x text w u = event_ok x text (day_in H) refl w u

-- == editions ==

due_more : (t deadline : ℤ) (a b : ℕ) → a ≤ b → t ≤ℤ (deadline +ℤ pos a) → t ≤ℤ (deadline +ℤ pos b)
due_more t deadline a b le h = omega (arith, ints)

fits_more : (ρ σ : Rules) → Allows ρ σ → (x : Commit) (C : List Commit) → Fits ρ x C → Fits σ x C
fits_more ρ σ a (c.Asked d n r) C f =
    let top = a.total in
    let within = f.within in
    record { made = f.made; whole = f.whole; reads = f.reads; idle = f.idle; next = f.next; device = f.device; number = f.number; ascending = f.ascending; descending = f.descending; refunded = f.refunded; day = f.day; all = f.all; within = omega arith; bound = f.bound; size = f.size; allowed = f.allowed; owner = f.owner; nothing = f.nothing }
fits_more ρ σ a (c.Debited d p b k t v) C f =
    let small = a.small in
    let version = a.version in
    let known = f.known in
    record { made = f.made; free = f.free; next = f.next; low = f.low; high = f.high; funded = f.funded; serves = f.serves; day = f.day; due = due_more t _ ρ.grace σ.grace a.grace f.due; small = λ h. let le = f.small h in omega arith; from_1 = f.from_1; known = omega arith; bound = f.bound }
fits_more ρ σ a _ C f = f

good_more : (ρ σ : Rules) → Allows ρ σ → (C : List Commit) → Good ρ C → Good σ C
good_more ρ σ a [] g = tt
good_more ρ σ a (x ∷ C) g = (fits_more ρ σ a x C g.0, good_more ρ σ a C g.1, g.2)

inv_more : (ρ σ : Rules) → Allows ρ σ → (H : Ledger) → Inv ρ H → Inv σ H
inv_more ρ σ a H i = record {
  good = good_more ρ σ a (counted H) i.good;
  opens = λ n x h. let o = i.opens n x h in record { node = o.node; off = o.off; fits = fits_more ρ σ a x (counted H) o.fits; range = o.range; sure = o.sure };
  sents = i.sents;
  told = i.told;
  printed = i.printed;
  dated = i.dated;
}

pub allows_same : (ρ : Rules) → Allows ρ ρ
allows_same ρ = record { total = omega arith; version = omega arith; grace = omega arith; small = omega arith }

pub carried_by : (ρs : List Rules) (ρ : Rules) → Follows ρs ρ → IsCarried ρ
carried_by [] ρ f = f
carried_by (σ ∷ σs) ρ f = f.0

-- every history by these versions of the rules keeps the invariant of each that comes after them
pub histories : (τ : Tariff) (ρs : List Rules) → Editions ρs → (H : Ledger) → History τ ρs H → (ρ : Rules) → Follows ρs ρ → Inv ρ H
histories τ ρs E H nothing σ a = inv_none σ
histories τ ρs E H (begins {H = I} h) σ a = inv_begin σ I (histories τ ρs E I h σ a)
histories τ ρs E H (moves {ρ = ρ} {ρs = τs} {H = I} x text reply h u v) σ a =
    let carried = carried_by τs ρ E.0 in
    let i = histories τ (ρ ∷ τs) E I h ρ (carried, allows_same ρ) in
    inv_more ρ σ a.1 H (moved ρ I i (plan τ ρ I x text) (plan_ok τ ρ carried I i x text v.0 u) x reply v.1)
histories τ ρs E H (earlier {ρ = ρ} {ρs = τs} h) σ a = inv_more ρ σ a.1 H (histories τ τs E.1 H h ρ E.0)
