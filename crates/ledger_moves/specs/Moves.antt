-- What an event does: the answer and entries if nothing fails, and what may be answered besides if storage, power or a stream fails.
use Rattle.std.specs.Prelude.{◌≡◌, ℕ, ℤ, pos, ◌+◌, List, [], ◌∷◌, length, drop, Option, Some, None, IsSome, Result, Ok, Err, ◌⊎◌, nat_lt, if◌then◌else◌}
use Rattle.bench_base.specs.declared.{words.Node.Node, words.Node.TheVariants.Device, words.Node.TheVariants.Centre, words.Node.TheVariants.Host, words.Node.TheVariants.Verifier, refusals.Unread.Unread, refusals.RateRefusal.RateRefusal, ledger.Commit.Commit, events.Event.Event, events.Reply.Reply}
use Rattle.bench_base.specs.declared.refusals.DevRefusal.TheVariants as no
use Rattle.bench_base.specs.declared.ledger.Entry.TheVariants as e
use Rattle.bench_base.specs.declared.events.Event.TheVariants as ev
use Rattle.bench_base.specs.declared.events.Reply.TheVariants as r
use Rattle.bench_base.specs.Rules.{Rules}
use Rattle.bench_base.specs.Nodes.{node_of}
use Rattle.bench_base.specs.Plans.{Plan, refuse, told}
use Rattle.bench_base.specs.Events.{needs_day, IsWholeEvent}
use Rattle.bench_base.specs.Cells.{is_worn}
use Rattle.bench_base.specs.Ledger.{Ledger, day_in, rates_in, messages, message, is_on, count_of, torn_of, counted}
use Rattle.node_acts.specs.Plans.{after, Fails}
use Rattle.psd_wire.specs.declared.{message.Message.Message, message.DebitMsg.DebitMsg}
use Rattle.psd_wire.specs.declared.message.Message.TheVariants as m
use Rattle.psd_wire.specs.Grammar.{read}
use Rattle.ledger_terms.specs.Sums.{ascending, descending}
use Rattle.ledger_terms.specs.Devices.{key_of, pending}
use Rattle.centre_ledger.specs.Plans as centre
use Rattle.host_jobs.specs.Plans as host
use Rattle.verifier.specs.Plans as scans
use Rattle.ledger_moves.specs.Devices as device
use Rattle.ledger_moves.specs.Tariffs.{Tariff, TextFault, NoToml, NoForm}

-- == the bench's checks ==

-- the plan, unless the cell of its commit is worn
abbrev pub unless_worn : List Commit → Plan → Option Commit → Plan
unless_worn C p None = p
unless_worn C p (Some c) = if is_worn c C then refuse (r.Worn (node_of c)) else p

-- the plan of a node that has to be on
abbrev pub at_node : Node → Ledger → Plan → Plan
at_node n H p = if is_on n H then unless_worn (counted H) p p.commit else refuse (r.OffNode n)

-- == rates ==

-- the answer to a text of rates, by what it reads as; a text that reads goes into the ledger
abbrev pub reading_plan : List ℕ → Result (ℕ × ℕ) TextFault → Plan
reading_plan text (Err NoToml) = refuse r.RatesToml
reading_plan text (Err NoForm) = refuse r.RatesForm
reading_plan text (Ok x) = told (r.Rates x.0 x.1) (e.Rates text ∷ [])

-- the same, but a text above 65,536 bytes is refused
abbrev pub rates_plan : Tariff → List ℕ → Plan
rates_plan τ text = if nat_lt 65536 (length text) then refuse r.RatesLength else reading_plan text (τ.reading text)

-- the price by the text of rates that was read last, if there is one
abbrev pub price_by : Tariff → ℕ → ℕ → ℕ → Option (List ℕ) → Option (Result ℕ RateRefusal)
price_by τ class grams zone None = None
price_by τ class grams zone (Some text) = Some (τ.price text class grams zone)

-- == bytes that are handed to a node ==

-- the node takes these bytes if it is on; the verifier takes none
abbrev pub give_plan : Rules → ℤ → Node → List ℕ → Ledger → Plan
give_plan ρ today (Device d) bytes H = at_node (Device d) H (device.device_take ρ (messages H) today d bytes (read bytes) (counted H) (key_of d (counted H)))
give_plan ρ today Centre bytes H = at_node Centre H (centre.take_plan (messages H) bytes (counted H))
give_plan ρ today Host bytes H = at_node Host H (host.take_plan bytes (counted H))
give_plan ρ today Verifier bytes H = refuse (r.OffNode Verifier)

-- the node that a message is for, by what it reads as: a Reply and a Debit name their device, a Release is for the host, and the centre takes all others
abbrev pub addressee : Result Message Unread → Node
addressee (Ok (m.Reply p)) = Device p.device
addressee (Ok (m.Debit q)) = Device q.device
addressee (Ok (m.Release x)) = Host
addressee _ = Centre

-- the message of this number is given to the node that it is for; a number without a message is refused
abbrev pub deliver_plan : Rules → ℤ → ℕ → Option (List ℕ) → Ledger → Plan
deliver_plan ρ today k None H = refuse (r.NoMessage k)
deliver_plan ρ today k (Some bytes) H = give_plan ρ today (addressee (read bytes)) bytes H

-- the verifier scans these bytes
abbrev pub scan_plan : ℕ → ℤ → List ℕ → Ledger → Plan
scan_plan n today bytes H = at_node Verifier H (scans.scan_plan n bytes today (counted H))

-- a message is scanned from its third byte on
abbrev pub scan_sent : ℕ → ℤ → ℕ → Option (List ℕ) → Ledger → Plan
scan_sent n today k None H = refuse (r.NoMessage k)
scan_sent n today k (Some bytes) H = scan_plan n today (drop 2 bytes) H

-- == all events ==

-- the device answers before the centre
abbrev pub reconcile_plan : ℕ → Option (List ℕ) → List Commit → Plan
reconcile_plan d None C = device.no_device d no.Blank
reconcile_plan d (Some key) C = centre.reconcile_plan d (ascending d C + descending d C) C

-- the node comes on with as many commits as were counted, unless it is on
abbrev pub on_plan : Node → Ledger → Plan
on_plan n H = if is_on n H then refuse (r.OnAlready n) else told (r.Up n (count_of n (counted H))) (e.Up n (count_of n (counted H)) ∷ [])

-- the debit that these words ask for
abbrev pub debit_by : ℕ → ℕ → ℕ → ℕ → DebitMsg
debit_by d piece postage class = record { device = d; piece = piece; postage = postage; class = class }

-- the plan on a day, if there is one
abbrev pub on_day : (ℤ → Plan) → Option ℤ → Plan
on_day p None = refuse r.NoDay
on_day p (Some today) = p today

module _ (τ : Tariff) (ρ : Rules) (H : Ledger) where
  -- the plan of an event on a day; text is what a `rates` takes
  abbrev pub plan_on : Event → List ℕ → ℤ → Plan
  plan_on (ev.Day t) text today = told (r.Day t) (e.Day t ∷ [])
  plan_on ev.End text today = refuse r.End
  plan_on ev.Rates text today = rates_plan τ text
  plan_on (ev.On n) text today = on_plan n H
  plan_on (ev.Off n) text today = at_node n H (told (r.Down n) (e.Down n ∷ []))
  plan_on (ev.Cut n calls keep byte) text today = refuse (r.CutSet n)
  plan_on (ev.Make d key) text today = at_node (Device d) H (device.make_plan d key (counted H) (key_of d (counted H)))
  plan_on (ev.Debit d piece postage class) text today =
      at_node (Device d) H (device.debit_plan ρ (device.shown d piece) d (debit_by d piece postage class) today (counted H) (key_of d (counted H)))
  plan_on (ev.Ask d kind who a) text today = at_node (Device d) H (device.ask_plan ρ d kind who a today (messages H) (counted H) (key_of d (counted H)))
  plan_on (ev.Resend d) text today = at_node (Device d) H (device.resend_plan d (messages H) (key_of d (counted H)) (pending d (counted H)))
  plan_on (ev.Ack d) text today = at_node (Device d) H (device.ack_plan d (messages H) (counted H) (key_of d (counted H)))
  plan_on (ev.Status d) text today = at_node (Device d) H (device.status_plan d today (counted H) (key_of d (counted H)))
  plan_on (ev.Register d origin key) text today = at_node Centre H (centre.register_plan d origin key (counted H))
  plan_on (ev.OpenCustomer w) text today = at_node Centre H (centre.open_plan w (counted H))
  plan_on (ev.Deposit w n a) text today = at_node Centre H (centre.deposit_plan w n a (counted H))
  plan_on (ev.Flag w flag) text today = at_node Centre H (centre.flag_plan w flag (counted H))
  plan_on (ev.Balance w) text today = at_node Centre H (centre.balance_plan w (counted H))
  plan_on (ev.Deliver k) text today = deliver_plan ρ today k (message k H) H
  plan_on (ev.Give n bytes) text today = give_plan ρ today n bytes H
  plan_on (ev.Order d piece class grams zone) text today =
      at_node Host H (host.order_plan d piece class (price_by τ class grams zone (rates_in H)) (counted H))
  plan_on (ev.Send j) text today = at_node Host H (host.send_plan (messages H) j (counted H))
  plan_on (ev.Print j) text today = at_node Host H (host.print_plan j (counted H))
  plan_on (ev.Close j) text today = at_node Host H (host.close_plan j (counted H))
  plan_on (ev.Trust d key) text today = at_node Verifier H (scans.trust_plan d key (counted H))
  plan_on (ev.ScanMsg n k) text today = scan_sent n today k (message k H) H
  plan_on (ev.ScanHex n bytes) text today = scan_plan n today bytes H
  plan_on (ev.Reconcile d) text today = at_node (Device d) H (at_node Centre H (reconcile_plan d (key_of d (counted H)) (counted H)))

  -- an event that needs no day doesn't look at it
  abbrev pub plan_at : Event → List ℕ → Option ℤ → Plan
  plan_at x text day = if needs_day x then on_day (plan_on x text) day else plan_on x text (pos 0)

-- what the event does at this ledger if nothing fails
unfoldable pub plan : Tariff → Rules → Ledger → Event → List ℕ → Plan
plan τ ρ H x text = plan_at τ ρ H x text (day_in H)

-- the answer where nothing fails
abbrev pub answer : Tariff → Rules → Ledger → Event → List ℕ → Reply
answer τ ρ H x text = (plan τ ρ H x text).reply

-- == moves ==

-- at the Up of a node with an open commit, the answer with one commit more
pub record OtherUp (answer reply : Reply) (H : Ledger) : Type 0 where
  pub node : Node
  pub count : ℕ
  pub answer_is : answer ≡ r.Up node count
  pub more : reply ≡ r.Up node (count + 1)
  pub torn : IsSome (torn_of node H)

-- a `rates` on a day may find that its source fails
pub record FailsToRead (x : Event) (reply : Reply) (day : Option ℤ) : Type 0 where
  pub event : x ≡ ev.Rates
  pub reply_is : reply ≡ r.RatesFault
  pub dated : IsSome day

-- the replies that a whole event may get
abbrev pub Moves : Tariff → Rules → Ledger → Event → List ℕ → Reply → Type 0
Moves τ ρ H x text reply =
    IsWholeEvent x
    × ((reply ≡ answer τ ρ H x text) ⊎ (OtherUp (answer τ ρ H x text) reply H ⊎ (Fails (plan τ ρ H x text) reply ⊎ FailsToRead x reply (day_in H))))

-- the ledger afterwards
abbrev pub entries : Tariff → Rules → Ledger → Event → List ℕ → Reply → Ledger
entries τ ρ H x text reply = after (plan τ ρ H x text) reply H
