-- What a node that is on answers, by what is seen of it after the commits that count.
use Rattle.std.proofs.Common.{◌≡◌, ℕ, ℤ, [], Bool, true, Option, Some, None, refl, sym, ◌∙◌, ap, subst}
use Rattle.bench_base.specs.declared.words.Node.TheVariants.{Device, Centre}
use Rattle.bench_base.specs.declared.events.Event.TheVariants as ev
use Rattle.bench_base.specs.declared.events.Reply.TheVariants as r
use Rattle.bench_base.specs.declared.refusals.DevRefusal.TheVariants as no
use Rattle.bench_base.specs.declared.refusals.CentreRefusal.TheVariants as no_centre
use Rattle.bench_base.specs.Ranges.{IsDevice, IsCustomer}
use Rattle.bench_base.specs.Rules.{todays_rules, editions}
use Rattle.bench_base.specs.Ledger.{Ledger, day_in, is_on}
use Rattle.node_acts.specs.declared.asked.Asked.TheVariants.{Call}
use Rattle.node_acts.specs.Kinds.{view_in}
use Rattle.node_acts.specs.Views.{View}
use Rattle.node_acts.specs.Said.{seen_plan}
use Rattle.node_acts.specs.Acts.{commit_of}
use Rattle.psd_state.specs.State.{State}
use Rattle.psd_state.specs.Seen as device
use Rattle.centre_ledger.specs.declared.rows.CustomerRow.{CustomerRow}
use Rattle.centre_ledger.specs.Seen as centre
use Rattle.centre_ledger.specs.Books.{left_in, customer_at}
use Rattle.centre_ledger.specs.Acts.{left_act}
use Rattle.centre_ledger.specs.Plans.{says, told_balance}
use Rattle.ledger_moves.specs.Tariffs.{Tariff}
use Rattle.ledger_moves.specs.Moves.{answer}
use Rattle.ledger_moves.specs.Histories.{History}
use Rattle.bench_abstraction.specs.declared.{calls.DeviceCall.TheVariants.Status, calls.CentreCall.TheVariants.Balance}
use Rattle.bench_abstraction.specs.Centre.{centre_kind}
use Rattle.bench_abstraction.specs.Devices.{device_kind, IsKnown}
use Rattle.bench_abstraction.specs.Follows.{DevicesFollow, CentreFollows}
use Rattle.bench_abstraction.specs.Kinds.{bench_kinds}
use Rattle.trace_bench.specs.Telling.{done_by, status_by, balance_by, device_in, centre_in, done_or}

-- a device that is seen so, and is on
abbrev seen_on : ℕ → Option State → Option device.Seen → View device.Seen
seen_on count s next = record { state = record { count = count; state = s }; next = next; on = true }

-- it plans what its record says, and commits nothing
on_told : (d : ℕ) (today : ℤ) (count : ℕ) (s : Option State) (next : Option device.Seen)
    → ((device_kind.plan d today (seen_on count s next) Status).reply ≡ done_or (r.DevRefused d no.Blank) (status_by d today (record { count = count; state = s }))) × (device_kind.commit d today (seen_on count s next) Status ≡ None)
on_told d today count None next = (refl, refl)
on_told d today count (Some s) next = (refl, refl)

is_told : (d : ℕ) (today : ℤ) (v : View device.Seen) → v.on ≡ true
    → ((device_kind.plan d today v Status).reply ≡ done_or (r.DevRefused d no.Blank) (status_by d today v.state)) × (device_kind.commit d today v Status ≡ None)
is_told d today v on =
    subst (λ (b : Bool). ((device_kind.plan d today (record v { on = b }) Status).reply ≡ done_or (r.DevRefused d no.Blank) (status_by d today v.state)) × (device_kind.commit d today (record v { on = b }) Status ≡ None))
    (sym on) (on_told d today v.state.count v.state.state v.next)

pub status_answered : DevicesFollow device.counting bench_kinds IsKnown → (τ : Tariff) (H : Ledger) (d : ℕ) (today : ℤ) → History τ editions H → day_in H ≡ Some today → is_on (Device d) H ≡ true
    → IsDevice d → IsKnown (device_in d H) → answer τ todays_rules H (ev.Status d) [] ≡ done_or (r.DevRefused d no.Blank) (status_by d today (device_in d H))
status_answered follows τ H d today history day on named known =
    let told = is_told d today (view_in (Device d) (device_kind.seen d) H) on in
    ap (λ p. p.reply) (follows d τ H (ev.Status d) today (Call Status) history tt day named refl tt known (rw told.1 tt)).plan ∙ told.0

-- the centre's answer about a customer, if it is on: it commits nothing
left_told : (w n : ℕ) (o : Option CustomerRow) (v : View centre.Seen) → v.on ≡ true
    → ((seen_plan centre.counting Centre v (says (told_balance w) (left_act w n o))).reply ≡ done_or (r.CentreRefused (no_centre.UnknownCustomer w)) (done_by (says (told_balance w) (left_act w n o))))
    × (commit_of centre.counting v (says (told_balance w) (left_act w n o)) ≡ None)
left_told w n None v on = (rw on refl, rw on refl)
left_told w n (Some row) v on = (rw on refl, rw on refl)

pub balance_answered : CentreFollows centre.counting bench_kinds centre.IsKnown → (τ : Tariff) (H : Ledger) (w : ℕ) (today : ℤ) → History τ editions H → day_in H ≡ Some today → is_on Centre H ≡ true
    → IsCustomer w → centre.IsKnown (centre_in H) → answer τ todays_rules H (ev.Balance w) [] ≡ done_or (r.CentreRefused (no_centre.UnknownCustomer w)) (balance_by w (centre_in H))
balance_answered follows τ H w today history day on named known =
    let b = centre.books_in (centre_in H) in
    let told = left_told w (left_in b w) (customer_at b w) (view_in Centre (centre_kind.seen tt) H) on in
    ap (λ p. p.reply) (follows τ H (ev.Balance w) today (Call (Balance (record { customer = w }))) history tt day named refl tt known (rw told.1 tt)).plan ∙ told.0
