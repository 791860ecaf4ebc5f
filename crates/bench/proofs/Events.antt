-- What an event of a node is, how it is given, and which node the report of a failure names.
use Rattle.std.proofs.Common.{◌≡◌, ◌≢◌, ◌⊎◌, inl, inr, ⊎_elim, ℕ, ℤ, List, Option, Some, None, true, false, refl, sym, ◌∙◌, ap, subst, true≢false}
use Rattle.std.specs.Prelude.{slice_get}
use Rattle.std.proofs.lemmas.Bool.{cases_eq, false_from_ne_true}
use Rattle.std.proofs.lemmas.Option.{same_Some}
use Rattle.bench_base.specs.declared.{words.Node.Node, words.Node.TheVariants.Device, words.Node.TheVariants.Centre, words.Node.TheVariants.Host, words.Node.TheVariants.Verifier, events.Event.Event, events.Reply.Reply}
use Rattle.bench_base.specs.declared.events.Event.TheVariants as ev
use Rattle.bench_base.specs.declared.events.Reply.TheVariants as r
use Rattle.bench_base.proofs.Facts.{same_node_true}
use Rattle.bench_base.specs.Events.{node_for, needs_day, may_commit, day_after, IsAt, IsWholeEvent}
use Rattle.bench_base.specs.Replies.{tells_power, tells_fault, MayGet, MayFailAt}
use Rattle.node_acts.specs.declared.{asked.Asked.Asked, asked.Asked.TheVariants.On, asked.Asked.TheVariants.Off, asked.Asked.TheVariants.Cut, asked.Asked.TheVariants.Call}
use Rattle.bench_abstraction.specs.declared.{calls.DeviceCall.DeviceCall, calls.CentreCall.CentreCall, calls.HostCall.HostCall, calls.VerifierCall.VerifierCall, routing.Routed.Routed, routing.OfDay.OfDay}
use Rattle.bench_abstraction.specs.declared.calls.DeviceCall.TheVariants as device
use Rattle.bench_abstraction.specs.declared.calls.CentreCall.TheVariants as call
use Rattle.bench_abstraction.specs.declared.calls.HostCall.TheVariants as host
use Rattle.bench_abstraction.specs.declared.calls.VerifierCall.TheVariants as verifier
use Rattle.bench_abstraction.specs.declared.routing.Routed.TheVariants as route
use Rattle.bench_abstraction.specs.declared.routing.OfDay.TheVariants as of_day
use Rattle.bench_abstraction.specs.Tariff.{Quote}
use Rattle.bench_abstraction.specs.Routing.{routed, taker, as_given, as_given_by, as_scanned_by, IsPricedAsked}
use Rattle.bench_abstraction.proofs.Events.{each_asked, each_of_centre, each_of_host, each_of_verifier}
use Rattle.node_acts.specs.Kinds.{OfCall}
use Rattle.bench.specs.Calls.{asked_event, device_event, centre_event, host_event, verifier_event, device_call_event, centre_call_event, host_call_event, verifier_call_event, IsRangedCall, IsRangedJob, IsRangedScan}

pub no_day : (o : Option ℤ) (t : ℤ) → o ≡ None → o ≡ Some t → ⊥
no_day o t none some = cc

-- == one node or another ==

pub same_or_not : (m k : Node) → (m ≡ k) ⊎ (m ≢ k)
same_or_not (Device d) (Device e) = ⊎_elim (λ (same : d ≡ e). inl (ap Device same)) (λ (differs : d ≢ e). inr (λ is. differs (one_device d e is))) (cases_eq d e)
  where
    one_device : (i j : ℕ) → Device i ≡ Device j → i ≡ j
    one_device i j is = cc
same_or_not (Device d) Centre = inr (λ is. cc)
same_or_not (Device d) Host = inr (λ is. cc)
same_or_not (Device d) Verifier = inr (λ is. cc)
same_or_not Centre (Device e) = inr (λ is. cc)
same_or_not Centre Centre = inl refl
same_or_not Centre Host = inr (λ is. cc)
same_or_not Centre Verifier = inr (λ is. cc)
same_or_not Host (Device e) = inr (λ is. cc)
same_or_not Host Centre = inr (λ is. cc)
same_or_not Host Host = inl refl
same_or_not Host Verifier = inr (λ is. cc)
same_or_not Verifier (Device e) = inr (λ is. cc)
same_or_not Verifier Centre = inr (λ is. cc)
same_or_not Verifier Host = inr (λ is. cc)
same_or_not Verifier Verifier = inl refl

-- == what is delivered is given ==

-- what an event needs is what it needs where it is given
pub record NeedsAlike (e x : Event) : Type 0 where
  pub day : needs_day e ≡ needs_day x
  pub commits : may_commit e ≡ may_commit x
  pub leaves : (o : Option ℤ) → day_after e o ≡ day_after x o

alike : (e : Event) → NeedsAlike e e
alike e = record { day = refl; commits = refl; leaves = λ o. refl }

given_by : (k : ℕ) (o : Option (List ℕ)) → NeedsAlike (ev.Deliver k) (as_given_by k o)
given_by k None = alike (ev.Deliver k)
given_by k (Some bytes) = record { day = refl; commits = refl; leaves = λ o. refl }

scanned_by : (n k : ℕ) (o : Option (List ℕ)) → NeedsAlike (ev.ScanMsg n k) (as_scanned_by n k o)
scanned_by n k None = alike (ev.ScanMsg n k)
scanned_by n k (Some bytes) = record { day = refl; commits = refl; leaves = λ o. refl }

pub given_alike : (pool : List (List ℕ)) (e : Event) → NeedsAlike e (as_given pool e)
given_alike pool (ev.Deliver k) = given_by k (slice_get pool k)
given_alike pool (ev.ScanMsg scan k) = scanned_by scan k (slice_get pool k)
given_alike pool e = alike e

-- == what the bench takes is the event that asks it ==

-- what is routed
pub taken_as : (pool given : List (List ℕ)) (q : Quote) (e : Event) (o : Option Routed) (x y : Routed) → given ≡ pool → o ≡ routed given q e → o ≡ Some x → x ≡ y → routed pool q e ≡ Some y
taken_as pool given q e o x y same is some named = ap (λ (l : List (List ℕ)). routed l q e) (sym same) ∙ sym is ∙ some ∙ ap (λ z. Some z) named

pub work_as : (pool given : List (List ℕ)) (q : Quote) (e : Event) (o : Option Routed) (x : Routed) (y z : OfDay) → given ≡ pool → o ≡ routed given q e → o ≡ Some x → x ≡ route.OfDay y → y ≡ z → routed pool q e ≡ Some (route.OfDay z)
work_as pool given q e o x y z same is some named of = taken_as pool given q e o x (route.OfDay z) same is some (named ∙ ap (λ w. route.OfDay w) of)

-- an event that sets no day and is not the end needs a day
needs : (e : Event) → ((t : ℤ) → e ≢ ev.Day t) → e ≢ ev.End → needs_day e ≡ true
needs (ev.Day t) no_day no_end = absurd (no_day t refl)
needs ev.End no_day no_end = absurd (no_end refl)
needs _ no_day no_end = refl

pub needs_taken : (pool : List (List ℕ)) (q : Quote) (e : Event) (x : OfDay) → routed pool q e ≡ Some (route.OfDay x) → needs_day e ≡ true
needs_taken pool q e x is = needs e
    (λ t same. let wrong : Some (route.Day t) ≡ Some (route.OfDay x) = sym (ap (routed pool q) same) ∙ is in cc)
    (λ same. let wrong : Some route.End ≡ Some (route.OfDay x) = sym (ap (routed pool q) same) ∙ is in cc)

module _ (pool : List (List ℕ)) (quote : Quote) where
  -- what is delivered is given to the node that takes it
  delivered : (k : ℕ) (bytes : List ℕ) (n : Node) → slice_get pool k ≡ Some bytes → taker bytes ≡ n → as_given pool (ev.Deliver k) ≡ ev.Give n bytes
  delivered k bytes n there to = ap (as_given_by k) there ∙ ap (λ (m : Node). ev.Give m bytes) to

  pub device_given : (e : Event) (d : ℕ) (asked : Asked DeviceCall) → routed pool quote e ≡ Some (route.OfDay (of_day.Device d asked)) → as_given pool e ≡ device_event d asked
  device_given = each_asked pool quote (λ e d asked. as_given pool e ≡ device_event d asked) (record {
    on = λ d. refl;
    off = λ d. refl;
    cut = λ d calls keep byte. refl;
    make = λ d key. refl;
    debit = λ d piece postage class. refl;
    ask = λ d kind who amount. refl;
    resend = λ d. refl;
    ack = λ d. refl;
    status = λ d. refl;
    give = λ d bytes. refl;
    deliver = λ k d bytes there to. delivered k bytes (Device d) there to;
  })

  pub centre_given : (e : Event) (asked : Asked CentreCall) → routed pool quote e ≡ Some (route.OfDay (of_day.Centre asked)) → as_given pool e ≡ centre_event asked
  centre_given = each_of_centre pool quote (λ e asked. as_given pool e ≡ centre_event asked) (record {
    on = refl;
    off = refl;
    cut = λ calls keep byte. refl;
    register = λ d origin key. refl;
    opens = λ w. refl;
    deposit = λ w receipt amount. refl;
    flag = λ w suspended. refl;
    balance = λ w. refl;
    give = λ bytes. refl;
    deliver = λ k bytes there to. delivered k bytes Centre there to;
  })

  pub host_given : (e : Event) (asked : Asked HostCall) → routed pool quote e ≡ Some (route.OfDay (of_day.Host asked)) → as_given pool e ≡ host_event asked
  host_given = each_of_host pool quote (λ e asked. as_given pool e ≡ host_event asked) (record {
    on = refl;
    off = refl;
    cut = λ calls keep byte. refl;
    order = λ d piece class grams zone. refl;
    send = λ j. refl;
    print = λ j. refl;
    close = λ j. refl;
    give = λ bytes. refl;
    deliver = λ k bytes there to. delivered k bytes Host there to;
  })

  pub verifier_given : (e : Event) (asked : Asked VerifierCall) → routed pool quote e ≡ Some (route.OfDay (of_day.Verifier asked)) → as_given pool e ≡ verifier_event asked
  verifier_given = each_of_verifier pool quote (λ e asked. as_given pool e ≡ verifier_event asked) (record {
    on = refl;
    off = refl;
    cut = λ calls keep byte. refl;
    trust = λ d key. refl;
    scan = λ n bytes. refl;
    message = λ n k bytes there. ap (as_scanned_by n k) there;
  })

  -- == the numbers of what a node is asked are those of the event ==

  pub centre_ranged : (e : Event) (asked : Asked CentreCall) → routed pool quote e ≡ Some (route.OfDay (of_day.Centre asked)) → IsWholeEvent e → OfCall IsRangedCall asked
  centre_ranged = each_of_centre pool quote (λ e asked. IsWholeEvent e → OfCall IsRangedCall asked) (record {
    on = λ whole. tt;
    off = λ whole. tt;
    cut = λ calls keep byte whole. tt;
    register = λ d origin key whole. (whole.0, whole.1);
    opens = λ w whole. whole;
    deposit = λ w receipt amount whole. whole.0;
    flag = λ w suspended whole. whole;
    balance = λ w whole. whole;
    give = λ bytes whole. tt;
    deliver = λ k bytes there to whole. tt;
  })

  -- a price is one where the quote gives one
  pub host_ranged : (e : Event) (asked : Asked HostCall) → routed pool quote e ≡ Some (route.OfDay (of_day.Host asked)) → IsWholeEvent e → IsPricedAsked asked → OfCall IsRangedJob asked
  host_ranged = each_of_host pool quote (λ e asked. IsWholeEvent e → IsPricedAsked asked → OfCall IsRangedJob asked) (record {
    on = λ whole priced. tt;
    off = λ whole priced. tt;
    cut = λ calls keep byte whole priced. tt;
    order = λ d piece class grams zone whole priced. (whole.0, priced);
    send = λ j whole priced. tt;
    print = λ j whole priced. tt;
    close = λ j whole priced. tt;
    give = λ bytes whole priced. tt;
    deliver = λ k bytes there to whole priced. tt;
  })

  pub verifier_ranged : (e : Event) (asked : Asked VerifierCall) → routed pool quote e ≡ Some (route.OfDay (of_day.Verifier asked)) → IsWholeEvent e → OfCall IsRangedScan asked
  verifier_ranged = each_of_verifier pool quote (λ e asked. IsWholeEvent e → OfCall IsRangedScan asked) (record {
    on = λ whole. tt;
    off = λ whole. tt;
    cut = λ calls keep byte whole. tt;
    trust = λ d key whole. whole;
    scan = λ n bytes whole. (whole.0, whole.1);
    message = λ n k bytes there whole. (whole.0, whole.1);
  })

-- what holds of `On`, `Off`, each `Cut`, and each call that meets P holds of what is asked
pub of_call : {C : Type 0} {P : C → Type 0} (Q : Asked C → Type 0) → Q On → Q Off → ((calls keep byte : ℕ) → Q (Cut calls keep byte)) → ((c : C) → P c → Q (Call c)) → (asked : Asked C) → OfCall P asked → Q asked
of_call Q on off cut call On of = on
of_call Q on off cut call Off of = off
of_call Q on off cut call (Cut calls keep byte) of = cut calls keep byte
of_call Q on off cut call (Call c) of = call c of

-- what an event of node m needs
pub record IsOfNode (m : Node) (e : Event) : Type 0 where
  pub node : node_for e ≡ Some m
  pub dated : needs_day e ≡ true
  pub leaves : (o : Option ℤ) → day_after e o ≡ o
  pub no_day : (t : ℤ) → e ≢ ev.Day t
  pub no_end : e ≢ ev.End
  pub no_compare : (d : ℕ) → e ≢ ev.Reconcile d

asked_of : {C : Type 0} (m : Node) (of_call : C → Event) → ((c : C) → IsOfNode m (of_call c)) → (asked : Asked C) → IsOfNode m (asked_event m of_call asked)
asked_of m of_call each On = record { node = refl; dated = refl; leaves = λ o. refl; no_day = λ t e. cc; no_end = λ e. cc; no_compare = λ i e. cc }
asked_of m of_call each Off = record { node = refl; dated = refl; leaves = λ o. refl; no_day = λ t e. cc; no_end = λ e. cc; no_compare = λ i e. cc }
asked_of m of_call each (Cut calls keep byte) = record { node = refl; dated = refl; leaves = λ o. refl; no_day = λ t e. cc; no_end = λ e. cc; no_compare = λ i e. cc }
asked_of m of_call each (Call c) = each c

device_call_of : (d : ℕ) (c : DeviceCall) → IsOfNode (Device d) (device_call_event d c)
device_call_of d (device.Make c) = record { node = refl; dated = refl; leaves = λ o. refl; no_day = λ t e. cc; no_end = λ e. cc; no_compare = λ i e. cc }
device_call_of d (device.Debit c) = record { node = refl; dated = refl; leaves = λ o. refl; no_day = λ t e. cc; no_end = λ e. cc; no_compare = λ i e. cc }
device_call_of d (device.Ask c) = record { node = refl; dated = refl; leaves = λ o. refl; no_day = λ t e. cc; no_end = λ e. cc; no_compare = λ i e. cc }
device_call_of d (device.Resend c) = record { node = refl; dated = refl; leaves = λ o. refl; no_day = λ t e. cc; no_end = λ e. cc; no_compare = λ i e. cc }
device_call_of d (device.Ack c) = record { node = refl; dated = refl; leaves = λ o. refl; no_day = λ t e. cc; no_end = λ e. cc; no_compare = λ i e. cc }
device_call_of d device.Status = record { node = refl; dated = refl; leaves = λ o. refl; no_day = λ t e. cc; no_end = λ e. cc; no_compare = λ i e. cc }
device_call_of d (device.Take c) = record { node = refl; dated = refl; leaves = λ o. refl; no_day = λ t e. cc; no_end = λ e. cc; no_compare = λ i e. cc }

centre_call_of : (c : CentreCall) → IsOfNode Centre (centre_call_event c)
centre_call_of (call.Register c) = record { node = refl; dated = refl; leaves = λ o. refl; no_day = λ t e. cc; no_end = λ e. cc; no_compare = λ i e. cc }
centre_call_of (call.Open c) = record { node = refl; dated = refl; leaves = λ o. refl; no_day = λ t e. cc; no_end = λ e. cc; no_compare = λ i e. cc }
centre_call_of (call.Deposit c) = record { node = refl; dated = refl; leaves = λ o. refl; no_day = λ t e. cc; no_end = λ e. cc; no_compare = λ i e. cc }
centre_call_of (call.Flag c) = record { node = refl; dated = refl; leaves = λ o. refl; no_day = λ t e. cc; no_end = λ e. cc; no_compare = λ i e. cc }
centre_call_of (call.Balance c) = record { node = refl; dated = refl; leaves = λ o. refl; no_day = λ t e. cc; no_end = λ e. cc; no_compare = λ i e. cc }
centre_call_of (call.Take c) = record { node = refl; dated = refl; leaves = λ o. refl; no_day = λ t e. cc; no_end = λ e. cc; no_compare = λ i e. cc }

host_call_of : (c : HostCall) → IsOfNode Host (host_call_event c)
host_call_of (host.Order c) = record { node = refl; dated = refl; leaves = λ o. refl; no_day = λ t e. cc; no_end = λ e. cc; no_compare = λ i e. cc }
host_call_of (host.Send c) = record { node = refl; dated = refl; leaves = λ o. refl; no_day = λ t e. cc; no_end = λ e. cc; no_compare = λ i e. cc }
host_call_of (host.Print c) = record { node = refl; dated = refl; leaves = λ o. refl; no_day = λ t e. cc; no_end = λ e. cc; no_compare = λ i e. cc }
host_call_of (host.Close c) = record { node = refl; dated = refl; leaves = λ o. refl; no_day = λ t e. cc; no_end = λ e. cc; no_compare = λ i e. cc }
host_call_of (host.Take c) = record { node = refl; dated = refl; leaves = λ o. refl; no_day = λ t e. cc; no_end = λ e. cc; no_compare = λ i e. cc }

verifier_call_of : (c : VerifierCall) → IsOfNode Verifier (verifier_call_event c)
verifier_call_of (verifier.Trust c) = record { node = refl; dated = refl; leaves = λ o. refl; no_day = λ t e. cc; no_end = λ e. cc; no_compare = λ i e. cc }
verifier_call_of (verifier.Scan c) = record { node = refl; dated = refl; leaves = λ o. refl; no_day = λ t e. cc; no_end = λ e. cc; no_compare = λ i e. cc }

pub of_device : (d : ℕ) (asked : Asked DeviceCall) → IsOfNode (Device d) (device_event d asked)
of_device d asked = asked_of (Device d) (device_call_event d) (device_call_of d) asked

pub of_centre : (asked : Asked CentreCall) → IsOfNode Centre (centre_event asked)
of_centre asked = asked_of Centre centre_call_event centre_call_of asked

pub of_host : (asked : Asked HostCall) → IsOfNode Host (host_event asked)
of_host asked = asked_of Host host_call_event host_call_of asked

pub of_verifier : (asked : Asked VerifierCall) → IsOfNode Verifier (verifier_event asked)
of_verifier asked = asked_of Verifier verifier_call_event verifier_call_of asked

pub node_is : (m : Node) (e : Event) (k : Node) → IsOfNode m e → node_for e ≡ Some k → m ≡ k
node_is m e k of is = same_Some _ _ (sym of.node ∙ is)

-- == which node the report of a failure names ==

power_at : (e : Event) (k : Node) (reply : Reply) → MayGet e reply → tells_power k reply ≡ true → MayFailAt e k
power_at e k (r.Power n) may is = subst (MayFailAt e) (same_node_true n k is) may
power_at e k _ may is = absurd (true≢false (sym is))

fault_at : (e : Event) (k : Node) (reply : Reply) → MayGet e reply → tells_fault k reply ≡ true → MayFailAt e k
fault_at e k (r.Fault n) may is = subst (MayFailAt e) (same_node_true n k is) may
fault_at e k _ may is = absurd (true≢false (sym is))

fails_there : (m : Node) (e : Event) (k : Node) → IsOfNode m e → MayFailAt e k → m ≡ k
fails_there m e k of may = ⊎_elim
    (λ on. node_is m e k of (ap node_for on))
    (λ commits. subst (λ (o : Option Node). IsAt o k) of.node commits.at)
    may

-- the reply to an event of node m reports no failure of another node
pub untold : (m : Node) (e : Event) (k : Node) (reply : Reply) → IsOfNode m e → MayGet e reply → k ≢ m → (tells_power k reply ≡ false) × (tells_fault k reply ≡ false)
untold m e k reply of may differs = (
  false_from_ne_true _ (λ is. differs (sym (fails_there m e k of (power_at e k reply may is)))),
  false_from_ne_true _ (λ is. differs (sym (fails_there m e k of (fault_at e k reply may is)))),
)
