-- The events of a bench, one after the other.
use Rattle.std.proofs.Common.{◌≡◌, ◌≢◌, ℕ, ℤ, Bool, true, false, List, Option, Some, None, length, drop, refl, subst, if◌then◌else◌, arith}
use Rattle.std.specs.Prelude.{slice_get, ◌&&◌, nat_le}
use Rattle.std.proofs.lemmas.Bool.Decides.{nat_tests}
use Rattle.std.proofs.lemmas.Option.{none-some, same_Some}
use Rattle.bench_base.specs.Ranges.{IsDevice}
use Rattle.bench_base.specs.declared.{words.Node.Node, words.Kind.Kind, words.Node.TheVariants.Device, words.Node.TheVariants.Centre, words.Node.TheVariants.Host, words.Node.TheVariants.Verifier, events.Event.Event}
use Rattle.bench_base.specs.declared.events.Event.TheVariants as ev
use Rattle.node_acts.specs.declared.{asked.Asked.Asked, asked.Asked.TheVariants.On, asked.Asked.TheVariants.Off, asked.Asked.TheVariants.Cut, asked.Asked.TheVariants.Call}
use Rattle.bench_abstraction.specs.declared.{calls.DeviceCall.DeviceCall, calls.CentreCall.CentreCall, calls.HostCall.HostCall, calls.VerifierCall.VerifierCall, routing.Routed.Routed, routing.OfDay.OfDay}
use Rattle.bench_abstraction.specs.declared.calls.DeviceCall.TheVariants as device
use Rattle.bench_abstraction.specs.declared.calls.CentreCall.TheVariants as call
use Rattle.bench_abstraction.specs.declared.calls.HostCall.TheVariants as host
use Rattle.bench_abstraction.specs.declared.calls.VerifierCall.TheVariants as verifier
use Rattle.bench_abstraction.specs.declared.routing.Routed.TheVariants as route
use Rattle.bench_abstraction.specs.declared.routing.OfDay.TheVariants as of_day
use Rattle.bench_abstraction.specs.Tariff.{Quote}
use Rattle.bench_abstraction.specs.Routing as routing
use Rattle.bench_abstraction.specs.Routing.{routed, message_taken, scanned}

pub same_work : {x y : OfDay} → Some (route.OfDay x) ≡ Some (route.OfDay y) → x ≡ y
same_work h = cc

-- who takes what is for another node than the centre is that node
pub same_taker : (n m : Node) → Centre ≢ m → routing.stand_in n ≡ m → n ≡ m
same_taker (Device d) m other is = by (nat_le 1 d && nat_le d 8) is
  where
    by : (there : Bool) → (if there then Device d else Centre) ≡ m → Device d ≡ m
    by true same = same
    by false same = absurd (other same)
same_taker Centre m other is = is
same_taker Host m other is = is
same_taker Verifier m other is = is

-- the number of a device is from 1 to 8
pub one_of_eight : (d : ℕ) → IsDevice d → (nat_le 1 d && nat_le d 8) ≡ true
one_of_eight d is = grind (arith, nat_tests, is)

-- == of one kind ==

module _ (pool : List (List ℕ)) (quote : Quote) where
  abbrev next : ℕ
  next = length pool

  -- P holds of each event of a device, with what it asks
  pub record EachAsked (P : Event → ℕ → Asked DeviceCall → Type 0) : Type 0 where
    pub on : (d : ℕ) → P (ev.On (Device d)) d On
    pub off : (d : ℕ) → P (ev.Off (Device d)) d Off
    pub cut : (d calls keep byte : ℕ) → P (ev.Cut (Device d) calls keep byte) d (Cut calls keep byte)
    pub make : (d : ℕ) (key : List ℕ) → P (ev.Make d key) d (Call (device.Make (record { key = key })))
    pub debit : (d piece postage class : ℕ) → P (ev.Debit d piece postage class) d (Call (device.Debit (record { piece = piece; postage = postage; class = class })))
    pub ask : (d : ℕ) (kind : Kind) (who amount : ℕ) → P (ev.Ask d kind who amount) d (Call (device.Ask (record { kind = kind; customer = who; amount = amount; message = next })))
    pub resend : (d : ℕ) → P (ev.Resend d) d (Call (device.Resend (record { message = next })))
    pub ack : (d : ℕ) → P (ev.Ack d) d (Call (device.Ack (record { message = next })))
    pub status : (d : ℕ) → P (ev.Status d) d (Call device.Status)
    pub give : (d : ℕ) (bytes : List ℕ) → P (ev.Give (Device d) bytes) d (Call (device.Take (record { bytes = bytes; message = next })))
    pub deliver : (k d : ℕ) (bytes : List ℕ) → slice_get pool k ≡ Some bytes → routing.taker bytes ≡ Device d → P (ev.Deliver k) d (Call (device.Take (record { bytes = bytes; message = next })))

  -- and of each event of the centre
  pub record EachOfCentre (P : Event → Asked CentreCall → Type 0) : Type 0 where
    pub on : P (ev.On Centre) On
    pub off : P (ev.Off Centre) Off
    pub cut : (calls keep byte : ℕ) → P (ev.Cut Centre calls keep byte) (Cut calls keep byte)
    pub register : (d origin : ℕ) (key : List ℕ) → P (ev.Register d origin key) (Call (call.Register (record { device = d; origin = origin; key = key })))
    pub opens : (w : ℕ) → P (ev.OpenCustomer w) (Call (call.Open (record { customer = w })))
    pub deposit : (w receipt amount : ℕ) → P (ev.Deposit w receipt amount) (Call (call.Deposit (record { customer = w; receipt = receipt; amount = amount })))
    pub flag : (w : ℕ) (suspended : Bool) → P (ev.Flag w suspended) (Call (call.Flag (record { customer = w; suspended = suspended })))
    pub balance : (w : ℕ) → P (ev.Balance w) (Call (call.Balance (record { customer = w })))
    pub give : (bytes : List ℕ) → P (ev.Give Centre bytes) (Call (call.Take (record { bytes = bytes; message = next })))
    pub deliver : (k : ℕ) (bytes : List ℕ) → slice_get pool k ≡ Some bytes → routing.taker bytes ≡ Centre → P (ev.Deliver k) (Call (call.Take (record { bytes = bytes; message = next })))

  -- of the host
  pub record EachOfHost (P : Event → Asked HostCall → Type 0) : Type 0 where
    pub on : P (ev.On Host) On
    pub off : P (ev.Off Host) Off
    pub cut : (calls keep byte : ℕ) → P (ev.Cut Host calls keep byte) (Cut calls keep byte)
    pub order : (d piece class grams zone : ℕ) → P (ev.Order d piece class grams zone) (Call (host.Order (record { device = d; piece = piece; class = class; grams = grams; zone = zone; price = quote class grams zone })))
    pub send : (j : ℕ) → P (ev.Send j) (Call (host.Send (record { job = j; message = next })))
    pub print : (j : ℕ) → P (ev.Print j) (Call (host.Print (record { job = j })))
    pub close : (j : ℕ) → P (ev.Close j) (Call (host.Close (record { job = j })))
    pub give : (bytes : List ℕ) → P (ev.Give Host bytes) (Call (host.Take (record { bytes = bytes })))
    pub deliver : (k : ℕ) (bytes : List ℕ) → slice_get pool k ≡ Some bytes → routing.taker bytes ≡ Host → P (ev.Deliver k) (Call (host.Take (record { bytes = bytes })))

  -- of the verifier
  pub record EachOfVerifier (P : Event → Asked VerifierCall → Type 0) : Type 0 where
    pub on : P (ev.On Verifier) On
    pub off : P (ev.Off Verifier) Off
    pub cut : (calls keep byte : ℕ) → P (ev.Cut Verifier calls keep byte) (Cut calls keep byte)
    pub trust : (d : ℕ) (key : List ℕ) → P (ev.Trust d key) (Call (verifier.Trust (record { device = d; key = key })))
    pub scan : (n : ℕ) (bytes : List ℕ) → P (ev.ScanHex n bytes) (Call (verifier.Scan (record { number = n; bytes = bytes })))
    pub message : (n k : ℕ) (bytes : List ℕ) → slice_get pool k ≡ Some bytes → P (ev.ScanMsg n k) (Call (verifier.Scan (record { number = n; bytes = (drop 2 bytes) })))

  -- and of each event of no node
  pub record EachQuiet (P : Event → Routed → Type 0) : Type 0 where
    pub day : (t : ℤ) → P (ev.Day t) (route.Day t)
    pub end : P ev.End route.End
    pub rates : P ev.Rates (route.OfDay of_day.Rates)
    pub reconcile : (d : ℕ) → P (ev.Reconcile d) (route.OfDay (of_day.Reconcile d))
    pub deliver : (k : ℕ) → slice_get pool k ≡ None → P (ev.Deliver k) (route.OfDay (of_day.NoMessage k))
    pub scan : (n k : ℕ) → slice_get pool k ≡ None → P (ev.ScanMsg n k) (route.OfDay (of_day.NoMessage k))

  -- P of each event, by the node that it is for
  pub record Each (R : Event → Routed → Type 0) (D : Event → ℕ → Asked DeviceCall → Type 0) (C : Event → Asked CentreCall → Type 0) (H : Event → Asked HostCall → Type 0) (V : Event → Asked VerifierCall → Type 0) : Type 0 where
    pub quiet : EachQuiet R
    pub devices : EachAsked D
    pub centre : EachOfCentre C
    pub host : EachOfHost H
    pub verifier : EachOfVerifier V

  -- what is routed, by the node that it is for
  abbrev ByNode : (Event → Routed → Type 0) → (Event → ℕ → Asked DeviceCall → Type 0) → (Event → Asked CentreCall → Type 0) → (Event → Asked HostCall → Type 0) → (Event → Asked VerifierCall → Type 0) → Event → Routed → Type 0
  ByNode R D C H V e (route.Day t) = R e (route.Day t)
  ByNode R D C H V e route.End = R e route.End
  ByNode R D C H V e (route.OfDay of_day.Rates) = R e (route.OfDay of_day.Rates)
  ByNode R D C H V e (route.OfDay (of_day.NoMessage k)) = R e (route.OfDay (of_day.NoMessage k))
  ByNode R D C H V e (route.OfDay (of_day.Reconcile d)) = R e (route.OfDay (of_day.Reconcile d))
  ByNode R D C H V e (route.OfDay (of_day.Device d asked)) = D e d asked
  ByNode R D C H V e (route.OfDay (of_day.Centre asked)) = C e asked
  ByNode R D C H V e (route.OfDay (of_day.Host asked)) = H e asked
  ByNode R D C H V e (route.OfDay (of_day.Verifier asked)) = V e asked

  module _ (R : Event → Routed → Type 0) (D : Event → ℕ → Asked DeviceCall → Type 0) (C : Event → Asked CentreCall → Type 0) (H : Event → Asked HostCall → Type 0) (V : Event → Asked VerifierCall → Type 0)
      (each : Each R D C H V) where
    scanned_each : (n k : ℕ) (o : Option (List ℕ)) → slice_get pool k ≡ o → ByNode R D C H V (ev.ScanMsg n k) (scanned n k o)
    scanned_each n k None is = each.quiet.scan n k is
    scanned_each n k (Some bytes) is = each.verifier.message n k bytes is

    found : (e : Event) (x y : Routed) → Some y ≡ Some x → ByNode R D C H V e y → ByNode R D C H V e x
    found e x y is holds = subst (ByNode R D C H V e) (same_Some _ _ is) holds

    -- what is delivered is given to the node that takes it, if the message is there
    handed_each : (k : ℕ) (bytes : List ℕ) → slice_get pool k ≡ Some bytes → (n : Node) → routing.taker bytes ≡ n → (x : Routed) → routing.given_to n bytes next ≡ Some x → ByNode R D C H V (ev.Deliver k) x
    handed_each k bytes there (Device d) to x h = found (ev.Deliver k) x (routing.of_device d (device.Take (record { bytes = bytes; message = next }))) h (each.devices.deliver k d bytes there to)
    handed_each k bytes there Centre to x h = found (ev.Deliver k) x (routing.of_centre (call.Take (record { bytes = bytes; message = next }))) h (each.centre.deliver k bytes there to)
    handed_each k bytes there Host to x h = found (ev.Deliver k) x (routing.of_host (host.Take (record { bytes = bytes }))) h (each.host.deliver k bytes there to)
    handed_each k bytes there Verifier to x h = absurd (none-some _ h)

    delivered_each : (k : ℕ) (o : Option (List ℕ)) → slice_get pool k ≡ o → (x : Routed) → message_taken k next o ≡ Some x → ByNode R D C H V (ev.Deliver k) x
    delivered_each k None is x h = found (ev.Deliver k) x (route.OfDay (of_day.NoMessage k)) h (each.quiet.deliver k is)
    delivered_each k (Some bytes) is x h = handed_each k bytes is (routing.taker bytes) refl x h

    pub each_taken : (e : Event) (x : Routed) → routed pool quote e ≡ Some x → ByNode R D C H V e x
    each_taken (ev.Day t) x h = found (ev.Day t) x (route.Day t) h (each.quiet.day t)
    each_taken ev.End x h = found ev.End x route.End h each.quiet.end
    each_taken ev.Rates x h = found ev.Rates x (route.OfDay of_day.Rates) h each.quiet.rates
    each_taken (ev.On (Device d)) x h = found (ev.On (Device d)) x (route.OfDay (of_day.Device d On)) h (each.devices.on d)
    each_taken (ev.On Centre) x h = found (ev.On Centre) x (route.OfDay (of_day.Centre On)) h each.centre.on
    each_taken (ev.On Host) x h = found (ev.On Host) x (route.OfDay (of_day.Host On)) h each.host.on
    each_taken (ev.On Verifier) x h = found (ev.On Verifier) x (route.OfDay (of_day.Verifier On)) h each.verifier.on
    each_taken (ev.Off (Device d)) x h = found (ev.Off (Device d)) x (route.OfDay (of_day.Device d Off)) h (each.devices.off d)
    each_taken (ev.Off Centre) x h = found (ev.Off Centre) x (route.OfDay (of_day.Centre Off)) h each.centre.off
    each_taken (ev.Off Host) x h = found (ev.Off Host) x (route.OfDay (of_day.Host Off)) h each.host.off
    each_taken (ev.Off Verifier) x h = found (ev.Off Verifier) x (route.OfDay (of_day.Verifier Off)) h each.verifier.off
    each_taken (ev.Cut (Device d) calls keep byte) x h = found (ev.Cut (Device d) calls keep byte) x (route.OfDay (of_day.Device d (Cut calls keep byte))) h (each.devices.cut d calls keep byte)
    each_taken (ev.Cut Centre calls keep byte) x h = found (ev.Cut Centre calls keep byte) x (route.OfDay (of_day.Centre (Cut calls keep byte))) h (each.centre.cut calls keep byte)
    each_taken (ev.Cut Host calls keep byte) x h = found (ev.Cut Host calls keep byte) x (route.OfDay (of_day.Host (Cut calls keep byte))) h (each.host.cut calls keep byte)
    each_taken (ev.Cut Verifier calls keep byte) x h = found (ev.Cut Verifier calls keep byte) x (route.OfDay (of_day.Verifier (Cut calls keep byte))) h (each.verifier.cut calls keep byte)
    each_taken (ev.Make d key) x h = found (ev.Make d key) x (route.OfDay (of_day.Device d (Call (device.Make (record { key = key }))))) h (each.devices.make d key)
    each_taken (ev.Debit d piece postage class) x h = found (ev.Debit d piece postage class) x (route.OfDay (of_day.Device d (Call (device.Debit (record { piece = piece; postage = postage; class = class }))))) h (each.devices.debit d piece postage class)
    each_taken (ev.Ask d kind who amount) x h = found (ev.Ask d kind who amount) x (route.OfDay (of_day.Device d (Call (device.Ask (record { kind = kind; customer = who; amount = amount; message = next }))))) h (each.devices.ask d kind who amount)
    each_taken (ev.Resend d) x h = found (ev.Resend d) x (route.OfDay (of_day.Device d (Call (device.Resend (record { message = next }))))) h (each.devices.resend d)
    each_taken (ev.Ack d) x h = found (ev.Ack d) x (route.OfDay (of_day.Device d (Call (device.Ack (record { message = next }))))) h (each.devices.ack d)
    each_taken (ev.Status d) x h = found (ev.Status d) x (route.OfDay (of_day.Device d (Call device.Status))) h (each.devices.status d)
    each_taken (ev.Register d origin key) x h = found (ev.Register d origin key) x (route.OfDay (of_day.Centre (Call (call.Register (record { device = d; origin = origin; key = key }))))) h (each.centre.register d origin key)
    each_taken (ev.OpenCustomer w) x h = found (ev.OpenCustomer w) x (route.OfDay (of_day.Centre (Call (call.Open (record { customer = w }))))) h (each.centre.opens w)
    each_taken (ev.Deposit w receipt amount) x h = found (ev.Deposit w receipt amount) x (route.OfDay (of_day.Centre (Call (call.Deposit (record { customer = w; receipt = receipt; amount = amount }))))) h (each.centre.deposit w receipt amount)
    each_taken (ev.Flag w suspended) x h = found (ev.Flag w suspended) x (route.OfDay (of_day.Centre (Call (call.Flag (record { customer = w; suspended = suspended }))))) h (each.centre.flag w suspended)
    each_taken (ev.Balance w) x h = found (ev.Balance w) x (route.OfDay (of_day.Centre (Call (call.Balance (record { customer = w }))))) h (each.centre.balance w)
    each_taken (ev.Deliver k) x h = delivered_each k (slice_get pool k) refl x h
    each_taken (ev.Give (Device d) bytes) x h = found (ev.Give (Device d) bytes) x (route.OfDay (of_day.Device d (Call (device.Take (record { bytes = bytes; message = next }))))) h (each.devices.give d bytes)
    each_taken (ev.Give Centre bytes) x h = found (ev.Give Centre bytes) x (route.OfDay (of_day.Centre (Call (call.Take (record { bytes = bytes; message = next }))))) h (each.centre.give bytes)
    each_taken (ev.Give Host bytes) x h = found (ev.Give Host bytes) x (route.OfDay (of_day.Host (Call (host.Take (record { bytes = bytes }))))) h (each.host.give bytes)
    each_taken (ev.Give Verifier bytes) x h = absurd (none-some _ h)
    each_taken (ev.Order d piece class grams zone) x h = found (ev.Order d piece class grams zone) x (route.OfDay (of_day.Host (Call (host.Order (record { device = d; piece = piece; class = class; grams = grams; zone = zone; price = quote class grams zone }))))) h (each.host.order d piece class grams zone)
    each_taken (ev.Send j) x h = found (ev.Send j) x (route.OfDay (of_day.Host (Call (host.Send (record { job = j; message = next }))))) h (each.host.send j)
    each_taken (ev.Print j) x h = found (ev.Print j) x (route.OfDay (of_day.Host (Call (host.Print (record { job = j }))))) h (each.host.print j)
    each_taken (ev.Close j) x h = found (ev.Close j) x (route.OfDay (of_day.Host (Call (host.Close (record { job = j }))))) h (each.host.close j)
    each_taken (ev.Trust d key) x h = found (ev.Trust d key) x (route.OfDay (of_day.Verifier (Call (verifier.Trust (record { device = d; key = key }))))) h (each.verifier.trust d key)
    each_taken (ev.ScanMsg n k) x h = subst (ByNode R D C H V (ev.ScanMsg n k)) (same_Some _ _ h) (scanned_each n k (slice_get pool k) refl)
    each_taken (ev.ScanHex n bytes) x h = found (ev.ScanHex n bytes) x (route.OfDay (of_day.Verifier (Call (verifier.Scan (record { number = n; bytes = bytes }))))) h (each.verifier.scan n bytes)
    each_taken (ev.Reconcile d) x h = found (ev.Reconcile d) x (route.OfDay (of_day.Reconcile d)) h (each.quiet.reconcile d)

  -- == of one kind alone ==

  no_quiet : EachQuiet (λ e x. Unit {0})
  no_quiet = record {
    day = λ t. tt;
    end = tt;
    rates = tt;
    reconcile = λ d. tt;
    deliver = λ k is. tt;
    scan = λ n k is. tt;
  }

  no_device : EachAsked (λ e d asked. Unit {0})
  no_device = record {
    on = λ d. tt;
    off = λ d. tt;
    cut = λ d calls keep byte. tt;
    make = λ d key. tt;
    debit = λ d piece postage class. tt;
    ask = λ d kind who amount. tt;
    resend = λ d. tt;
    ack = λ d. tt;
    status = λ d. tt;
    give = λ d bytes. tt;
    deliver = λ k d bytes there to. tt;
  }

  no_centre : EachOfCentre (λ e asked. Unit {0})
  no_centre = record {
    on = tt;
    off = tt;
    cut = λ calls keep byte. tt;
    register = λ d origin key. tt;
    opens = λ w. tt;
    deposit = λ w receipt amount. tt;
    flag = λ w suspended. tt;
    balance = λ w. tt;
    give = λ bytes. tt;
    deliver = λ k bytes there to. tt;
  }

  no_host : EachOfHost (λ e asked. Unit {0})
  no_host = record {
    on = tt;
    off = tt;
    cut = λ calls keep byte. tt;
    order = λ d piece class grams zone. tt;
    send = λ j. tt;
    print = λ j. tt;
    close = λ j. tt;
    give = λ bytes. tt;
    deliver = λ k bytes there to. tt;
  }

  no_verifier : EachOfVerifier (λ e asked. Unit {0})
  no_verifier = record {
    on = tt;
    off = tt;
    cut = λ calls keep byte. tt;
    trust = λ d key. tt;
    scan = λ n bytes. tt;
    message = λ n k bytes is. tt;
  }

  pub each_asked : (P : Event → ℕ → Asked DeviceCall → Type 0) → EachAsked P → (e : Event) (d : ℕ) (asked : Asked DeviceCall) → routed pool quote e ≡ Some (route.OfDay (of_day.Device d asked)) → P e d asked
  each_asked P each e d asked h = each_taken (λ i x. Unit {0}) P (λ i a. Unit {0}) (λ i a. Unit {0}) (λ i a. Unit {0})
      (record { quiet = no_quiet; devices = each; centre = no_centre; host = no_host; verifier = no_verifier }) e (route.OfDay (of_day.Device d asked)) h

  pub each_of_centre : (P : Event → Asked CentreCall → Type 0) → EachOfCentre P → (e : Event) (asked : Asked CentreCall) → routed pool quote e ≡ Some (route.OfDay (of_day.Centre asked)) → P e asked
  each_of_centre P each e asked h = each_taken (λ i x. Unit {0}) (λ i d a. Unit {0}) P (λ i a. Unit {0}) (λ i a. Unit {0})
      (record { quiet = no_quiet; devices = no_device; centre = each; host = no_host; verifier = no_verifier }) e (route.OfDay (of_day.Centre asked)) h

  pub each_of_host : (P : Event → Asked HostCall → Type 0) → EachOfHost P → (e : Event) (asked : Asked HostCall) → routed pool quote e ≡ Some (route.OfDay (of_day.Host asked)) → P e asked
  each_of_host P each e asked h = each_taken (λ i x. Unit {0}) (λ i d a. Unit {0}) (λ i a. Unit {0}) P (λ i a. Unit {0})
      (record { quiet = no_quiet; devices = no_device; centre = no_centre; host = each; verifier = no_verifier }) e (route.OfDay (of_day.Host asked)) h

  pub each_of_verifier : (P : Event → Asked VerifierCall → Type 0) → EachOfVerifier P → (e : Event) (asked : Asked VerifierCall) → routed pool quote e ≡ Some (route.OfDay (of_day.Verifier asked)) → P e asked
  each_of_verifier P each e asked h = each_taken (λ i x. Unit {0}) (λ i d a. Unit {0}) (λ i a. Unit {0}) (λ i a. Unit {0}) P
      (record { quiet = no_quiet; devices = no_device; centre = no_centre; host = no_host; verifier = each }) e (route.OfDay (of_day.Verifier asked)) h

  -- it is for no node
  abbrev pub IsOfNone : Routed → Type 0
  IsOfNone (route.Day t) = Unit {0}
  IsOfNone route.End = Unit {0}
  IsOfNone (route.OfDay of_day.Rates) = Unit {0}
  IsOfNone (route.OfDay (of_day.NoMessage k)) = Unit {0}
  IsOfNone (route.OfDay (of_day.Reconcile d)) = Unit {0}
  IsOfNone (route.OfDay (of_day.Device d asked)) = ⊥
  IsOfNone (route.OfDay (of_day.Centre asked)) = ⊥
  IsOfNone (route.OfDay (of_day.Host asked)) = ⊥
  IsOfNone (route.OfDay (of_day.Verifier asked)) = ⊥

  pub each_quiet : (P : Event → Routed → Type 0) → EachQuiet P → (e : Event) (x : Routed) → routed pool quote e ≡ Some x → IsOfNone x → P e x
  each_quiet P each e x h = by x (each_taken P (λ i d a. Unit {0}) (λ i a. Unit {0}) (λ i a. Unit {0}) (λ i a. Unit {0})
      (record { quiet = each; devices = no_device; centre = no_centre; host = no_host; verifier = no_verifier }) e x h)
    where
      by : (y : Routed) → ByNode P (λ i d a. Unit {0}) (λ i a. Unit {0}) (λ i a. Unit {0}) (λ i a. Unit {0}) e y → IsOfNone y → P e y
      by (route.Day t) p of = p
      by route.End p of = p
      by (route.OfDay of_day.Rates) p of = p
      by (route.OfDay (of_day.NoMessage k)) p of = p
      by (route.OfDay (of_day.Reconcile d)) p of = p
      by (route.OfDay (of_day.Device d asked)) p of = absurd of
      by (route.OfDay (of_day.Centre asked)) p of = absurd of
      by (route.OfDay (of_day.Host asked)) p of = absurd of
      by (route.OfDay (of_day.Verifier asked)) p of = absurd of
