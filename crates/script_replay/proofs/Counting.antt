-- How often a storage's failures are reported: by one event, and by steps one after another.
use Rattle.std.proofs.Common.{◌≡◌, ◌⊎◌, inl, inr, ℕ, ◌+◌, ◌-◌, ◌<◌, ◌≤◌, ◌^◌, List, [], ◌∷◌, length, get_or, Bool, true, false, Option, Some, None, refl, sym, ap, subst, arith}
use Rattle.std.specs.Prelude.{IsSome, IsNone, slice_get}
use Rattle.std.proofs.lemmas.Option.{slice_get-get_or, slice_get_within}
use Rattle.bench_base.specs.Causes.{Rose}
use Rattle.bench_base.specs.declared.{events.Event.Event, events.Reply.Reply, words.Node.Node, words.Node.TheVariants.Device, words.Node.TheVariants.Centre, words.Node.TheVariants.Host, words.Node.TheVariants.Verifier}
use Rattle.bench_base.specs.declared.events.Reply.TheVariants as r
use Rattle.bench_base.specs.Events.{calls_of}
use Rattle.bench_base.specs.Replies.{tells_power, tells_fault, tells_cut, MayGet, tells_printer, tells_rates}
use Rattle.nv_model.specs.Meters.{Meters, Uses}
use Rattle.node_storage.specs.declared.node.Node.{Ghosts}
use Rattle.node_storage.specs.Stands.{meters_of}
use Rattle.node_turns.specs.Costs.{Charged}
use Rattle.node_turns.specs.Printing.{Printer}
use Rattle.bench_abstraction.specs.Routing.{as_given}
use Rattle.bench.specs.Benches.{Nodes, At, IsReady, BenchOf}
use Rattle.bench.specs.Outside.{Outside}
use Rattle.bench.specs.Costs.{Balanced, armed, one_if}
use Rattle.bench.specs.Places.{Begun, IsStopped}
use Rattle.bench.proofs.Making.{pairs_at}
use Rattle.script_replay.specs.Chains.{Scene, scene, DidEvent, DidEvents, SceneOf}
use Rattle.script_replay.specs.Counts.{BalancedAt, AreBalanced, FaultsTold}
use Rattle.line_extensions.specs.Trace.{StepRecord}
use Rattle.script_replay.specs.Run.{Leaves}
use Rattle.line_runs.specs.declared.status.Status.TheVariants as status
use Rattle.line_runs.specs.declared.{status.SideStatus.SideStatus, status.SideStatus.TheVariants.Run, status.SideStatus.TheVariants.Stopped}
use Rattle.script_replay.proofs.Faults.{none_told, more_told, told_still, printer_told, rates_told}

-- == one event ==

armed_most : (f : Option ℕ) → armed f ≤ 1
armed_most None = omega arith
armed_most (Some k) = omega arith

stays : (calls : ℕ) (f h : Option ℕ) → Uses calls f h → armed h ≤ armed f
stays calls None None uses = omega arith
stays calls None (Some k) uses = cc
stays calls (Some left) None uses = omega arith
stays calls (Some left) (Some k) uses = omega arith

-- a cut raised the count, or used up the fuse
one_cut : (calls before now : ℕ) (f h : Option ℕ) → before ≤ now → Uses calls f h → Rose before now ⊎ (IsSome f × IsNone h) → now < 2 ^ 64 - 1 → before + (1 + armed h) ≤ now + armed f
one_cut calls before now f h le uses (inl rose) few = let s = stays calls f h uses in omega (arith, rose, s, few)
one_cut calls before now None h le uses (inr cut) few = cc (cut.0)
one_cut calls before now (Some left) None le uses (inr cut) few = omega arith
one_cut calls before now (Some left) (Some k) le uses (inr cut) few = cc (cut.1)

none_cut : (calls before now : ℕ) (f h : Option ℕ) → before ≤ now → Uses calls f h → before + (0 + armed h) ≤ now + armed f
none_cut calls before now f h le uses = let s = stays calls f h uses in omega arith

module _ (d : Node) (e : Event) (reply : Reply) (was is : Meters) (c : Charged d e reply was is) where
  -- a reply reports no cut if it reports a power failure
  power_by : (p k : Bool) → tells_power d reply ≡ p → tells_cut d reply ≡ k → (p ≡ true → k ≡ false) → is.cuts < 2 ^ 64 - 1
      → was.cuts + (one_if p + armed is.fuse) ≤ is.cuts + (one_if k + armed was.fuse)
  power_by true true hp hk apart few = cc (apart refl)
  power_by true false hp hk apart few = let one = one_cut (calls_of e) was.cuts is.cuts was.fuse is.fuse c.cuts (c.fuse hk) (c.power hp) few in omega (arith, one)
  power_by false false hp hk apart few = let none = none_cut (calls_of e) was.cuts is.cuts was.fuse is.fuse c.cuts (c.fuse hk) in omega (arith, none)
  power_by false true hp hk apart few = let most = armed_most is.fuse in let rise = c.cuts in omega (arith, most, rise)

  fault_by : (f : Bool) → tells_fault d reply ≡ f → is.faults < 2 ^ 64 - 1 → was.faults + one_if f ≤ is.faults
  fault_by true h few = let rose = c.fault h in omega (arith, rose, few)
  fault_by false h few = let rise = c.faults in omega (arith, rise)

-- no reply reports both
apart : (d : Node) (reply : Reply) → tells_power d reply ≡ true → tells_cut d reply ≡ false
apart d (r.Power n) h = refl
apart d (r.CutSet n) h = cc
apart d _ h = refl

one_balanced : (d : Node) (e : Event) (reply : Reply) (was is : Meters) → Charged d e reply was is
    → Balanced (one_if (tells_power d reply)) (one_if (tells_fault d reply)) (one_if (tells_cut d reply)) was is
one_balanced d e reply was is c = record {
  cuts = c.cuts;
  faults = c.faults;
  power = power_by d e reply was is c (tells_power d reply) (tells_cut d reply) refl refl (apart d reply);
  fault = fault_by d e reply was is c (tells_fault d reply) refl;
}

-- == several ==

none_balanced : (m : Meters) → Balanced 0 0 0 m m
none_balanced m = record { cuts = omega arith; faults = omega arith; power = λ few. omega arith; fault = λ few. omega arith }

two_balanced : (p f k q g l : ℕ) (was mid is : Meters) → Balanced p f k was mid → Balanced q g l mid is → Balanced (p + q) (f + g) (k + l) was is
two_balanced p f k q g l was mid is first second =
    let cuts = first.cuts in
    let more_cuts = second.cuts in
    let faults = first.faults in
    let more_faults = second.faults in record {
      cuts = omega (arith, cuts, more_cuts);
      faults = omega (arith, faults, more_faults);
      power = λ few. let b = second.power few in let a = first.power (omega (arith, few, more_cuts)) in omega (arith, a, b);
      fault = λ few. let b = second.fault few in let a = first.fault (omega (arith, few, more_faults)) in omega (arith, a, b);
    }

-- where a storage stayed as it was, and then
after_still : (p f k : ℕ) (was mid is : Meters) → Balanced 0 0 0 was mid → Balanced p f k mid is → Balanced p f k was is
after_still p f k was mid is first second =
    let both = two_balanced 0 0 0 p f k was mid is first second in
    let power = both.power in
    let fault = both.fault in
    record {
      cuts = both.cuts;
      faults = both.faults;
      power = λ few. let a = power few in omega (arith, a);
      fault = λ few. let a = fault few in omega (arith, a);
    }

-- what an event costs a node, and what the others do
trace_step_balanced : (m : Node) (given : Event) (d : StepRecord) (reply : Reply) (rest : List StepRecord) (was mid is : Meters) → d.reply ≡ reply → Charged m given reply was mid
    → BalancedAt m rest mid is → BalancedAt m (d ∷ rest) was is
trace_step_balanced m given d reply rest was mid is told charged others =
    two_balanced _ _ _ _ _ _ was mid is (one_balanced m given d.reply was mid (subst (λ (x : Reply). Charged m given x was mid) (sym told) charged)) others

-- == a run's end ==

pub record LeftSo {D C H V : Type 0} (behind new : Scene D C H V) : Type 0 where
  pub bench : new.bench ≡ behind.bench
  pub printer : new.outside.printer ≡ behind.outside.printer
  pub later : behind.outside.rates.faults ≤ new.outside.rates.faults

left_same : {D C H V : Type 0} (behind new : Scene D C H V) → new ≡ behind → LeftSo behind new
left_same behind new same = record {
  bench = ap (λ (x : Scene _ _ _ _). x.bench) same;
  printer = ap (λ (x : Scene _ _ _ _). x.outside.printer) same;
  later = let is = ap (λ (x : Scene _ _ _ _). x.outside.rates.faults) same in omega (arith, is);
}

-- at the end of the run the bench and the printer are as the steps left them
pub left_so : {D C H V : Type 0} (outcome : SideStatus) (behind new : Scene D C H V) → Leaves outcome behind new → LeftSo behind new
left_so (Run status.Done) behind new is = left_same behind new is
left_so (Run status.Words) behind new is = left_same behind new is
left_so (Run (status.Script line)) behind new is = left_same behind new is
left_so (Run status.ReadFault) behind new is = left_same behind new is
left_so (Run status.WriteFault) behind new is = left_same behind new is
left_so (Run status.Memory) behind new is = record { bench = is.0; printer = is.1.printer; later = is.1.later }
left_so (Run status.TooLong) behind new is = left_same behind new is
left_so Stopped behind new is = left_same behind new is

module _ (n : Nodes) where
  same_node_at : (devices : List n.Devices) (i : ℕ) (s t : n.Devices) → slice_get devices i ≡ Some s → slice_get devices i ≡ Some t → s ≡ t
  same_node_at devices i s t a b = cc

  -- a storage that stays as it is
  still_at : {K X A R : Type 0} (k : Ghosts K n.Storage X A R) (s t : K) → k.storage t ≡ k.storage s → Balanced 0 0 0 (meters_of k n.storage s) (meters_of k n.storage t)
  still_at k s t same = subst (Balanced 0 0 0 (meters_of k n.storage s)) (ap n.storage.meters (sym same)) (none_balanced (meters_of k n.storage s))

  still_balanced : (old new : BenchOf n) → Begun n old new → (m : Node) → At n (λ k i d s t. BalancedAt i [] (meters_of k.ghosts n.storage s) (meters_of k.ghosts n.storage t)) old new m
  still_balanced old new begun (Device d) = λ i s t next hs ht. still_at n.devices s t (pairs_at (IsStopped n.devices n.storage) old.devices new.devices begun.devices i s t hs ht).storage
  still_balanced old new begun Centre = still_at n.centre old.centre new.centre begun.centre.storage
  still_balanced old new begun Host = still_at n.host old.host new.host begun.host.storage
  still_balanced old new begun Verifier = still_at n.verifier old.verifier new.verifier begun.verifier.storage

  same_balanced : (old : BenchOf n) (m : Node) → At n (λ k i d s t. BalancedAt i [] (meters_of k.ghosts n.storage s) (meters_of k.ghosts n.storage t)) old old m
  same_balanced old (Device d) = λ i s t next hs ht. still_at n.devices s t (ap n.devices.storage (same_node_at old.devices i t s ht hs))
  same_balanced old Centre = still_at n.centre old.centre old.centre refl
  same_balanced old Host = still_at n.host old.host old.host refl
  same_balanced old Verifier = still_at n.verifier old.verifier old.verifier refl

  none_done : (old : SceneOf n) → AreBalanced n old old []
  none_done old = record { nodes = same_balanced old.bench; printer = none_told old.outside.printer.faults; rates = none_told old.outside.rates.faults }

  -- one step, and the others
  first_nodes : (old mid new : SceneOf n) (d : StepRecord) (rest : List StepRecord) → IsReady old.bench → DidEvent n old mid d → AreBalanced n mid new rest
      → (m : Node) → At n (λ k i x s t. BalancedAt i (d ∷ rest) (meters_of k.ghosts n.storage s) (meters_of k.ghosts n.storage t)) old.bench new.bench m
  first_nodes old mid new d rest ready event others (Device x) = λ i s t next hs ht.
      let inside : i < length mid.bench.devices = omega (arith, slice_get_within old.bench.devices i s hs, ready.eight, event.ready.eight) in
      let u = get_or mid.bench.devices i s in
      let there = slice_get-get_or mid.bench.devices i s inside in
      trace_step_balanced (Device x) (as_given old.bench.messages d.event) d event.turn.reply rest (meters_of n.devices n.storage s) (meters_of n.devices n.storage u) (meters_of n.devices n.storage t) event.told
      (event.steps.always.nodes (Device x) i s u next hs there).charged (others.nodes (Device x) i u t next there ht)
  first_nodes old mid new d rest ready event others Centre =
      trace_step_balanced Centre (as_given old.bench.messages d.event) d event.turn.reply rest (meters_of n.centre n.storage old.bench.centre) (meters_of n.centre n.storage mid.bench.centre)
      (meters_of n.centre n.storage new.bench.centre) event.told (event.steps.always.nodes Centre).charged (others.nodes Centre)
  first_nodes old mid new d rest ready event others Host =
      trace_step_balanced Host (as_given old.bench.messages d.event) d event.turn.reply rest (meters_of n.host n.storage old.bench.host) (meters_of n.host n.storage mid.bench.host)
      (meters_of n.host n.storage new.bench.host) event.told (event.steps.always.nodes Host).charged (others.nodes Host)
  first_nodes old mid new d rest ready event others Verifier =
      trace_step_balanced Verifier (as_given old.bench.messages d.event) d event.turn.reply rest (meters_of n.verifier n.storage old.bench.verifier) (meters_of n.verifier n.storage mid.bench.verifier)
      (meters_of n.verifier n.storage new.bench.verifier) event.told (event.steps.always.nodes Verifier).charged (others.nodes Verifier)

  first_printer : (old mid : SceneOf n) (d : StepRecord) → DidEvent n old mid d → FaultsTold (one_if (tells_printer d.reply)) old.outside.printer.faults mid.outside.printer.faults
  first_printer old mid d event =
      subst (λ (x : Reply). FaultsTold (one_if (tells_printer x)) old.outside.printer.faults mid.outside.printer.faults) (sym event.told)
      (printer_told event.turn.reply event.steps.always.printer.0 old.outside.printer mid.outside.printer event.steps.always.printer.1)

  first_rates : (old mid : SceneOf n) (d : StepRecord) → DidEvent n old mid d → FaultsTold (one_if (tells_rates d.reply)) old.outside.rates.faults mid.outside.rates.faults
  first_rates old mid d event =
      rates_told old.bench.messages d.event d.reply d.text event.turn old.bench.day old.bench.rates mid.bench.rates old.outside.rates mid.outside.rates event.told
      event.steps.always.rates event.steps.always.day (subst (λ (x : Reply). MayGet (as_given old.bench.messages d.event) x) (sym event.told) event.steps.always.reply)

  first_done : (old mid new : SceneOf n) (d : StepRecord) (rest : List StepRecord) → IsReady old.bench → DidEvent n old mid d → AreBalanced n mid new rest
      → AreBalanced n old new (d ∷ rest)
  first_done old mid new d rest ready event others = record {
    nodes = first_nodes old mid new d rest ready event others;
    printer = more_told _ _ old.outside.printer.faults mid.outside.printer.faults new.outside.printer.faults (first_printer old mid d event) others.printer;
    rates = more_told _ _ old.outside.rates.faults mid.outside.rates.faults new.outside.rates.faults (first_rates old mid d event) others.rates;
  }

  steps_balanced : (old new : SceneOf n) (trace : List StepRecord) → IsReady old.bench → DidEvents n old new trace → AreBalanced n old new trace
  steps_balanced old new [] ready did = subst (λ (x : SceneOf n). AreBalanced n old x []) (sym did) (none_done old)
  steps_balanced old new (d ∷ rest) ready did = first_done old did.0 new d rest ready did.1 (steps_balanced did.0 new rest did.1.ready did.2)

  -- the run begins before
  begun_nodes : (old begun : BenchOf n) (new : SceneOf n) (was : Outside) (trace : List StepRecord) → IsReady old → IsReady begun → Begun n old begun → AreBalanced n (scene begun was) new trace
      → (m : Node) → At n (λ k i d s t. BalancedAt i trace (meters_of k.ghosts n.storage s) (meters_of k.ghosts n.storage t)) old new.bench m
  begun_nodes old begun new was trace ready ready' begins others (Device d) = λ i s t next hs ht.
      let inside : i < length begun.devices = omega (arith, slice_get_within old.devices i s hs, ready.eight, ready'.eight) in
      let u = get_or begun.devices i s in
      let there = slice_get-get_or begun.devices i s inside in
      after_still _ _ _ (meters_of n.devices n.storage s) (meters_of n.devices n.storage u) (meters_of n.devices n.storage t) (still_balanced old begun begins (Device d) i s u next hs there)
      (others.nodes (Device d) i u t next there ht)
  begun_nodes old begun new was trace ready ready' begins others Centre =
      after_still _ _ _ (meters_of n.centre n.storage old.centre) (meters_of n.centre n.storage begun.centre) (meters_of n.centre n.storage new.bench.centre) (still_balanced old begun begins Centre) (others.nodes Centre)
  begun_nodes old begun new was trace ready ready' begins others Host =
      after_still _ _ _ (meters_of n.host n.storage old.host) (meters_of n.host n.storage begun.host) (meters_of n.host n.storage new.bench.host) (still_balanced old begun begins Host) (others.nodes Host)
  begun_nodes old begun new was trace ready ready' begins others Verifier =
      after_still _ _ _ (meters_of n.verifier n.storage old.verifier) (meters_of n.verifier n.storage begun.verifier) (meters_of n.verifier n.storage new.bench.verifier)
      (still_balanced old begun begins Verifier) (others.nodes Verifier)

  pub run_balanced : (old : SceneOf n) (begun : BenchOf n) (behind new : SceneOf n) (trace : List StepRecord) → IsReady old.bench → IsReady begun → Begun n old.bench begun
      → DidEvents n (scene begun old.outside) behind trace → LeftSo behind new → AreBalanced n old new trace
  run_balanced old begun behind new trace ready ready' begins did left =
      let all = steps_balanced (scene begun old.outside) behind trace ready' did in
      let still : behind.outside.printer.faults ≤ new.outside.printer.faults = let same = ap (λ (p : Printer). p.faults) left.printer in omega (arith, same) in
      record {
        nodes = λ m. subst (λ (b : BenchOf n). At n (λ k i d s t. BalancedAt i trace (meters_of k.ghosts n.storage s) (meters_of k.ghosts n.storage t)) old.bench b m) (sym left.bench)
            (begun_nodes old.bench begun behind old.outside trace ready ready' begins all m);
        printer = told_still _ old.outside.printer.faults behind.outside.printer.faults new.outside.printer.faults all.printer still;
        rates = told_still _ old.outside.rates.faults behind.outside.rates.faults new.outside.rates.faults all.rates left.later;
      }
