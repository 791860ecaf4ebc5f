-- What the bench reported of one event, and what that says of its streams.
use Rattle.std.proofs.Common.{◌≡◌, ℕ, List, Result, Ok, Err, refl, sym, subst}
use Rattle.std.specs.Prelude.{IfOk, OnErr}
use Rattle.bench_base.specs.declared.{events.Event.Event, events.Reply.Reply}
use Rattle.bench_base.specs.declared.events.Event.TheVariants as ev
use Rattle.node_turns.specs.declared.turn.Turn.{Turn}
use Rattle.node_turns.specs.Printing.{PrinterDid}
use Rattle.bench.specs.Benches.{Bench, Nodes, IsReady, BenchOf}
use Rattle.bench.specs.Outside.{Outside, WantsMemory}
use Rattle.bench.specs.Steps.{Steps}
use Rattle.script_replay.specs.Chains.{scene, DidEvent}
use Rattle.line_extensions.specs.Trace.{StepRecord, done}
use Rattle.script_replay.specs.Sides.{StepsBy}
use Rattle.script_replay.specs.Run.{Leaves}
use Rattle.line_runs.specs.declared.status.Status.TheVariants as status
use Rattle.line_runs.specs.declared.status.SideStatus.TheVariants.{Run}
use Rattle.script_replay.proofs.Faults.{taken_by, printed_by}

module _ (n : Nodes)
    (old new : BenchOf n) (before now : Outside) (e : Event) where
  did_by : (ready : IsReady new) (reply : Reply) (text : List ℕ) (turn : Turn) → reply ≡ turn.reply → Steps n e text turn old new before now
      → (printed : List ℕ) × DidEvent n (scene old before) (scene new now) (done e text reply printed)
  did_by ready reply text turn told steps =
      let did = subst (λ (x : Reply). PrinterDid x steps.always.printer.0 before.printer now.printer) (sym told) steps.always.printer.1 in
      let w = printed_by reply steps.always.printer.0 before.printer now.printer did in (
        w.printed,
        record {
          ready = ready;
          turn = turn;
          told = told;
          steps = steps;
          taken = taken_by e text turn old.day old.rates new.rates before.rates now.rates steps.always.rates;
          marked = (steps.always.printer.0, w.is);
          appended = w.appended;
        },
      )

  pub replied : {E : Type 0} (result : Result Reply E) → IsReady new → IfOk result (λ told. (text : List ℕ) × (turn : Turn) × (told ≡ turn.reply) × Steps n e text turn old new before now)
      → IfOk result (λ reply. (text printed : List ℕ) × DidEvent n (scene old before) (scene new now) (done e text reply printed))
  replied (Ok reply) ready did = let x = did_by ready reply did.0 did.1 did.2 did.3 in (did.0, x.0, x.1)
  replied (Err fail) ready did = did

  -- the same, reported to an extension
  pub stepped : {A E : Type 0} (IsOf : A → Turn → Type 0) (result : Result A E) → IsReady new → IfOk result (λ told. (text : List ℕ) × (turn : Turn) × IsOf told turn × Steps n e text turn old new before now)
      → IfOk result (λ told. (d : StepRecord) × (turn : Turn) × (d.event ≡ e) × StepsBy n (scene old before) (scene new now) d turn × IsOf told turn)
  stepped IsOf (Err fail) ready did = did
  stepped IsOf (Ok told) ready did =
      let steps = did.3 in
      let w = printed_by did.1.reply steps.always.printer.0 before.printer now.printer steps.always.printer.1 in (
        done e did.0 did.1.reply w.printed,
        did.1,
        refl,
        (
          record {
            ready = ready;
            turn = did.1;
            told = refl;
            steps = steps;
            taken = taken_by e did.0 did.1 old.day old.rates new.rates before.rates now.rates steps.always.rates;
            marked = (steps.always.printer.0, w.is);
            appended = w.appended;
          },
          refl,
        ),
        did.2,
      )

-- for lack of memory nothing was done but to read some of the rates
pub wanted : {D C H V E : Type 0} (old new : Bench D C H V) (before now : Outside) (e : Event) (result : Result Reply E) → OnErr result ((new ≡ old) × WantsMemory e old.day before now)
    → OnErr result ((e ≡ ev.Rates) × Leaves (Run status.Memory) (scene old before) (scene new now))
wanted old new before now e (Ok reply) want = want
wanted old new before now e (Err fail) want = (want.1.event, (want.0, subst (λ (x : Event). WantsMemory x old.day before now) want.1.event want.1))
