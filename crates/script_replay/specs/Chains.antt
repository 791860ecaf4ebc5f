-- What a bench did for steps, one event after the other.
use Rattle.std.specs.Prelude.{◌≡◌, ℕ, List, [], ◌∷◌, Option}
use Rattle.std.specs.Io.KnownBytes.{Consumes, Appends}
use Rattle.nv_model.specs.declared.nv.Nv as nv
use Rattle.node_turns.specs.declared.turn.Turn.{Turn}
use Rattle.psd_device.specs.declared.node.DeviceNode.{DeviceNode}
use Rattle.centre_protocol.specs.NodeView.{CentreNode}
use Rattle.host_node.specs.NodeView.{HostNode}
use Rattle.verifier_node.specs.NodeView.{VerifierNode}
use Rattle.bench_base.specs.declared.stream.Source as source
use Rattle.bench_base.specs.declared.stream.Sink as sink
use Rattle.bench.specs.declared.benches.BenchOver.{BenchOver}
use Rattle.bench.specs.Benches.{Bench, Nodes, IsReady, bench_of}
use Rattle.bench.specs.Outside.{Outside, outside}
use Rattle.bench.specs.Steps.{Steps}
use Rattle.line_extensions.specs.Trace.{StepRecord, TraceStep, done_in}
use Rattle.script_replay.specs.Marks.{IsPrinted}

-- a bench and its two streams
pub record Scene (D C H V : Type 0) : Type 0 where
  pub bench : Bench D C H V
  pub outside : Outside

abbrev pub scene : {D C H V : Type 0} → Bench D C H V → Outside → Scene D C H V
scene bench outside = record { bench = bench; outside = outside }

-- one of a bench over storages
abbrev pub SceneOver : {M : Type 0} → nv.Ghosts M → Type 0
SceneOver {M} g = Scene (DeviceNode M g) (CentreNode M g) (HostNode M g) (VerifierNode M g)

-- and one of a bench with such nodes
abbrev pub SceneOf : Nodes → Type 0
SceneOf n = Scene n.Devices n.Centres n.Hosts n.Verifiers

-- what a run works on: a bench beside the rates that it reads and the printer
abbrev pub scene_of : {R P M N : Type 0} {g : nv.Ghosts M} → source.Ghosts R → sink.Ghosts P → BenchOver M N g → R → P → SceneOver g
scene_of r p bench rates printer = scene (bench_of bench) (outside r rates p printer)

module _ (n : Nodes) where
  -- the bench did one event by a step, gave its reply, took this text of the rates and printed this
  pub record DidEvent (old new : SceneOf n) (d : StepRecord) : Type 0 where
    pub ready : IsReady new.bench
    pub turn : Turn
    pub told : d.reply ≡ turn.reply
    pub steps : Steps n d.event d.text turn old.bench new.bench old.outside new.outside
    pub taken : Consumes old.outside.rates.left new.outside.rates.left d.text
    pub marked : (mark : Option (List ℕ)) × IsPrinted d.reply mark d.printed
    pub appended : Appends old.outside.printer.taken new.outside.printer.taken d.printed

  -- the bench did the events by steps, one after the other
  abbrev pub DidEvents : SceneOf n → SceneOf n → List StepRecord → Type 0
  DidEvents old new [] = new ≡ old
  DidEvents old new (d ∷ rest) = (mid : SceneOf n) × DidEvent old mid d × DidEvents mid new rest

  -- it did those of the lines
  abbrev pub DidTrace : SceneOf n → SceneOf n → List TraceStep → Type 0
  DidTrace old new trace = DidEvents old new (done_in trace)
