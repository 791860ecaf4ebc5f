-- What the auditor has of a node is what the ledger shows of it.
use Rattle.std.proofs.Common.{◌≡◌, ℕ, Option, Some, None, refl, sym, ◌∙◌, ap}
use Rattle.std.specs.Prelude.{is_some, option_map}
use Rattle.bench_base.specs.declared.words.Node.TheVariants.{Device}
use Rattle.bench_base.specs.Ledger.{Ledger}
use Rattle.node_acts.specs.Kinds.{view_in}
use Rattle.node_acts.specs.Views.{View}
use Rattle.psd_state.specs.Seen as device
use Rattle.bench_abstraction.specs.Kinds.{bench_kinds}
use Rattle.trace_device.specs.Records.{view_of}
use Rattle.trace_bench.specs.Seeing.{Audit, Sees}
use Rattle.trace_bench.specs.Telling.{OfDevice}

pub is_some_map : {X Y : Type 0} (f : X → Y) (o : Option X) → is_some (option_map f o) ≡ is_some o
is_some_map f None = refl
is_some_map f (Some x) = refl

-- what is said of the device in its place holds of the device as the ledger shows it
pub device_shown : {B : Type 0} (a : Audit) (H : Ledger) → Sees a H → (d : ℕ) (f : View device.Seen → B) (b : B) → OfDevice d a (λ s. b ≡ f (view_of s))
    → b ≡ f (view_in (Device d) (bench_kinds.devices.seen d) H)
device_shown a H sees d f b of = of.holds ∙ ap f (sees.run.devices of.place of.traced of.at) ∙ ap (λ (k : ℕ). f (view_in (Device k) (bench_kinds.devices.seen k) H)) (sym of.is_device)
