-- What contracts see of a bench, and when it represents a ledger. A kind of nodes is a field of `Bench`, of `Stores` and of
-- `Nodes`, and a row of `At`, `Of`, `By` and `store_of`. Everything besides these refers to a node by its name.
use Rattle.std.specs.Prelude.{◌≡◌, ℕ, ℤ, ◌+◌, zero, suc, false, List, [], Option, Some, None, length, replicate, slice_get}
use Rattle.bench_base.specs.declared.{words.Node.Node, words.Node.TheVariants.Device, words.Node.TheVariants.Centre, words.Node.TheVariants.Host, words.Node.TheVariants.Verifier, sizes.TheConstants.DEVICE_BYTES, sizes.TheConstants.CENTRE_BYTES, sizes.TheConstants.VERIFIER_BYTES, events.Event.Event}
use Rattle.host_jobs.specs.declared.sizes.TheConstants.{HOST_BYTES}
use Rattle.bench_base.specs.Rules.{editions}
use Rattle.bench_base.specs.Ledger.{Ledger, day_in, rates_in, is_on}
use Rattle.nv_model.specs.declared.nv.Nv as nv
use Rattle.nv_model.specs.declared.fuse.Fuse as fuse
use Rattle.nv_model.specs.Moments.{Image}
use Rattle.node_acts.specs.Kinds.{Kind, view_in}
use Rattle.node_storage.specs.declared.node.Node.{Ghosts}
use Rattle.node_storage.specs.Stands as node
use Rattle.node_storage.specs.Stands.{StoreStands}
use Rattle.psd_device.specs.declared.node.DeviceNode.{DeviceNode}
use Rattle.centre_protocol.specs.NodeView.{CentreNode}
use Rattle.host_node.specs.NodeView.{HostNode}
use Rattle.verifier_node.specs.NodeView.{VerifierNode}
use Rattle.host_rates.specs.Tables.{RateTable}
use Rattle.host_rates.specs.Tariffs.{Keeps}
use Rattle.ledger_moves.specs.Tariffs.{Tariff}
use Rattle.ledger_moves.specs.Histories.{History, Unforged}
use Rattle.bench_abstraction.specs.declared.{calls.DeviceCall.DeviceCall, calls.CentreCall.CentreCall, calls.HostCall.HostCall, calls.VerifierCall.VerifierCall}
use Rattle.bench_abstraction.specs.Kinds.{Kinds}
use Rattle.bench_abstraction.specs.Messages.{sent_in}
use Rattle.bench_abstraction.specs.Tariff.{IsOfTexts}
use Rattle.bench.specs.declared.{stores.Stores.Stores, benches.BenchOver.BenchOver}

-- the day, the messages of the run in the order in which they were sent, the rates that were read last, the devices (number
-- i is device i + 1), and the nodes that occur once
pub record Bench (D C H V : Type 0) : Type 0 where
  pub day : Option ℤ
  pub messages : List (List ℕ)
  pub rates : Option RateTable
  pub devices : List D
  pub centre : C
  pub host : H
  pub verifier : V

abbrev pub bench_of : {M N : Type 0} {g : nv.Ghosts M} → BenchOver M N g → Bench (DeviceNode M g) (CentreNode M g) (HostNode M g) (VerifierNode M g)
bench_of bench = record {
  day = bench.day;
  messages = bench.messages.items;
  rates = bench.rates;
  devices = bench.devices.items;
  centre = bench.centre;
  host = bench.host;
  verifier = bench.verifier;
}

-- the storages in their places
pub record Places (N : Type 0) : Type 0 where
  pub devices : List N
  pub centre : N
  pub host : N
  pub verifier : N

abbrev pub places_of : {N : Type 0} → Stores N → Places N
places_of stores = record { devices = stores.devices.items; centre = stores.centre; host = stores.host; verifier = stores.verifier }

-- the storage of this node
abbrev pub store_of : {N : Type 0} → Places N → Node → Option N
store_of stores (Device zero) = None
store_of stores (Device (suc i)) = slice_get stores.devices i
store_of stores Centre = Some stores.centre
store_of stores Host = Some stores.host
store_of stores Verifier = Some stores.verifier

-- eight devices
pub record IsReady {D C H V : Type 0} (bench : Bench D C H V) : Type 0 where
  pub eight : length bench.devices ≡ 8

-- what the bench has beside its nodes: this day, these messages and these rates
pub record HasDay (today : Option ℤ) (sent : List (List ℕ)) (kept : Option RateTable) (H : Ledger) : Type 0 where
  pub day : today ≡ day_in H
  pub messages : sent ≡ sent_in H
  pub rates : Keeps (rates_in H) kept

-- a storage is blank: so many zero bytes, as it is made
pub record IsBlank {N : Type 0} (h : nv.Ghosts N) (bytes : ℕ) (store : N) : Type 0 where
  pub size : h.size store ≡ bytes
  pub zeros : h.tells → (image : List ℕ) → Image (h.times store) image → image ≡ replicate bytes 0

-- how many bytes the storage of a node has
abbrev pub bytes_of : Node → ℕ
bytes_of (Device d) = DEVICE_BYTES
bytes_of Centre = CENTRE_BYTES
bytes_of Host = HOST_BYTES
bytes_of Verifier = VERIFIER_BYTES

abbrev pub AreBlank : {N : Type 0} → nv.Ghosts N → Places N → Type 0
AreBlank {N} h stores = (m : Node) (store : N) → store_of stores m ≡ Some store → IsBlank h (bytes_of m) store

-- The nodes of a bench: the types of the nodes, of what a commit changes of each and of the memory that it runs in; what each kind keeps,
-- and what the ledger shows of it. The nodes are over storages that have fuses, and the bench is made of the storages inside.
pub record Nodes : Type 1 where
  pub Devices : Type 0
  pub Centres : Type 0
  pub Hosts : Type 0
  pub Verifiers : Type 0
  pub DeviceChange : Type 0
  pub CentreChange : Type 0
  pub HostChange : Type 0
  pub VerifierChange : Type 0
  pub DeviceSpare : Type 0
  pub CentreSpare : Type 0
  pub HostSpare : Type 0
  pub VerifierSpare : Type 0
  pub Storage : Type 0
  pub Inner : Type 0
  pub devices : Ghosts Devices Storage ℕ DeviceChange DeviceSpare
  pub centre : Ghosts Centres Storage (Unit {0}) CentreChange CentreSpare
  pub host : Ghosts Hosts Storage (Unit {0}) HostChange HostSpare
  pub verifier : Ghosts Verifiers Storage (Unit {0}) VerifierChange VerifierSpare
  pub kinds : Kinds devices.Seen centre.Seen host.Seen verifier.Seen
  pub storage : nv.Ghosts Storage
  pub fuse : fuse.Ghosts Storage
  pub inner : nv.Ghosts Inner

abbrev pub bench_nodes : {D C H V XD XC XH XV RD RC RH RV S N : Type 0} (d : Ghosts D S ℕ XD RD) (c : Ghosts C S (Unit {0}) XC RC)
    (h : Ghosts H S (Unit {0}) XH RH) (v : Ghosts V S (Unit {0}) XV RV)
    → Kinds d.Seen c.Seen h.Seen v.Seen → nv.Ghosts S → fuse.Ghosts S → nv.Ghosts N → Nodes
bench_nodes {D} {C} {H} {V} {XD} {XC} {XH} {XV} {RD} {RC} {RH} {RV} {S} {N} d c h v kinds storage armed inner = record {
  Devices = D;
  Centres = C;
  Hosts = H;
  Verifiers = V;
  DeviceChange = XD;
  CentreChange = XC;
  HostChange = XH;
  VerifierChange = XV;
  DeviceSpare = RD;
  CentreSpare = RC;
  HostSpare = RH;
  VerifierSpare = RV;
  Storage = S;
  Inner = N;
  devices = d;
  centre = c;
  host = h;
  verifier = v;
  kinds = kinds;
  storage = storage;
  fuse = armed;
  inner = inner;
}

-- a bench of such nodes
abbrev pub BenchOf : Nodes → Type 0
BenchOf n = Bench n.Devices n.Centres n.Hosts n.Verifiers

-- == what holds of a node, whatever its kind ==

-- One kind of nodes, over storages S: the types of its nodes, of their names, of what a commit changes, of the memory that
-- they run in and of their calls. It also has what they keep, and what the ledger shows of it.
pub record OneKind (S : Type 0) : Type 1 where
  pub Own : Type 0
  pub Name : Type 0
  pub Change : Type 0
  pub Spare : Type 0
  pub Call : Type 0
  pub ghosts : Ghosts Own S Name Change Spare
  pub kind : Kind Name ghosts.Seen Call

-- of node m, which is d of its kind; of one as it is; of one as it was and as it is
abbrev pub OfName : Type 0 → Type 1
OfName S = (k : OneKind S) (m : Node) (d : k.Name) → Type 0

abbrev pub OfState : Type 0 → Type 1
OfState S = (k : OneKind S) (m : Node) (d : k.Name) (s : k.Own) → Type 0

abbrev pub OfChange : Type 0 → Type 1
OfChange S = (k : OneKind S) (m : Node) (d : k.Name) (s t : k.Own) → Type 0

module _ (n : Nodes) where
  abbrev pub devices : OneKind n.Storage
  devices = record { Own = n.Devices; Name = ℕ; Change = n.DeviceChange; Spare = n.DeviceSpare; Call = DeviceCall; ghosts = n.devices; kind = n.kinds.devices }

  abbrev pub centre : OneKind n.Storage
  centre = record {
    Own = n.Centres;
    Name = Unit {0};
    Change = n.CentreChange;
    Spare = n.CentreSpare;
    Call = CentreCall;
    ghosts = n.centre;
    kind = n.kinds.centre;
  }

  abbrev pub host : OneKind n.Storage
  host = record { Own = n.Hosts; Name = Unit {0}; Change = n.HostChange; Spare = n.HostSpare; Call = HostCall; ghosts = n.host; kind = n.kinds.host }

  abbrev pub verifier : OneKind n.Storage
  verifier = record {
    Own = n.Verifiers;
    Name = Unit {0};
    Change = n.VerifierChange;
    Spare = n.VerifierSpare;
    Call = VerifierCall;
    ghosts = n.verifier;
    kind = n.kinds.verifier;
  }

  -- P holds of this node
  abbrev pub By : OfName n.Storage → Node → Type 0
  By P (Device d) = P devices (Device d) d
  By P Centre = P centre Centre tt
  By P Host = P host Host tt
  By P Verifier = P verifier Verifier tt

  -- P holds of this node as it is on the bench
  abbrev pub Of : OfState n.Storage → BenchOf n → Node → Type 0
  Of P bench (Device d) = (i : ℕ) (s : n.Devices) → d ≡ i + 1 → slice_get bench.devices i ≡ Some s → P devices (Device d) d s
  Of P bench Centre = P centre Centre tt bench.centre
  Of P bench Host = P host Host tt bench.host
  Of P bench Verifier = P verifier Verifier tt bench.verifier

  -- P holds of this node as it was on the old bench and as it is on the new one
  abbrev pub At : OfChange n.Storage → BenchOf n → BenchOf n → Node → Type 0
  At P old new (Device d) =
      (i : ℕ) (s t : n.Devices) → d ≡ i + 1 → slice_get old.devices i ≡ Some s → slice_get new.devices i ≡ Some t → P devices (Device d) d s t
  At P old new Centre = P centre Centre tt old.centre new.centre
  At P old new Host = P host Host tt old.host new.host
  At P old new Verifier = P verifier Verifier tt old.verifier new.verifier

  -- the bench represents the ledger: each of its nodes represents it
  pub record Stands (bench : BenchOf n) (L : Ledger) : Type 0 where
    pub day : HasDay bench.day bench.messages bench.rates L
    pub nodes : (m : Node) → Of (λ k i d s. node.Stands k.ghosts n.storage d (view_in i (k.kind.seen d) L) s) bench m

  -- a storage represents the ledger, and its node is off
  abbrev pub StoreStandsOff : Ledger → n.Inner → Node → Type 0
  StoreStandsOff L store m = (is_on m L ≡ false) × By (λ k i d. StoreStands k.ghosts n.inner d (view_in i (k.kind.seen d) L) store) m

  -- the storages represent the ledger: no node is on, and there is no day
  pub record StoresStand (stores : Places n.Inner) (L : Ledger) : Type 0 where
    pub day : HasDay None [] None L
    pub nodes : (m : Node) (store : n.Inner) → store_of stores m ≡ Some store → StoreStandsOff L store m

  -- P holds of each history that the bench represents and in which the event is unforged, by a tariff of texts, if the
  -- storages expose their contents
  abbrev pub ForEach : BenchOf n → Event → (Tariff → Ledger → Type 0) → Type 0
  ForEach bench e P = (τ : Tariff) (L : Ledger) → IsOfTexts τ → History τ editions L → Unforged e L → Stands bench L → n.storage.tells → P τ L
