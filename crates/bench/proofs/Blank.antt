-- Blank storages, as the first run finds them: they represent the empty ledger.
use Rattle.std.proofs.Common.{◌≡◌, inl, ℕ, List, [], replicate, Some, false, refl, sym, ◌∙◌, subst}
use Rattle.bench_base.specs.declared.{words.Node.Node, words.Node.TheVariants.Device, words.Node.TheVariants.Centre, words.Node.TheVariants.Host, words.Node.TheVariants.Verifier}
use Rattle.bench_base.specs.Ledger.{is_on}
use Rattle.nv_model.specs.declared.nv.Nv as nv
use Rattle.node_acts.specs.Kinds.{view_in}
use Rattle.node_storage.specs.Stands.{StoreStands}
use Rattle.bench.specs.Benches.{Nodes, OneKind, IsBlank, AreBlank, StoreStandsOff, StoresStand, store_of, bytes_of}
use Rattle.bench.specs.Benches as benches

-- == the storages of nodes ==

-- node m before its first commit, which zeros show
pub record IsBlankNode {S : Type 0} (k : OneKind S) (m : Node) (d : k.Name) : Type 0 where
  pub size : k.ghosts.bytes ≡ bytes_of m
  pub sound : k.ghosts.IsSound d (k.kind.seen d [])
  pub shown : k.ghosts.IsShown (k.kind.seen d []) (replicate (bytes_of m) 0)

-- a blank storage represents a node without commits, which is off
blank_store : {S N : Type 0} (h : nv.Ghosts N) (k : OneKind S) (m : Node) (d : k.Name) (store : N) → IsBlankNode k m d → IsBlank h (bytes_of m) store
    → (is_on m [] ≡ false) × StoreStands k.ghosts h d (view_in m (k.kind.seen d) []) store
blank_store h k m d store node blank = (
  refl,
  record {
    size = blank.size ∙ sym node.size;
    sound = λ tells. record { state = node.sound; next = tt; more = tt };
    shows = λ tells image held. inl (subst (λ (b : List ℕ). k.ghosts.IsShown (k.kind.seen d []) b) (sym (blank.zeros tells image held)) node.shown);
  },
)

pub blank_stand : (n : Nodes) (stores : benches.Places n.Inner)
    → ((d : ℕ) → IsBlankNode (benches.devices n) (Device d) d) → IsBlankNode (benches.centre n) Centre tt → IsBlankNode (benches.host n) Host tt → IsBlankNode (benches.verifier n) Verifier tt
    → AreBlank n.inner stores → StoresStand n stores []
blank_stand n stores devices centre host verifier blank = record { day = record { day = refl; messages = refl; rates = tt }; nodes = each }
  where
    each : (m : Node) (store : n.Inner) → store_of stores m ≡ Some store → StoreStandsOff n [] store m
    each (Device d) store is = blank_store n.inner (benches.devices n) (Device d) d store (devices d) (blank (Device d) store is)
    each Centre store is = blank_store n.inner (benches.centre n) Centre tt store centre (blank Centre store is)
    each Host store is = blank_store n.inner (benches.host n) Host tt store host (blank Host store is)
    each Verifier store is = blank_store n.inner (benches.verifier n) Verifier tt store verifier (blank Verifier store is)
