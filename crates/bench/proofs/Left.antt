-- If nothing is committed, the storages that a stop leaves represent the ledger so far.
use Rattle.std.proofs.Common.{◌∷◌, refl, ap}
use Rattle.std.specs.Prelude.{length, ◌≡◌}
use Rattle.bench_base.specs.declared.words.Node.{Node}
use Rattle.bench_base.specs.declared.ledger.Entry.TheVariants as entry
use Rattle.bench_base.specs.Ledger.{Ledger}
use Rattle.node_acts.specs.Kinds.{view_in}
use Rattle.node_storage.specs.Stands as node
use Rattle.node_storage.specs.Stands.{StoreStands}
use Rattle.bench.specs.Benches.{Places, Nodes, OfState, OfChange, At, IsReady, Stands, StoresStand, BenchOf}
use Rattle.bench.specs.Steps.{AreLeft, HoldsImage}
use Rattle.bench.proofs.EachKind.{AllRest, of_with, at_both, still}
use Rattle.bench.proofs.OneNode.{rest_left}
use Rattle.bench.proofs.OneTurn.{left_in}
use Rattle.bench.proofs.Over.{none_day}

module _ (n : Nodes)
    (old new : BenchOf n) (rest : AllRest old new) (ready : IsReady old) (L : Ledger) (stands : Stands n old L) (tells : n.storage.tells) where
  abbrev StandsIs : OfState n.Storage
  StandsIs o i d s = node.Stands o.ghosts n.storage d (view_in i (o.kind.seen d) L) s

  abbrev LeftIs : OfChange n.Storage
  LeftIs o i d s t = (store : n.Inner) → n.inner.size store ≡ o.ghosts.bytes → HoldsImage o.ghosts n.storage n.inner s t store → StoreStands o.ghosts n.inner d (view_in i (o.kind.seen d) (entry.Begin ∷ L)) store

  left_at : (k : Node) → At n LeftIs old new k
  left_at k = still n old new rest LeftIs k (of_with n StandsIs (λ o i d s. LeftIs o i d s s) old
      (λ o i d s st store size images. rest_left o.ghosts n.storage n.inner i d (o.kind.seen d) L L s store tells st refl size images) k (stands.nodes k))

  pub rest_stopped : (stores : Places n.Inner) → AreLeft n old new stores → StoresStand n stores (entry.Begin ∷ L)
  rest_stopped stores are = record {
    day = none_day L;
    nodes = λ k store there. left_in n old new stores (entry.Begin ∷ L) ready (ap length rest.devices) are.eight k store there refl
        (at_both n LeftIs (λ o i d s t. (n.inner.size store ≡ o.ghosts.bytes) × HoldsImage o.ghosts n.storage n.inner s t store)
        (λ o i d s t. StoreStands o.ghosts n.inner d (view_in i (o.kind.seen d) (entry.Begin ∷ L)) store) old new (λ o i d s t left held. left store held.0 held.1) k (left_at k) (are.each k store there));
  }
