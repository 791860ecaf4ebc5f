-- A bench that is made over storages, and taken apart.
use Rattle.std.proofs.Common.{◌≡◌, ℕ, ℤ, zero, suc, [], ◌∷◌, List, Option, Some, None, Bool, false, refl, sym, ◌∙◌, subst, arith, true≢false}
use Rattle.std.specs.Prelude.{slice_get}
use Rattle.std.proofs.lemmas.Option.{slice_get_within, same_Some}
use Rattle.bench_base.specs.declared.{words.Node.Node, words.Node.TheVariants.Device, words.Node.TheVariants.Centre, words.Node.TheVariants.Host, words.Node.TheVariants.Verifier, ledger.Entry.TheVariants.Begin}
use Rattle.bench_base.specs.Ledger.{Ledger, is_on}
use Rattle.nv_model.specs.declared.nv.Nv as nv
use Rattle.nv_model.specs.Moments.{Times, Image}
use Rattle.node_acts.specs.Kinds.{view_in}
use Rattle.node_acts.specs.Views.{View, stopped}
use Rattle.node_storage.specs.declared.node.Node.{Ghosts}
use Rattle.node_storage.specs.Stands as node
use Rattle.node_storage.specs.Stands.{StoreStands}
use Rattle.host_rates.specs.Tables.{RateTable}
use Rattle.bench.specs.Benches.{Nodes, BenchOf, OneKind, Of, HasDay, Stands, StoreStandsOff, StoresStand, store_of}
use Rattle.bench.specs.Benches as benches
use Rattle.bench.specs.Places.{Pairs}
use Rattle.bench.proofs.Making.{get_some, pairs_at, pairs_length}

-- a run that begins has no day
pub none_day : (L : Ledger) → HasDay None [] None (Begin ∷ L)
none_day L = record { day = refl; messages = refl; rates = tt }

-- a bench without day, messages and rates has what such storages have
pub no_day_is : (today : Option ℤ) (sent : List (List ℕ)) (kept : Option RateTable) (L : Ledger) → today ≡ None → sent ≡ [] → kept ≡ None → HasDay None [] None L → HasDay today sent kept L
no_day_is today sent kept L no_day no_messages no_rates day =
    subst (λ o. HasDay o sent kept L) (sym no_day) (subst (λ l. HasDay None l kept L) (sym no_messages) (subst (λ r. HasDay None [] r L) (sym no_rates) day))

-- a node that is off or on, over this storage: it is off, and this is the one inside
pub record IsOff {S N : Type 0} (inside : S → N) (store : N) (is_on : Bool) (storage : S) : Type 0 where
  pub off : is_on ≡ false
  pub within : inside storage ≡ store

module _ {S N : Type 0} (g : nv.Ghosts S) (h : nv.Ghosts N) (inside : S → N) (sizes : (s : S) → g.size s ≡ h.size (inside s)) (times : (s : S) → g.times s ≡ h.times (inside s)) where
  -- == one storage, with its fuse and without ==

  module _ {K D X R : Type 0} (n : Ghosts K S D X R) (d : D) (v : View n.Seen) where
    fused_stands : (s : S) → (g.tells → h.tells) → StoreStands n h d v (inside s) → StoreStands n g d v s
    fused_stands s told st = record {
      size = sizes s ∙ st.size;
      sound = λ tells. let sound = st.sound (told tells) in record { state = sound.state; next = sound.next; more = sound.more };
      shows = λ tells image seen. st.shows (told tells) image (subst (λ (t : Times). Image t image) (times s) seen);
    }

    unfused_stands : (s : S) → (h.tells → g.tells) → StoreStands n g d v s → StoreStands n h d (stopped v) (inside s)
    unfused_stands s told st = record {
      size = sym (sizes s) ∙ st.size;
      sound = λ tells. let sound = st.sound (told tells) in record { state = sound.state; next = sound.next; more = sound.more };
      shows = λ tells image seen. st.shows (told tells) image (subst (λ (t : Times). Image t image) (sym (times s)) seen);
    }

    -- a node that is off, over the storage
    node_over : (s : K) (store : N) → (g.tells → h.tells) → IsOff inside store (n.is_on s) (n.storage s) → v.on ≡ false → StoreStands n h d v store → node.Stands n g d v s
    node_over s store told over off st = record {
      on = over.off ∙ sym off;
      store = fused_stands (n.storage s) told (subst (λ (t : N). StoreStands n h d v t) (sym over.within) st);
      runs = λ on. absurd (true≢false (sym on ∙ off));
    }

    -- what is left of a node without its fuse
    node_inside : (s : K) (store : N) → (h.tells → g.tells) → store ≡ inside (n.storage s) → node.Stands n g d v s → StoreStands n h d (stopped v) store
    node_inside s store told within st = subst (λ (t : N). StoreStands n h d (stopped v) t) (sym within) (unfused_stands (n.storage s) told st.store)

  -- == a node, whatever its kind ==

  module _ (k : OneKind S) (m : Node) (d : k.Name) (s : k.Own) (L : Ledger) where
    kind_over : (store : N) → (g.tells → h.tells) → IsOff inside store (k.ghosts.is_on s) (k.ghosts.storage s)
        → (is_on m L ≡ false) × StoreStands k.ghosts h d (view_in m (k.kind.seen d) L) store → node.Stands k.ghosts g d (view_in m (k.kind.seen d) L) s
    kind_over store told over st = node_over k.ghosts d (view_in m (k.kind.seen d) L) s store told over st.0 st.1

    kind_inside : (store : N) → (h.tells → g.tells) → store ≡ inside (k.ghosts.storage s) → node.Stands k.ghosts g d (view_in m (k.kind.seen d) L) s
        → (is_on m (Begin ∷ L) ≡ false) × StoreStands k.ghosts h d (view_in m (k.kind.seen d) (Begin ∷ L)) store
    kind_inside store told within st = (refl, node_inside k.ghosts d (view_in m (k.kind.seen d) L) s store told within st)

-- == the bench ==

module _ (n : Nodes) (inside : n.Storage → n.Inner) (sizes : (s : n.Storage) → n.storage.size s ≡ n.inner.size (inside s)) (times : (s : n.Storage) → n.storage.times s ≡ n.inner.times (inside s)) where
  -- each node is off over the storage in its place, and each storage the one inside the node in its place, as its kind sees it
  pub record NodesOver (stores : benches.Places n.Inner) (bench : BenchOf n) : Type 0 where
    pub devices : Pairs (λ store s. IsOff inside store (n.devices.is_on s) (n.devices.storage s)) stores.devices bench.devices
    pub centre : IsOff inside stores.centre (n.centre.is_on bench.centre) (n.centre.storage bench.centre)
    pub host : IsOff inside stores.host (n.host.is_on bench.host) (n.host.storage bench.host)
    pub verifier : IsOff inside stores.verifier (n.verifier.is_on bench.verifier) (n.verifier.storage bench.verifier)

  pub record NodesInside (bench : BenchOf n) (stores : benches.Places n.Inner) : Type 0 where
    pub devices : Pairs (λ s store. store ≡ inside (n.devices.storage s)) bench.devices stores.devices
    pub centre : stores.centre ≡ inside (n.centre.storage bench.centre)
    pub host : stores.host ≡ inside (n.host.storage bench.host)
    pub verifier : stores.verifier ≡ inside (n.verifier.storage bench.verifier)

  pub over_stands : (n.storage.tells → n.inner.tells) → (stores : benches.Places n.Inner) (bench : BenchOf n) (L : Ledger) → bench.day ≡ None → bench.messages ≡ [] → bench.rates ≡ None
      → NodesOver stores bench → StoresStand n stores L → Stands n bench L
  over_stands told stores bench L no_day no_messages no_rates over stands = record {
    day = no_day_is bench.day bench.messages bench.rates L no_day no_messages no_rates stands.day;
    nodes = each;
  }
    where
      device : (i : ℕ) (s : n.Devices) → slice_get bench.devices i ≡ Some s → node.Stands n.devices n.storage (suc i) (view_in (Device (suc i)) (n.kinds.devices.seen (suc i)) L) s
      device i s at =
          let lt = slice_get_within bench.devices i s at in
          let store = get_some stores.devices i (omega (arith, pairs_length (λ store s. IsOff inside store (n.devices.is_on s) (n.devices.storage s)) stores.devices bench.devices over.devices)) in
          kind_over n.storage n.inner inside sizes times (benches.devices n) (Device (suc i)) (suc i) s L store.0 told
          (pairs_at (λ store s. IsOff inside store (n.devices.is_on s) (n.devices.storage s)) stores.devices bench.devices over.devices i store.0 s store.1 at)
          (stands.nodes (Device (suc i)) store.0 store.1)

      each : (m : Node) → Of n (λ k i d s. node.Stands k.ghosts n.storage d (view_in i (k.kind.seen d) L) s) bench m
      each (Device d) = λ i s is at.
          let number : suc i ≡ d = omega (arith, is) in
          subst (λ (e : ℕ). node.Stands n.devices n.storage e (view_in (Device e) (n.kinds.devices.seen e) L) s) number (device i s at)
      each Centre = kind_over n.storage n.inner inside sizes times (benches.centre n) Centre tt bench.centre L stores.centre told over.centre (stands.nodes Centre stores.centre refl)
      each Host = kind_over n.storage n.inner inside sizes times (benches.host n) Host tt bench.host L stores.host told over.host (stands.nodes Host stores.host refl)
      each Verifier = kind_over n.storage n.inner inside sizes times (benches.verifier n) Verifier tt bench.verifier L stores.verifier told over.verifier (stands.nodes Verifier stores.verifier refl)

  pub inside_stands : (n.inner.tells → n.storage.tells) → (bench : BenchOf n) (stores : benches.Places n.Inner) (L : Ledger) → NodesInside bench stores → Stands n bench L → StoresStand n stores (Begin ∷ L)
  inside_stands told bench stores L within stands = record { day = none_day L; nodes = each }
    where
      each : (m : Node) (store : n.Inner) → store_of stores m ≡ Some store → StoreStandsOff n (Begin ∷ L) store m
      each (Device zero) store is = absurd (cc)
      each (Device (suc i)) store is =
          let lt = slice_get_within stores.devices i store is in
          let s = get_some bench.devices i (omega (arith, lt, pairs_length (λ s store. store ≡ inside (n.devices.storage s)) bench.devices stores.devices within.devices)) in
          kind_inside n.storage n.inner inside sizes times (benches.devices n) (Device (suc i)) (suc i) s.0 L store told
          (pairs_at (λ s store. store ≡ inside (n.devices.storage s)) bench.devices stores.devices within.devices i s.0 store s.1 is)
          (stands.nodes (Device (suc i)) i s.0 (omega arith) s.1)
      each Centre store is = kind_inside n.storage n.inner inside sizes times (benches.centre n) Centre tt bench.centre L store told (sym (same_Some stores.centre store is) ∙ within.centre) (stands.nodes Centre)
      each Host store is = kind_inside n.storage n.inner inside sizes times (benches.host n) Host tt bench.host L store told (sym (same_Some stores.host store is) ∙ within.host) (stands.nodes Host)
      each Verifier store is = kind_inside n.storage n.inner inside sizes times (benches.verifier n) Verifier tt bench.verifier L store told (sym (same_Some stores.verifier store is) ∙ within.verifier) (stands.nodes Verifier)
