-- What holds of each node of a bench, whatever its kind.
use Rattle.std.proofs.Common.{◌≡◌, ◌≢◌, ℕ, ◌+◌, Some, refl, sym, ◌∙◌, ap, subst, ⊎_elim, length}
use Rattle.std.specs.Prelude.{slice_get}
use Rattle.bench_base.specs.declared.{words.Node.Node, words.Node.TheVariants.Device, words.Node.TheVariants.Centre, words.Node.TheVariants.Host, words.Node.TheVariants.Verifier}
use Rattle.bench.specs.Benches.{Bench, Nodes, OneKind, OfName, OfState, OfChange, By, Of, At, devices, centre, host, verifier, BenchOf}
use Rattle.bench.proofs.Events.{same_or_not}
use Rattle.bench.proofs.Sets.{same_some}

module _ (n : Nodes) where
  pub of_all : (P : OfState n.Storage) (bench : BenchOf n) → ((k : OneKind n.Storage) (i : Node) (d : k.Name) (s : k.Own) → P k i d s) → (m : Node) → Of n P bench m
  of_all P bench each (Device d) = λ i s next was. each (devices n) (Device d) d s
  of_all P bench each Centre = each (centre n) Centre tt bench.centre
  of_all P bench each Host = each (host n) Host tt bench.host
  of_all P bench each Verifier = each (verifier n) Verifier tt bench.verifier

  pub of_with : (P Q : OfState n.Storage) (bench : BenchOf n) → ((k : OneKind n.Storage) (i : Node) (d : k.Name) (s : k.Own) → P k i d s → Q k i d s) → (m : Node) → Of n P bench m → Of n Q bench m
  of_with P Q bench each (Device d) p = λ i s next was. each (devices n) (Device d) d s (p i s next was)
  of_with P Q bench each Centre p = each (centre n) Centre tt bench.centre p
  of_with P Q bench each Host p = each (host n) Host tt bench.host p
  of_with P Q bench each Verifier p = each (verifier n) Verifier tt bench.verifier p

  -- with what is known of it by its name
  pub of_by : (P : OfName n.Storage) (Q R : OfState n.Storage) (bench : BenchOf n) → ((k : OneKind n.Storage) (i : Node) (d : k.Name) (s : k.Own) → P k i d → Q k i d s → R k i d s) → (m : Node) → By n P m → Of n Q bench m → Of n R bench m
  of_by P Q R bench each (Device d) p q = λ i s next was. each (devices n) (Device d) d s p (q i s next was)
  of_by P Q R bench each Centre p q = each (centre n) Centre tt bench.centre p q
  of_by P Q R bench each Host p q = each (host n) Host tt bench.host p q
  of_by P Q R bench each Verifier p q = each (verifier n) Verifier tt bench.verifier p q

  pub at_both : (P Q R : OfChange n.Storage) (old new : BenchOf n) → ((k : OneKind n.Storage) (i : Node) (d : k.Name) (s t : k.Own) → P k i d s t → Q k i d s t → R k i d s t) → (m : Node) → At n P old new m → At n Q old new m
      → At n R old new m
  at_both P Q R old new each (Device d) p q = λ i s t next was is. each (devices n) (Device d) d s t (p i s t next was is) (q i s t next was is)
  at_both P Q R old new each Centre p q = each (centre n) Centre tt old.centre new.centre p q
  at_both P Q R old new each Host p q = each (host n) Host tt old.host new.host p q
  at_both P Q R old new each Verifier p q = each (verifier n) Verifier tt old.verifier new.verifier p q

-- == nodes that are as they were ==

-- node m was asked, and every other is as it was
pub record OthersRest {D C H V : Type 0} (m : Node) (old new : Bench D C H V) : Type 0 where
  pub day : new.day ≡ old.day
  pub rates : new.rates ≡ old.rates
  pub size : length new.devices ≡ length old.devices
  pub devices : (i : ℕ) (s t : D) → Device (i + 1) ≢ m → slice_get old.devices i ≡ Some s → slice_get new.devices i ≡ Some t → t ≡ s
  pub centre : Centre ≢ m → new.centre ≡ old.centre
  pub host : Host ≢ m → new.host ≡ old.host
  pub verifier : Verifier ≢ m → new.verifier ≡ old.verifier

module _ (n : Nodes) (m : Node) (old new : BenchOf n) (rest : OthersRest m old new) where
  -- what holds of a node that is as it was
  pub stays : (P : OfChange n.Storage) (j : Node) → j ≢ m → Of n (λ k i d s. P k i d s s) old j → At n P old new j
  stays P (Device d) differs each = λ i s t next was is.
      subst (λ (u : n.Devices). P (devices n) (Device d) d s u) (sym (rest.devices i s t (λ same. differs (ap Device next ∙ same)) was is)) (each i s next was)
  stays P Centre differs each = subst (λ (u : n.Centres). P (centre n) Centre tt old.centre u) (sym (rest.centre differs)) each
  stays P Host differs each = subst (λ (u : n.Hosts). P (host n) Host tt old.host u) (sym (rest.host differs)) each
  stays P Verifier differs each = subst (λ (u : n.Verifiers). P (verifier n) Verifier tt old.verifier u) (sym (rest.verifier differs)) each

  -- and what holds at m too holds of each node
  pub walk : (P : OfChange n.Storage) → At n P old new m → ((j : Node) → j ≢ m → Of n (λ k i d s. P k i d s s) old j) → (j : Node) → At n P old new j
  walk P here each j = ⊎_elim
      (λ (same : j ≡ m). subst (λ (i : Node). At n P old new i) (sym same) here)
      (λ (differs : j ≢ m). stays P j differs (each j differs))
      (same_or_not j m)

-- a bench in which every node is as it was
pub record AllRest {D C H V : Type 0} (old new : Bench D C H V) : Type 0 where
  pub devices : new.devices ≡ old.devices
  pub centre : new.centre ≡ old.centre
  pub host : new.host ≡ old.host
  pub verifier : new.verifier ≡ old.verifier

pub all_rest : {D C H V : Type 0} (old : Bench D C H V) → AllRest old old
all_rest old = record { devices = refl; centre = refl; host = refl; verifier = refl }

module _ (n : Nodes) (old new : BenchOf n) (rest : AllRest old new) where
  pub still : (P : OfChange n.Storage) (j : Node) → Of n (λ k i d s. P k i d s s) old j → At n P old new j
  still P (Device d) each = λ i s t next was is.
      subst (λ (u : n.Devices). P (devices n) (Device d) d s u) (sym (same_some s t (slice_get old.devices i) (slice_get new.devices i) (ap (λ l. slice_get l i) (sym rest.devices)) was is)) (each i s next was)
  still P Centre each = subst (λ (u : n.Centres). P (centre n) Centre tt old.centre u) (sym rest.centre) each
  still P Host each = subst (λ (u : n.Hosts). P (host n) Host tt old.host u) (sym rest.host) each
  still P Verifier each = subst (λ (u : n.Verifiers). P (verifier n) Verifier tt old.verifier u) (sym rest.verifier) each

  -- what holds of each node of the one bench holds of each of the other
  pub moved : (P : OfState n.Storage) (j : Node) → Of n P old j → Of n P new j
  moved P (Device d) each = λ i s next is. each i s next (ap (λ l. slice_get l i) (sym rest.devices) ∙ is)
  moved P Centre each = subst (λ (u : n.Centres). P (centre n) Centre tt u) (sym rest.centre) each
  moved P Host each = subst (λ (u : n.Hosts). P (host n) Host tt u) (sym rest.host) each
  moved P Verifier each = subst (λ (u : n.Verifiers). P (verifier n) Verifier tt u) (sym rest.verifier) each
