-- The begin of a run: one device after another is switched off.
use Rattle.std.proofs.Common.{◌≡◌, ◌≢◌, inl, inr, ℕ, suc, ◌+◌, ◌<◌, ◌≤◌, List, [], ◌∷◌, length, Some, None, refl, sym, ◌∙◌, ap, subst, arith}
use Rattle.std.specs.Prelude.{slice_get}
use Rattle.std.proofs.lemmas.Bool.{cases_eq}
use Rattle.std.proofs.lemmas.List.{length-set}
use Rattle.std.proofs.lemmas.Option.{slice_get_within}
use Rattle.bench_base.specs.Ledger.{Ledger}
use Rattle.bench_base.specs.declared.{ledger.Entry.TheVariants.Begin, words.Node.Node, words.Node.TheVariants.Device, words.Node.TheVariants.Centre, words.Node.TheVariants.Host, words.Node.TheVariants.Verifier}
use Rattle.nv_model.specs.declared.nv.Nv as nv
use Rattle.node_acts.specs.Kinds.{view_in}
use Rattle.node_storage.specs.declared.node.Node.{Ghosts}
use Rattle.node_storage.specs.Stands as node
use Rattle.bench.specs.Benches.{Nodes, Of, Stands, BenchOf}
use Rattle.bench.specs.Places.{Pairs, IsStopped, Begun, StopsAt}
use Rattle.bench.proofs.Making.{get_some, pairs_at, pairs_length}
use Rattle.bench.proofs.Sets.{get_set_same, get_set_other, same_some}
use Rattle.bench.proofs.Over.{none_day, no_day_is}

-- the first so many devices were switched off, and the others are as they were
pub record Stopping {K S N C R : Type 0} (n : Ghosts K S N C R) (g : nv.Ghosts S) (k : ℕ) (old new : List K) : Type 0 where
  pub size : length new ≡ length old
  pub stopped : (i : ℕ) (s t : K) → i < k → slice_get old i ≡ Some s → slice_get new i ≡ Some t → IsStopped n g s t
  pub others : (i : ℕ) → k ≤ i → slice_get new i ≡ slice_get old i

-- what holds of each two elements at one place
pairs_of : {X Y : Type 0} (P : X → Y → Type 0) (xs : List X) (ys : List Y) → length ys ≡ length xs
    → ((i : ℕ) (x : X) (y : Y) → i < length xs → slice_get xs i ≡ Some x → slice_get ys i ≡ Some y → P x y) → Pairs P xs ys
pairs_of P [] [] same each = tt
pairs_of P [] (y ∷ ys) same each = absurd (omega arith)
pairs_of P (x ∷ xs) [] same each = absurd (omega arith)
pairs_of P (x ∷ xs) (y ∷ ys) same each = (each 0 x y (omega arith) refl refl, pairs_of P xs ys (omega arith) (λ i a b lt here there. each (suc i) a b (omega arith) here there))

module _ {K S N C R : Type 0} (n : Ghosts K S N C R) (g : nv.Ghosts S) where
  pub stopping_none : (devices : List K) → Stopping n g 0 devices devices
  stopping_none devices = record { size = refl; stopped = λ i s t lt was is. absurd (omega arith); others = λ i le. refl }

  pub stopping_more : (k : ℕ) (old mid new : List K) → k < length old → Stopping n g k old mid → StopsAt n g k mid new → Stopping n g (k + 1) old new
  stopping_more k old mid new few stopping at = record {
    size = ap length at.set ∙ length-set mid k at.now ∙ stopping.size;
    stopped = λ i s t lt was is. elim (cases_eq i k) [
      | inl same ↦
          let before : at.before ≡ s = same_some s at.before (slice_get old i) (slice_get mid k) (ap (λ (j : ℕ). slice_get old j) same ∙ sym (stopping.others k (omega arith))) was at.was in
          subst (λ (u : K). IsStopped n g u t) before (subst (λ (u : K). IsStopped n g at.before u) (now_is i t same is) at.stops)
      | inr differs ↦ stopping.stopped i s t (omega (arith, differs)) was (sym (other i differs) ∙ is)
    ];
    others = λ i le. let differs : i ≢ k = λ same. omega arith in other i differs ∙ stopping.others i (omega arith);
  }
    where
      other : (i : ℕ) → i ≢ k → slice_get new i ≡ slice_get mid i
      other i differs = ap (λ (l : List K). slice_get l i) at.set ∙ get_set_other mid k at.now i differs

      here : slice_get new k ≡ Some at.now
      here = ap (λ (l : List K). slice_get l k) at.set ∙ get_set_same mid k at.now (omega (arith, stopping.size))

      now_is : (i : ℕ) (t : K) → i ≡ k → slice_get new i ≡ Some t → at.now ≡ t
      now_is i t same is = same_some t at.now (slice_get new i) (slice_get new k) (ap (λ (j : ℕ). slice_get new j) same) is here

  pub all_stopped : (k : ℕ) (old new : List K) → k ≡ length old → Stopping n g k old new → Pairs (IsStopped n g) old new
  all_stopped k old new all stopping = pairs_of (IsStopped n g) old new stopping.size (λ i s t lt was is. stopping.stopped i s t (omega arith) was is)

pub begun_stands : (n : Nodes) (old new : BenchOf n) (L : Ledger)
    → new.day ≡ None → new.messages ≡ [] → new.rates ≡ None → Begun n old new → Stands n old L → Stands n new (Begin ∷ L)
begun_stands n old new L no_day no_messages no_rates begun stands = record {
  day = no_day_is new.day new.messages new.rates (Begin ∷ L) no_day no_messages no_rates (none_day L);
  nodes = each;
}
  where
    each : (m : Node) → Of n (λ k i d s. node.Stands k.ghosts n.storage d (view_in i (k.kind.seen d) (Begin ∷ L)) s) new m
    each (Device d) = λ i t is at.
        let lt : i < length new.devices = slice_get_within new.devices i t at in
        let s = get_some old.devices i (omega (arith, pairs_length (IsStopped n.devices n.storage) old.devices new.devices begun.devices)) in
        (pairs_at (IsStopped n.devices n.storage) old.devices new.devices begun.devices i s.0 t s.1 at).stands d (view_in (Device d) (n.kinds.devices.seen d) L) (stands.nodes (Device d) i s.0 is s.1)
    each Centre = begun.centre.stands tt (view_in Centre (n.kinds.centre.seen tt) L) (stands.nodes Centre)
    each Host = begun.host.stands tt (view_in Host (n.kinds.host.seen tt) L) (stands.nodes Host)
    each Verifier = begun.verifier.stands tt (view_in Verifier (n.kinds.verifier.seen tt) L) (stands.nodes Verifier)
