-- A commit of another node leaves what is seen of a node as it is, also under an open commit of its own.
use Rattle.std.proofs.Common.{◌≡◌, arith, ℕ, true, false, List, ◌∷◌, refl}
use Rattle.std.specs.Prelude.{◌==◌}
use Rattle.std.proofs.lemmas.Bool.{eqb-true, false_from_ne_true}
use Rattle.bench_base.specs.declared.{words.Kind.TheVariants.Enrol, words.Node.TheVariants.Device, words.Node.TheVariants.Centre, words.Node.TheVariants.Host, words.Node.TheVariants.Verifier, sizes.TheConstants.CENTRE_CELLS, sizes.TheConstants.VERIFIER_CELLS, ledger.Commit.Commit, ledger.Commit.TheVariants.Applied, ledger.Commit.TheVariants.Registered, ledger.Commit.TheVariants.Settled, ledger.Commit.TheVariants.Closed, ledger.Commit.TheVariants.Trusted}
use Rattle.bench_base.specs.Nodes.{same_node, node_of}
use Rattle.bench_base.proofs.Facts.{either, not_none}
use Rattle.node_acts.specs.RowLaws.{listed_same}
use Rattle.ledger_terms.specs.Centres.{registered, customer_sum}
use Rattle.ledger_terms.specs.Devices.{applied_kind}
use Rattle.ledger_terms.specs.Franking.{mark_after}
use Rattle.ledger_terms.specs.Rulings.{verdict, reply_to}
use Rattle.psd_state.specs.Records.{InOrder}
use Rattle.psd_state.proofs.Ordered.{applied_registered, ruled_registered}
use Rattle.host_jobs.specs.declared.sizes.TheConstants.{HOST_CELLS}
use Rattle.host_jobs.specs.Records as host
use Rattle.host_jobs.proofs.Seeing.{seen_laws}
use Rattle.verifier.specs.Records as verifier
use Rattle.bench_abstraction.specs.Devices as device
use Rattle.bench_abstraction.specs.Centre as centre
use Rattle.bench_abstraction.proofs.Views.{Apart}

-- == a device ==

-- it is registered before it has applied anything
fresh : (i e o : ℕ) (k : List ℕ) (C : List Commit) → InOrder i (Registered e o k ∷ C) → (e == i) ≡ true → applied_kind Enrol i C ≡ false
fresh i e o k C order is = false_from_ne_true _ (λ yes. not_none (registered i C) (applied_registered i Enrol C order.1 yes) (order.0 (eqb-true e i is)))

device_frame : (i : ℕ) (c : Commit) (C : List Commit) → same_node (node_of c) (Device i) ≡ false → InOrder i (c ∷ C) → device.seen_in i (c ∷ C) ≡ device.seen_in i C
device_frame i (Registered e o k) C other order = let none = fresh i e o k C order in grind (arith, none)
device_frame i _ C other order = grind (arith, other)

device_under : (i : ℕ) (x c : Commit) (C : List Commit) → same_node (node_of x) (Device i) ≡ true → same_node (node_of c) (Device i) ≡ false → InOrder i (c ∷ C) → InOrder i (x ∷ C)
    → device.seen_in i (x ∷ c ∷ C) ≡ device.seen_in i (x ∷ C)
unfolding mark_after
device_under i (Applied d n v) (Registered e o k) C own other order later =
    let there = later.0 (eqb-true d i own) in
    either e i (λ same is. not_none (registered i C) (ruled_registered i n (v, there.3.note) C later.1 there.3.ruling) (order.0 is)) (λ no. rw no refl)
device_under i _ (Registered e o k) C own other order later = let none = fresh i e o k C order in grind (arith, own, none)
device_under i _ _ C own other order later = grind (arith, own, other)

pub device_apart : (i : ℕ) → Apart (Device i) (device.seen_in i)
device_apart i = record {
  frame = λ c C other next. device_frame i c C other (next.devices i);
  under = λ x c C own other next more. device_under i x c C own other (next.devices i) (more.devices i);
}

-- == the centre ==

centre_frame : (k : ℕ) (c : Commit) (C : List Commit) → same_node (node_of c) Centre ≡ false → centre.cell_after k (c ∷ C) ≡ centre.cell_after k C
centre_frame k (Settled d n) C other = cc
centre_frame k _ C other = grind (arith, other)

centre_under : (k : ℕ) (x c : Commit) (C : List Commit) → same_node (node_of x) Centre ≡ true → same_node (node_of c) Centre ≡ false → centre.cell_after k (x ∷ c ∷ C) ≡ centre.cell_after k (x ∷ C)
unfolding reply_to verdict customer_sum
centre_under k x (Settled d n) C own other = cc
centre_under k (Settled d n) _ C own other = grind (arith, other)
centre_under k _ _ C own other = grind (arith, own, other)

pub centre_apart : Apart Centre centre.seen_in
centre_apart = record {
  frame = λ c C other next. listed_same CENTRE_CELLS (λ k. centre.cell_after k (c ∷ C)) (λ k. centre.cell_after k C) (λ k lt. centre_frame k c C other);
  under = λ x c C own other next more. listed_same CENTRE_CELLS (λ k. centre.cell_after k (x ∷ c ∷ C)) (λ k. centre.cell_after k (x ∷ C)) (λ k lt. centre_under k x c C own other);
}

-- == the host ==

host_under : (k : ℕ) (x c : Commit) (C : List Commit) → same_node (node_of x) Host ≡ true → same_node (node_of c) Host ≡ false → host.cell_after k (x ∷ c ∷ C) ≡ host.cell_after k (x ∷ C)
host_under k _ (Closed j) C own other = cc
host_under k (Closed i) _ C own other = cc
host_under k _ _ C own other = cc

pub host_apart : Apart Host host.seen_after
host_apart = record {
  frame = λ c C other next. seen_laws.stays c C other;
  under = λ x c C own other next more. listed_same HOST_CELLS (λ k. host.cell_after k (x ∷ c ∷ C)) (λ k. host.cell_after k (x ∷ C)) (λ k lt. host_under k x c C own other);
}

-- == the verifier ==

verifier_frame : (k : ℕ) (c : Commit) (C : List Commit) → same_node (node_of c) Verifier ≡ false → verifier.cell_after k (c ∷ C) ≡ verifier.cell_after k C
verifier_frame k (Trusted d key) C other = cc
verifier_frame k _ C other = cc

verifier_under : (k : ℕ) (x c : Commit) (C : List Commit) → same_node (node_of x) Verifier ≡ true → same_node (node_of c) Verifier ≡ false → verifier.cell_after k (x ∷ c ∷ C) ≡ verifier.cell_after k (x ∷ C)
verifier_under k _ (Trusted d key) C own other = cc
verifier_under k (Trusted d key) _ C own other = cc
verifier_under k _ _ C own other = cc

pub verifier_apart : Apart Verifier verifier.seen_after
verifier_apart = record {
  frame = λ c C other next. listed_same VERIFIER_CELLS (λ k. verifier.cell_after k (c ∷ C)) (λ k. verifier.cell_after k C) (λ k lt. verifier_frame k c C other);
  under = λ x c C own other next more. listed_same VERIFIER_CELLS (λ k. verifier.cell_after k (x ∷ c ∷ C)) (λ k. verifier.cell_after k (x ∷ C)) (λ k lt. verifier_under k x c C own other);
}
