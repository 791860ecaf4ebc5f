use Rattle.std.proofs.Common.{ℤ, refl}
use Rattle.bench_base.specs.declared.words.Node.TheVariants.{Verifier}
use Rattle.bench_abstraction.specs.declared.calls.VerifierCall.TheVariants.{Trust, Scan}
use Rattle.bench_abstraction.specs.Verifier.{verifier_kind, verifier_act, IsBytesCall}
use Rattle.bench.specs.Calls.{verifier_call_event, IsRangedScan}
use Rattle.bench.specs.Benches.{Nodes}
use Rattle.bench.specs.contracts.benches.BenchOverHasNodes.TheImpl.{ghosts}
use Rattle.bench.proofs.Called.{AreActs, told_call}
use Rattle.bench.proofs.VerifierActs as acts
use Rattle.bench.proofs.verifier_turns.VerifierNodeTurnsVerifierCall.called.Given.{Over}
use Rattle.bench.proofs.verifier_turns.VerifierNodeTurnsVerifierCall.called.Goals as goal

abbrev nodes_in : Over → Nodes
nodes_in g = (ghosts g.row.M g.row.M g.M.Fuse g.M.Fuse-dict g.M.Nv g.M.Nv-dict g.M.Nv g.M.Nv-dict g.M.Destruct-dict).nodes

acts_of : (g : Over) (today : ℤ) → AreActs (nodes_in g).verifier g.M.Nv g.M.Fuse verifier_kind Verifier tt today verifier_call_event (λ c. IsRangedScan c × IsBytesCall c) (λ c k. verifier_act today c k)
acts_of g today = record {
  of = acts.call_of;
  told = λ c k. acts.call_told today c k;
  plan = λ c v. refl;
  commit = λ c v. refl;
  fits = λ c asked k sound. acts.call_fits (nodes_in g).verifier k sound.sound k (λ y is. is) today c asked.0 asked.1;
}

pub returns-in-Trust : goal.returns-in-Trust
returns-in-Trust g c =
    let b = c.in-Trust in
    let came = c.call_node in
    record {
      bytes = c.scans_bytes.ensures;
      did = told_call (acts_of g c.args.day) (λ turn. g.T.Tell.IsOf came.result turn) b.is (c.requires.ranged, c.scans_bytes.ensures) (λ same. cc) _ (came.ensures.did (λ k. verifier_act c.args.day (Trust b.call) k) refl);
    }

pub returns-in-Scan : goal.returns-in-Scan
returns-in-Scan g c =
    let b = c.in-Scan in
    let came = c.call_node-in-Scan in
    record {
      bytes = c.scans_bytes.ensures;
      did = told_call (acts_of g c.args.day) (λ turn. g.T.Tell.IsOf came.result turn) b.is (c.requires.ranged, c.scans_bytes.ensures) (λ same. cc) _ (came.ensures.did (λ k. verifier_act c.args.day (Scan b.call) k) refl);
    }
