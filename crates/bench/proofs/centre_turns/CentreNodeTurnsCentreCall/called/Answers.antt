use Rattle.std.proofs.Common.{ℤ, refl}
use Rattle.bench_base.specs.declared.words.Node.TheVariants.{Centre}
use Rattle.centre_ledger.specs.Seen.{books_in}
use Rattle.bench_abstraction.specs.declared.calls.CentreCall.TheVariants.{Register, Open, Deposit, Flag, Balance, Take}
use Rattle.bench_abstraction.specs.Centre.{centre_kind, centre_act, IsBytesCall}
use Rattle.bench.specs.Calls.{centre_call_event, IsRangedCall}
use Rattle.bench.specs.Benches.{Nodes}
use Rattle.bench.specs.contracts.benches.BenchOverHasNodes.TheImpl.{ghosts}
use Rattle.bench.proofs.Called.{AreActs, told_call}
use Rattle.bench.proofs.CentreActs as acts
use Rattle.bench.proofs.centre_turns.CentreNodeTurnsCentreCall.called.Given.{Over}
use Rattle.bench.proofs.centre_turns.CentreNodeTurnsCentreCall.called.Goals as goal

abbrev nodes_in : Over → Nodes
nodes_in g = (ghosts g.row.M g.row.M g.M.Fuse g.M.Fuse-dict g.M.Nv g.M.Nv-dict g.M.Nv g.M.Nv-dict g.M.Destruct-dict).nodes

acts_of : (g : Over) (today : ℤ) → AreActs (nodes_in g).centre g.M.Nv g.M.Fuse centre_kind Centre tt today centre_call_event (λ c. IsRangedCall c × IsBytesCall c) (λ c k. centre_act c (books_in k))
acts_of g today = record {
  of = acts.call_of;
  told = λ c k. acts.call_told c (books_in k);
  plan = λ c v. refl;
  commit = λ c v. refl;
  fits = λ c asked k sound. acts.call_fits (nodes_in g).centre (books_in k) sound.known.sound k (λ y is. is) c asked.0 asked.1;
}

pub returns-in-Register : goal.returns-in-Register
returns-in-Register g c =
    let b = c.in-Register in
    let came = c.call_node in
    record {
      bytes = c.hands_bytes.ensures;
      did = told_call (acts_of g _) (λ turn. g.T.Tell.IsOf came.result turn) b.is (c.requires.ranged, c.hands_bytes.ensures) (λ same. cc) _ (came.ensures.did (λ k. centre_act (Register b.call) (books_in k)) refl);
    }

pub returns-in-Open : goal.returns-in-Open
returns-in-Open g c =
    let b = c.in-Open in
    let came = c.call_node-in-Open in
    record {
      bytes = c.hands_bytes.ensures;
      did = told_call (acts_of g _) (λ turn. g.T.Tell.IsOf came.result turn) b.is (c.requires.ranged, c.hands_bytes.ensures) (λ same. cc) _ (came.ensures.did (λ k. centre_act (Open b.call) (books_in k)) refl);
    }

pub returns-in-Deposit : goal.returns-in-Deposit
returns-in-Deposit g c =
    let b = c.in-Deposit in
    let came = c.call_node-in-Deposit in
    record {
      bytes = c.hands_bytes.ensures;
      did = told_call (acts_of g _) (λ turn. g.T.Tell.IsOf came.result turn) b.is (c.requires.ranged, c.hands_bytes.ensures) (λ same. cc) _ (came.ensures.did (λ k. centre_act (Deposit b.call) (books_in k)) refl);
    }

pub returns-in-Flag : goal.returns-in-Flag
returns-in-Flag g c =
    let b = c.in-Flag in
    let came = c.call_node-in-Flag in
    record {
      bytes = c.hands_bytes.ensures;
      did = told_call (acts_of g _) (λ turn. g.T.Tell.IsOf came.result turn) b.is (c.requires.ranged, c.hands_bytes.ensures) (λ same. cc) _ (came.ensures.did (λ k. centre_act (Flag b.call) (books_in k)) refl);
    }

pub returns-in-Balance : goal.returns-in-Balance
returns-in-Balance g c =
    let b = c.in-Balance in
    let came = c.call_node-in-Balance in
    record {
      bytes = c.hands_bytes.ensures;
      did = told_call (acts_of g _) (λ turn. g.T.Tell.IsOf came.result turn) b.is (c.requires.ranged, c.hands_bytes.ensures) (λ same. cc) _ (came.ensures.did (λ k. centre_act (Balance b.call) (books_in k)) refl);
    }

pub returns-in-Take : goal.returns-in-Take
returns-in-Take g c =
    let b = c.in-Take in
    let came = c.call_node-in-Take in
    record {
      bytes = c.hands_bytes.ensures;
      did = told_call (acts_of g _) (λ turn. g.T.Tell.IsOf came.result turn) b.is (c.requires.ranged, c.hands_bytes.ensures) (λ same. cc) _ (came.ensures.did (λ k. centre_act (Take b.call) (books_in k)) refl);
    }
