use Rattle.std.proofs.Common.{ℤ, refl}
use Rattle.bench_base.specs.declared.words.Node.TheVariants.{Host}
use Rattle.host_jobs.specs.Seen.{rows_in}
use Rattle.bench_abstraction.specs.declared.calls.HostCall.TheVariants.{Order, Send, Print, Close, Take}
use Rattle.bench_abstraction.specs.Host.{host_kind, host_act}
use Rattle.bench.specs.Calls.{host_call_event, IsRangedJob}
use Rattle.bench.specs.Benches.{Nodes}
use Rattle.bench.specs.contracts.benches.BenchOverHasNodes.TheImpl.{ghosts}
use Rattle.bench.proofs.Called.{AreActs, told_printing}
use Rattle.bench.proofs.HostActs as acts
use Rattle.bench.proofs.host_turns.HostNodeTurnsHostCall.called.Given.{Over}
use Rattle.bench.proofs.host_turns.HostNodeTurnsHostCall.called.Goals as goal

abbrev nodes_in : Over → Nodes
nodes_in g = (ghosts g.row.M g.row.M g.M.Fuse g.M.Fuse-dict g.M.Nv g.M.Nv-dict g.M.Nv g.M.Nv-dict g.M.Destruct-dict).nodes

acts_of : (g : Over) (today : ℤ) → AreActs (nodes_in g).host g.M.Nv g.M.Fuse host_kind Host tt today host_call_event IsRangedJob (λ c k. host_act c (rows_in k))
acts_of g today = record {
  of = acts.call_of;
  told = λ c k. acts.call_told c (rows_in k);
  plan = λ c v. refl;
  commit = λ c v. refl;
  fits = λ c asked k sound. acts.call_fits (nodes_in g).host (rows_in k) sound.sound k (λ y is. is) c asked;
}

pub returns-in-Order : goal.returns-in-Order
returns-in-Order g c =
    let b = c.in-Order in
    let came = c.call_printing in
    record {
      bytes = tt;
      did = told_printing (acts_of g _) (λ turn. g.T.Tell.IsOf came.result turn) b.is c.requires.ranged (λ k. acts.call_prints (Order b.call) (rows_in k)) _ _
          (came.ensures.did (λ k. host_act (Order b.call) (rows_in k)) refl);
    }

pub returns-in-Send : goal.returns-in-Send
returns-in-Send g c =
    let b = c.in-Send in
    let came = c.call_printing-in-Send in
    record {
      bytes = tt;
      did = told_printing (acts_of g _) (λ turn. g.T.Tell.IsOf came.result turn) b.is c.requires.ranged (λ k. acts.call_prints (Send b.call) (rows_in k)) _ _
          (came.ensures.did (λ k. host_act (Send b.call) (rows_in k)) refl);
    }

pub returns-in-Print : goal.returns-in-Print
returns-in-Print g c =
    let b = c.in-Print in
    let came = c.call_printing-in-Print in
    record {
      bytes = tt;
      did = told_printing (acts_of g _) (λ turn. g.T.Tell.IsOf came.result turn) b.is c.requires.ranged (λ k. acts.call_prints (Print b.call) (rows_in k)) _ _
          (came.ensures.did (λ k. host_act (Print b.call) (rows_in k)) refl);
    }

pub returns-in-Close : goal.returns-in-Close
returns-in-Close g c =
    let b = c.in-Close in
    let came = c.call_printing-in-Close in
    record {
      bytes = tt;
      did = told_printing (acts_of g _) (λ turn. g.T.Tell.IsOf came.result turn) b.is c.requires.ranged (λ k. acts.call_prints (Close b.call) (rows_in k)) _ _
          (came.ensures.did (λ k. host_act (Close b.call) (rows_in k)) refl);
    }

pub returns-in-Take : goal.returns-in-Take
returns-in-Take g c =
    let b = c.in-Take in
    let came = c.call_printing-in-Take in
    record {
      bytes = tt;
      did = told_printing (acts_of g _) (λ turn. g.T.Tell.IsOf came.result turn) b.is c.requires.ranged (λ k. acts.call_prints (Take b.call) (rows_in k)) _ _
          (came.ensures.did (λ k. host_act (Take b.call) (rows_in k)) refl);
    }
