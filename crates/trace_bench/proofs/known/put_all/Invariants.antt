use Rattle.std.proofs.Common.{◌↔◌, ◌||◌, ◌≤◌, ℕ, List, IsTrue, length, take}
use Rattle.trace_bench.specs.Known.{is_among}
use Rattle.trace_bench.proofs.known.put_all.Given as goal

abbrev pub invariant-loop-place : goal.invariant-loop-place
invariant-loop-place g l = record {
  few : l.place ≤ length l.fn.list;
  same : (bytes : List ℕ) → IsTrue (is_among g.K.AsBytes.bytes_of bytes l.fn.list || is_among (λ k. k.items) bytes l.set.keys) ↔ IsTrue (is_among g.K.AsBytes.bytes_of bytes l.fn.list || is_among (λ k. k.items) bytes l.fn.set.keys);
  taken : (bytes : List ℕ) → IsTrue (is_among g.K.AsBytes.bytes_of bytes (take l.place l.fn.list)) → IsTrue (is_among (λ k. k.items) bytes l.set.keys);
}
