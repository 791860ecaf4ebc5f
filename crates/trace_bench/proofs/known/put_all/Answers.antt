use Rattle.std.proofs.Common.{◌≡◌, ◌∙◌, inl, inr, ℕ, List, IsTrue, get_or, sym, ap, arith}
use Rattle.trace_bench.specs.Known.{is_among}
use Rattle.trace_bench.proofs.Sets.{put_keys, moved, at_place, up_to}
use Rattle.trace_bench.proofs.known.put_all.Goals as goal

pub loop-place-preserved : goal.loop-place-preserved
loop-place-preserved g c =
    let f = g.K.AsBytes.bytes_of in
    let at = c.loop-place.place in
    let list = c.args.list.now in
    let was = λ (q : List ℕ). is_among (λ k. k.items) q c.loop-place.set.keys in
    let puts = put_keys (λ k. k.items) c.in_ok-bytes.bytes c.loop-place.set.keys c.insert.new.self.keys c.in_ok-insert.field-0 c.in_ok-insert.ensures.added c.in_ok-insert.ensures.keys in
    let here : c.in_ok-bytes.bytes.items ≡ f (get_or list at c.index-list-place.result) = c.in_ok-bytes.ensures.items ∙ c.as_bytes.ensures ∙ ap f c.index-list-place.is in
    record {
      few = omega (arith, c.loop-place-test.true, c.loop-place.auto.place-end);
      same = λ q.
          let more = moved f (is_among f q list) (was q) (is_among (λ k. k.items) q c.insert.new.self.keys) (c.in_ok-bytes.bytes.items ≡ q) (puts q) (λ is. at_place f list at c.index-list-place.result q c.loop-place-test.true (sym here ∙ is)) in
          (λ has. (c.loop-place.invariant.same q).0 (more.0 has), λ has. more.1 ((c.loop-place.invariant.same q).1 has));
      taken = λ q has. up_to f list at c.index-list-place.result q (IsTrue (is_among (λ k. k.items) q c.insert.new.self.keys)) c.loop-place-test.true (λ before. (puts q).1 (inr (c.loop-place.invariant.taken q before))) (λ is. (puts q).1 (inl (here ∙ is))) has;
    }
