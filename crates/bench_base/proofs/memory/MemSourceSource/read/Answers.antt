use Rattle.std.proofs.Common.{arith, ap, ◌≡◌, min, length, ◌+◌, ◌-◌, take, drop, ◌∙◌, List, ℕ}
use Rattle.std.proofs.lemmas.List.{length-take, length-drop}
use Rattle.bench_base.proofs.Supplies.{split_left, none_left}
use Rattle.bench_base.specs.Memory.{Supply}
use Rattle.bench_base.proofs.memory.MemSourceSource.read.Goals as goal

pub returns-clause-bytes : goal.returns-clause-bytes
returns-clause-bytes c =
    let left = ap (λ (s : Supply). s.left) c.self.view_is in
    let count : c.min-count.result ≡ min (min (length c.args.buf.now) c.self.inside.piece) (length c.self.inside.bytes.items - c.self.inside.at) =
    omega (arith, c.min-count.ensures, c.min.ensures, c.self.inside.bytes.ok.0, c.self.invariant.0) in
    let gave = c.copy_from_slice.ensures.after ∙ ap (λ (b : List ℕ). take (c.self.inside.at + c.min-count.result - c.self.inside.at) (drop c.self.inside.at b)) c.as_slice.ensures.value in
    let long : length c.copy_from_slice.new.self ≡ c.min-count.result =
    omega (
      arith,
      count,
      ap length gave,
      length-take (c.self.inside.at + c.min-count.result - c.self.inside.at) (drop c.self.inside.at c.self.inside.bytes.items),
      length-drop c.self.inside.at c.self.inside.bytes.items,
    ) in (
      split_left c.self.inside.bytes.items _ _ _ c.self.inside.at c.min-count.result left gave long,
      none_left c.self.inside.bytes.items _ c.args.buf.now c.self.inside.at c.min-count.result c.self.inside.piece count long c.self.invariant.1,
    )
