use Rattle.std.proofs.Common.{◌≡◌, ℕ, ◌+◌, ◌-◌, ◌≤◌, List, length, take, replicate, min, true, inl, inr, ⊎_elim, sym, ap, arith, rules, ◌∙◌, subst}
use Rattle.std.proofs.lemmas.List.{length-take-le}
use Rattle.std.specs.Prelude.{is_ok}
use Rattle.nv_model.specs.Bytes.{laid}
use Rattle.nv_model.specs.Plans.{torn}
use Rattle.nv_model.proofs.Tears.{kept_then, on_true, failing_since}
use Rattle.nv_model.specs.Moments.{Part}
use Rattle.nv_model.proofs.Runs.{part_twice, part_wider, tears_wider}
use Rattle.nv_model.proofs.tear.tear_write.Goals as goal

pub returns-then-is_ok-clause-part : goal.returns-then-is_ok-clause-part
returns-then-is_ok-clause-part g c tells =
    let nested = λ (s : g.row.N.Denot). g.met.N.Nv.nested s tells in
    let times = g.N.Nv.times in
    let at = c.args.at in
    let n = length c.args.bytes.now in
    let kept = c.min-kept.result in
    let short : kept ≤ n = omega (arith, c.min-kept.ensures) in
    let first : Part at n (times c.args.nv.now) (times c.write.new.self) = record {
      images = tears_wider at n at (length (take kept c.args.bytes.now)) (g.N.Nv.times c.args.nv.now) (g.N.Nv.times c.write.new.self) (omega arith) (omega (arith, length-take-le kept c.args.bytes.now short)) (c.write.ensures.did.images tells);
      time = c.write.ensures.did.time tells;
    } in
    let second : Part at n (times c.write.new.self) (times c.fill_and_sync.new.nv) = part_wider at n (omega arith) (omega arith) (c.fill_and_sync.ensures.part tells) in
    part_twice (nested c.write.new.self) (nested c.fill_and_sync.new.nv) first second

pub returns-then-is_ok-clause-exact : goal.returns-then-is_ok-clause-exact
returns-then-is_ok-clause-exact g c tells =
    let old = g.N.Nv.content c.args.nv.now in
    let bytes = c.args.bytes.now in
    let at = c.args.at in
    let n = length bytes in
    let k = c.min-kept.result in
    let run = replicate (n - k) c.args.byte in
    let sized = g.met.N.Nv.sized c.args.nv.now (g.N.Nv.times c.args.nv.now).moment old tells (g.met.N.Nv.content_is c.args.nv.now tells) in
    let room : at + n ≤ length old = omega (arith, sized, c.requires.room) in
    let is : k ≡ min c.args.keep n = c.min-kept.ensures in
    let ok : is_ok c.write.result ≡ true = search rules in
    let wrote : g.N.Nv.content c.write.new.self ≡ laid old at (take k bytes) = on_true c.write.result ok (c.write.ensures.did.written tells) in
    let exact : laid (laid old at (take k bytes)) (at + k) run ≡ torn old at bytes c.args.keep c.args.byte =
    subst (λ (m : ℕ). laid (laid old at (take m bytes)) (at + m) (replicate (n - m) c.args.byte) ≡ torn old at bytes c.args.keep c.args.byte) (sym is) (kept_then old at bytes c.args.keep c.args.byte room) in
    ⊎_elim (λ e. inl (e ∙ ap (λ (l : List ℕ). laid l (at + k) run) wrote ∙ exact))
    (λ failing. inr (failing_since (g.N.Nv.meters c.args.nv.now) (g.N.Nv.meters c.write.new.self) (g.N.Nv.meters c.fill_and_sync.new.nv) (search rules) failing))
    (c.fill_and_sync.ensures.exact tells)

pub returns-else-is_ok-clause-part : goal.returns-else-is_ok-clause-part
returns-else-is_ok-clause-part g c tells =
    let at = c.args.at in
    let n = length c.args.bytes.now in
    let kept = c.min-kept.result in
    let short : kept ≤ n = omega (arith, c.min-kept.ensures) in
    record {
      images = tears_wider at n at (length (take kept c.args.bytes.now)) (g.N.Nv.times c.args.nv.now) (g.N.Nv.times c.write.new.self) (omega arith) (omega (arith, length-take-le kept c.args.bytes.now short)) (c.write.ensures.did.images tells);
      time = c.write.ensures.did.time tells;
    }
