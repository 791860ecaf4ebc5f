use Rattle.std.proofs.Common.{◌≡◌, ◌+◌, ◌≤◌, length, true, arith, rules, ◌∙◌}
use Rattle.nv_model.proofs.Tears.{run_more}
use Rattle.nv_model.proofs.Runs.{part_twice, part_wider}
use Rattle.nv_model.proofs.tear.fill.Goals as goal

pub returns-then-not-write_run-clause-part : goal.returns-then-not-write_run-clause-part
returns-then-not-write_run-clause-part g c tells =
    let nested = λ (s : g.row.N.Denot). g.met.N.Nv.nested s tells in
    part_twice (nested c.loop-done.nv) (nested c.write_run.new.nv) (c.loop-done.invariant.part tells) (part_wider c.args.at c.args.count (omega arith) (omega arith) (c.write_run.ensures.part tells))

pub loop-done-preserved : goal.loop-done-preserved
loop-done-preserved g c = record {
  inside = search rules;
  part = λ tells.
      let nested = λ (s : g.row.N.Denot). g.met.N.Nv.nested s tells in
      part_twice (nested c.loop-done.nv) (nested c.write_run.new.nv) (c.loop-done.invariant.part tells) (part_wider c.args.at c.args.count (omega arith) (omega arith) (c.write_run.ensures.part tells));
  counts = grind arith;
  size = c.write_run.ensures.size ∙ c.loop-done.invariant.size;
  works = let ok : c.write_run.result ≡ true = search rules in c.write_run.ensures.works ok;
  content = λ tells.
      let ok : c.write_run.result ≡ true = search rules in
      run_more (g.N.Nv.content c.args.nv.now) (g.N.Nv.content c.loop-done.nv) (g.N.Nv.content c.write_run.new.nv) c.args.at c.loop-done.done c.min-len.result c.args.byte
      (room tells) (c.loop-done.invariant.content tells) (c.write_run.ensures.done ok tells);
}
  where
    room : (tells : g.N.Nv.tells) → c.args.at + c.loop-done.done + c.min-len.result ≤ length (g.N.Nv.content c.args.nv.now)
    room tells =
        let sized = g.met.N.Nv.sized c.args.nv.now (g.N.Nv.times c.args.nv.now).moment (g.N.Nv.content c.args.nv.now) tells (g.met.N.Nv.content_is c.args.nv.now tells) in
        omega (arith, sized, c.requires.room, c.min-len.ensures, c.loop-done.invariant.inside)
