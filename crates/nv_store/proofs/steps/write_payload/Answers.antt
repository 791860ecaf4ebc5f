use Rattle.std.proofs.Common.{◌≡◌, ℕ, ◌+◌, ◌≤◌, ◌++◌, List, length, subst, arith, length-append}
use Rattle.std.specs.Int.{to_be_bytes, w32}
use Rattle.std.proofs.lemmas.Result.{on_ok_weaker}
use Rattle.nv_model.specs.Bytes.{SameOutside}
use Rattle.nv_store.specs.Steps.{Puts}
use Rattle.nv_store.proofs.Gates.{payload_torn, payload_done}
use Rattle.nv_store.proofs.steps.write_payload.Goals as goal

pub returns-clause-puts : goal.returns-clause-puts
returns-clause-puts g c tells =
    let nv = g.N.Nv in
    subst (λ (b : List ℕ). Puts (c.args.at + 1) b (nv.content c.args.nv.now) (nv.content c.put.new.nv) (nv.times c.args.nv.now) (nv.times c.put.new.nv) c.put.result) c.join.ensures (c.put.ensures.puts tells)

pub returns-clause-steps : goal.returns-clause-steps
returns-clause-steps g c tells =
    let nv = g.N.Nv in
    let old = nv.content c.args.nv.now in
    let at = c.args.at in
    let sized = g.met.N.Nv.sized c.args.nv.now (nv.times c.args.nv.now).moment old tells (g.met.N.Nv.content_is c.args.nv.now tells) in
    let room : at + 5 + g.row.L ≤ length old = omega (arith, sized, c.requires.room) in
    let bytes : List ℕ = to_be_bytes w32 c.args.count ++ c.args.payload.now in
    let long : length bytes ≡ 4 + g.row.L = omega (arith, length-append (to_be_bytes w32 c.args.count) c.args.payload.now) in
    let puts = subst (λ (b : List ℕ). Puts (at + 1) b old (nv.content c.put.new.nv) (nv.times c.args.nv.now) (nv.times c.put.new.nv) c.put.result) c.join.ensures (c.put.ensures.puts tells) in
    record {
      any_moment = λ i now. payload_torn g.row.L at old room i (c.requires.shut tells) (subst (λ (n : ℕ). SameOutside (at + 1) n old i) long (puts.torn i now));
      done = on_ok_weaker c.put.result (λ is. payload_done g.row.L at old room (nv.content c.put.new.nv) bytes long (c.requires.shut tells) is) puts.done;
      durable = c.put.ensures.durable tells;
      time = puts.time;
    }
