use Rattle.std.proofs.Common.{inl, inr, ⊎_elim, rules, ◌+◌, ◌≤◌, length, arith, ◌∙◌}
use Rattle.std.proofs.lemmas.Result.{on_ok_weaker}
use Rattle.nv_store.specs.Slot.{Held, slot_at}
use Rattle.nv_store.specs.Steps.{IsOrShut, IsOrHolds}
use Rattle.nv_store.proofs.Then.{steps_then}
use Rattle.nv_store.proofs.Filling.{second, third, opened_is, laid_both}
use Rattle.nv_store.proofs.steps.fill_slot.Goals as goal

pub returns-in_err-write_payload-clause-steps : goal.returns-in_err-write_payload-clause-steps
returns-in_err-write_payload-clause-steps g c tells =
    let nv = g.N.Nv in
    let before = slot_at g.row.L c.args.at (nv.content c.args.nv.now) in
    let held : Held = (c.args.count, c.args.payload.now) in
    let first = steps_then (IsOrShut before) (g.met.N.Nv.nested c.write_payload.new.nv tells) c.in_ok-shut.was (λ s p. p) (λ s p. inr p) (c.shut.ensures.steps tells) (c.write_payload.ensures.steps tells) in
    record {
      any_moment = λ i now. let seen = first.any_moment i now in
          record { others = seen.others; slot = ⊎_elim (λ same. inl same) (λ none. inr (inl none)) seen.slot };
      done = search rules;
      durable = search rules;
      time = first.time;
    }

pub returns-clause-steps : goal.returns-clause-steps
returns-clause-steps g c tells =
    let nv = g.N.Nv in
    let L = g.row.L in
    let at = c.args.at in
    let before = slot_at L at (nv.content c.args.nv.now) in
    let held : Held = (c.args.count, c.args.payload.now) in
    let first = steps_then (IsOrShut before) (g.met.N.Nv.nested c.write_payload.new.nv tells) c.in_ok-shut.was (λ s p. p) (λ s p. inr p) (c.shut.ensures.steps tells) (c.write_payload.ensures.steps tells) in
    steps_then (IsOrHolds before held) (g.met.N.Nv.nested c.open_gate.new.nv tells) c.in_ok-write_payload.was
    (λ s p. ⊎_elim (λ same. inl same) (λ none. inr (inl none)) p) (λ s p. ⊎_elim (λ none. inr (inl none)) (λ more. inr more) p) first (c.open_gate.ensures.steps tells)

pub returns-in_err-write_payload-clause-fills : goal.returns-in_err-write_payload-clause-fills
returns-in_err-write_payload-clause-fills g c tells =
    let nv = g.N.Nv in
    let L = g.row.L in
    let at = c.args.at in
    let old = nv.content c.args.nv.now in
    let held : Held = (c.args.count, c.args.payload.now) in
    let sized = g.met.N.Nv.sized c.args.nv.now (nv.times c.args.nv.now).moment old tells (g.met.N.Nv.content_is c.args.nv.now tells) in
    let room : at + 5 + L ≤ length old = omega (arith, sized, c.requires.room) in
    let shut = c.in_ok-shut.ensures.shuts tells in
    record {
      any_moment = λ i now. ⊎_elim
          (λ was. inl (c.shut.ensures.torn tells i was))
          (λ later. second L at held old room (search rules) (nv.content c.shut.new.nv) i shut ((c.write_payload.ensures.puts tells).torn i later))
          ((c.write_payload.ensures.puts tells).time.nothing_else (nv.times c.args.nv.now).moment i (c.shut.ensures.steps tells).time.later now);
      done = search rules;
    }

pub returns-clause-fills : goal.returns-clause-fills
returns-clause-fills g c tells =
    let nv = g.N.Nv in
    let L = g.row.L in
    let at = c.args.at in
    let old = nv.content c.args.nv.now in
    let held : Held = (c.args.count, c.args.payload.now) in
    let sized = g.met.N.Nv.sized c.args.nv.now (nv.times c.args.nv.now).moment old tells (g.met.N.Nv.content_is c.args.nv.now tells) in
    let room : at + 5 + L ≤ length old = omega (arith, sized, c.requires.room) in
    let start = (nv.times c.args.nv.now).moment in
    let shut = c.in_ok-shut.ensures.shuts tells in
    let shuts = (c.shut.ensures.steps tells).time in
    let writes = c.write_payload.ensures.puts tells in
    let opens = c.open_gate.ensures.puts tells in
    let mid = laid_both (at + 1) _ _ _ _ shut (c.in_ok-write_payload.ensures.puts tells).done in
    record {
      any_moment = λ i now. ⊎_elim
          (λ before. ⊎_elim
          (λ was. inl (c.shut.ensures.torn tells i was))
          (λ later. second L at held old room (search rules) (nv.content c.shut.new.nv) i shut (writes.torn i later))
          (writes.time.nothing_else start i shuts.later before))
          (λ last. third L at held old room (search rules) (nv.content c.write_payload.new.nv) i mid (opens.torn i last))
          (opens.time.nothing_else start i (omega (arith, shuts.later, writes.time.later)) now);
      done = on_ok_weaker c.open_gate.result (λ is. laid_both at _ _ _ _ mid is ∙ opened_is L at held old room (search rules)) opens.done;
    }
