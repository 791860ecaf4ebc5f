use Rattle.std.proofs.Common.{arith, rules, sym, subst, Bool}
use Rattle.nv_model.specs.Meters.{UsesExactly}
use Rattle.nv_store.specs.Store.{commit_calls}
use Rattle.nv_store.proofs.OneCell.{other_cells, commits, committed_known, committed_shown}
use Rattle.nv_store.proofs.Turn.{next_slot}
use Rattle.nv_store.proofs.commit.commit_at.Goals as goal

pub returns-in_err-fill_slot-clause-any_moment : goal.returns-in_err-fill_slot-clause-any_moment
returns-in_err-fill_slot-clause-any_moment g c tells i now =
    let head = c.args.head.now in
    commits g.row.L c.args.slots c.args.at head.count head.place head.gates c.args.kept.now c.args.payload.now c.next_place-place.result c.next_place-place.ensures.inside c.next_place-place.ensures.other
    (g.N.Nv.content c.args.nv.now) (c.requires.known tells) i ((c.fill_slot.ensures.steps tells).any_moment i now)

pub returns-clause-any_moment : goal.returns-clause-any_moment
returns-clause-any_moment g c tells i now =
    let head = c.args.head.now in
    commits g.row.L c.args.slots c.args.at head.count head.place head.gates c.args.kept.now c.args.payload.now c.next_place-place.result c.next_place-place.ensures.inside c.next_place-place.ensures.other
    (g.N.Nv.content c.args.nv.now) (c.requires.known tells) i ((c.fill_slot.ensures.steps tells).any_moment i now)

pub returns-clause-done : goal.returns-clause-done
returns-clause-done g c tells =
    let head = c.args.head.now in
    committed_shown g.row.L c.args.slots c.args.at head.count head.place head.gates c.args.kept.now c.args.payload.now c.next_place-place.result c.next_place-place.ensures.inside c.next_place-place.ensures.other
    (g.N.Nv.content c.args.nv.now) (c.requires.known tells) (g.N.Nv.content c.fill_slot.new.nv) (c.in_ok-fill_slot.ensures.steps tells).done

pub returns-clause-known : goal.returns-clause-known
returns-clause-known g c tells =
    let head = c.args.head.now in
    committed_known g.row.L c.args.slots c.args.at head.count head.place head.gates c.args.kept.now c.args.payload.now c.next_place-place.result c.next_place-place.ensures.inside c.next_place-place.ensures.other
    (g.N.Nv.content c.args.nv.now) (c.requires.known tells) (g.N.Nv.content c.fill_slot.new.nv) (c.in_ok-fill_slot.ensures.steps tells).done (omega (arith, c.next_place-place.ensures.inside, c.requires.many))

pub returns-clause-others : goal.returns-clause-others
returns-clause-others g c tells =
    other_cells g.row.L c.args.slots c.args.at c.next_place-place.result c.next_place-place.ensures.inside (g.N.Nv.content c.args.nv.now) (g.N.Nv.content c.fill_slot.new.nv) (c.in_ok-fill_slot.ensures.steps tells).done.others

pub returns-in_err-fill_slot-clause-fills : goal.returns-in_err-fill_slot-clause-fills
returns-in_err-fill_slot-clause-fills g c tells =
    let head = c.args.head.now in
    let known = c.requires.known tells in
    record {
      place = c.next_place-place.result;
      next = next_slot c.args.slots _ head.count head.place head.gates c.args.kept.now known c.next_place-place.result c.next_place-place.ensures.inside c.next_place-place.ensures.place;
      any_moment = λ i now. (c.fill_slot.ensures.fills tells).any_moment i now;
      done = search rules;
      calls = search rules;
    }

pub returns-clause-fills : goal.returns-clause-fills
returns-clause-fills g c tells =
    let head = c.args.head.now in
    let place = c.next_place-place.result in
    let known = c.requires.known tells in
    record {
      place = place;
      next = next_slot c.args.slots _ head.count head.place head.gates c.args.kept.now known place c.next_place-place.ensures.inside c.next_place-place.ensures.place;
      any_moment = λ i now. (c.fill_slot.ensures.fills tells).any_moment i now;
      done = λ made. (c.in_ok-fill_slot.ensures.fills tells).done;
      calls = λ made. subst (λ (b : Bool). UsesExactly (commit_calls b) (g.N.Nv.meters c.args.nv.now).fuse (g.N.Nv.meters c.fill_slot.new.nv).fuse)
          (sym (known.gates_are place c.next_place-place.ensures.inside)) c.in_ok-fill_slot.ensures.calls;
    }
