use Rattle.std.proofs.Common.{◌≡◌, ℕ, ◌+◌, ◌*◌, List, sym, ◌∙◌, ap, rules}
use Rattle.nv_model.proofs.Runs.{rests_twice}
use Rattle.nv_store.specs.Slot.{slot_at, slots_at}
use Rattle.nv_store.proofs.scan.scan_slots.Goals as goal

pub loop-place-preserved : goal.loop-place-preserved
loop-place-preserved g c =
    let nv = g.N.Nv in
    let before = c.loop-place.invariant in
    record {
      rests = λ tells. rests_twice (g.met.N.Nv.nested c.loop-place.nv tells) (g.met.N.Nv.nested c.read_slot.new.nv tells) (before.rests tells) (c.read_slot.ensures.rests tells);
      went = search rules;
      size = c.read_slot.ensures.size ∙ before.size;
      place = search rules;
      scanned = λ tells.
          let slots = slots_at g.row.L c.args.at (nv.content c.args.nv.now) in
          let here : slots c.loop-place.place ≡ slot_at g.row.L (c.args.at + c.loop-place.place * (5 + g.row.L)) (nv.content c.loop-place.nv) =
          ap (λ (i : List ℕ). slot_at g.row.L (c.args.at + c.loop-place.place * (5 + g.row.L)) i) (sym (before.rests tells).same) in
          c.in_ok-read_slot.ensures.more tells slots here (before.scanned tells);
    }

pub returns-in_err-read_slot-clause-rests : goal.returns-in_err-read_slot-clause-rests
returns-in_err-read_slot-clause-rests g c tells =
    let nv = g.N.Nv in
    rests_twice (g.met.N.Nv.nested c.loop-place.nv tells) (g.met.N.Nv.nested c.read_slot.new.nv tells) (c.loop-place.invariant.rests tells) (c.read_slot.ensures.rests tells)
