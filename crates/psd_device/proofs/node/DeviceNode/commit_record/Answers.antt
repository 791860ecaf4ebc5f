use Rattle.std.proofs.Common.{inl, rules, true, false, Ok, Err, subst, List, ℕ, ◌+◌}
use Rattle.bench_base.specs.declared.sizes.TheConstants.{RECORD_BYTES, SLOTS}
use Rattle.nv_store.specs.Fills.{Fills, fill, told}
use Rattle.nv_store.proofs.Turn.{commit_uses}
use Rattle.node_storage.proofs.Fails.{writes_as}
use Rattle.psd_device.specs.Knows.{shows}
use Rattle.psd_device.proofs.Commits.{between_shown, reads_as_spelled}
use Rattle.psd_device.proofs.node.DeviceNode.commit_record.Goals as goal

pub returns-then-is_worn-clause-stores : goal.returns-then-is_worn-clause-stores
returns-then-is_worn-clause-stores g c = record {
  any_moment = λ tells i now. inl (shows c.args.self.now tells c.requires.on i now);
  time = search rules;
  spent = search rules;
  size = search rules;
}

pub returns-in-Ok-clause-stores : goal.returns-in-Ok-clause-stores
returns-in-Ok-clause-stores g c =
    let s = c.args.self.now in
    record {
      any_moment = λ tells i now. between_shown s.head.count s.payload s.state s.written c.args.next.now c.write_payload-payload.result
          (reads_as_spelled c.args.next.now c.write_payload-payload.result c.write_payload-payload.ensures.sound c.write_payload-payload.ensures.fits c.write_payload-payload.ensures.value) i
          (c.in-Ok.ensures.images.any_moment tells i now);
      time = search rules;
      spent = search rules;
      size = search rules;
    }

pub returns-in-Err-clause-stores : goal.returns-in-Err-clause-stores
returns-in-Err-clause-stores g c =
    let s = c.args.self.now in
    record {
      any_moment = λ tells i now. between_shown s.head.count s.payload s.state s.written c.args.next.now c.write_payload-payload.result
          (reads_as_spelled c.args.next.now c.write_payload-payload.result c.write_payload-payload.ensures.sound c.write_payload-payload.ensures.fits c.write_payload-payload.ensures.value) i
          (c.in-Err.ensures.images.any_moment tells i now);
      time = search rules;
      spent = search rules;
      size = search rules;
    }

pub returns-in-Ok-clause-writes : goal.returns-in-Ok-clause-writes
returns-in-Ok-clause-writes g c =
    let s = c.args.self.now in
    let now = c.commit_lent.new.nv in
    writes_as g.N.Nv _ s.nv now (Ok tt)
    (λ tells fresh. subst (λ (p : List ℕ). Fills (fill RECORD_BYTES SLOTS 0 (s.head.count + 1, p)) (told g.N.Nv s.nv) (told g.N.Nv now) true)
    c.write_payload-payload.ensures.value (c.in-Ok.ensures.fills tells fresh))
    (commit_uses _ _ _ c.in-Ok.ensures.calls)

pub returns-in-Err-clause-writes : goal.returns-in-Err-clause-writes
returns-in-Err-clause-writes g c =
    let s = c.args.self.now in
    let now = c.commit_lent.new.nv in
    writes_as g.N.Nv _ s.nv now (Err c.in-Err.fail)
    (λ tells fresh. subst (λ (p : List ℕ). Fills (fill RECORD_BYTES SLOTS 0 (s.head.count + 1, p)) (told g.N.Nv s.nv) (told g.N.Nv now) false)
    c.write_payload-payload.ensures.value (c.in-Err.ensures.fills tells fresh)) tt
