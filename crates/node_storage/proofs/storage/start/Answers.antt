use Rattle.std.proofs.Common.{Err, sym, ◌∙◌, ap, subst}
use Rattle.bench_base.specs.declared.refusals.BootFail.{BootFail}
use Rattle.nv_store.specs.Turns.{Spent}
use Rattle.node_storage.specs.Does.{SyncsOnce}
use Rattle.node_storage.specs.Ends.{end_of_boot}
use Rattle.node_storage.proofs.Booted.{cut, faulted, is_foreign, comes_on}
use Rattle.node_storage.proofs.Rests.{reads_twice, restart_cut, restart_faulted, spent_after, once_after}
use Rattle.node_storage.proofs.storage.start.Goals as goal

pub returns-in-Err-Power : goal.returns-in-Err-Power
returns-in-Err-Power g c =
    let r = c.in-Err-Power.ensures in
    cut g.K.Node g.K.Storage.Nv c.args.number c.args.node.now c.restart.new.self (sym c.if-is_on.ensures) g.met.K.Storage.Nv.nested r.reads r.off
    (restart_cut _ _ c.in-Err-Power.field-0 r.answer c.in-Err-Power.field-0-is)

pub returns-in-Err-Fault : goal.returns-in-Err-Fault
returns-in-Err-Fault g c =
    let r = c.in-Err-Fault.ensures in
    faulted g.K.Node g.K.Storage.Nv c.args.number c.args.node.now c.restart.new.self (sym c.if-is_on.ensures) g.met.K.Storage.Nv.nested r.reads r.off
    (restart_faulted _ _ c.in-Err-Fault.field-0 r.answer c.in-Err-Fault.field-0-is)

pub returns-in-Err-Power-boot : goal.returns-in-Err-Power-boot
returns-in-Err-Power-boot g c =
    let nv = g.K.Storage.Nv in
    let in_it = g.K.Node.storage in
    let s = c.args.node.now in
    let mid = c.restart.new.self in
    let t = c.boot.new.self in
    let r = c.in-Ok.ensures in
    let e = c.in-Err-Power-boot.ensures in
    cut g.K.Node nv c.args.number s t (sym c.if-is_on.ensures) g.met.K.Storage.Nv.nested (reads_twice nv g.met.K.Storage.Nv.nested (in_it s) (in_it mid) (in_it t) r.reads e.reads) e.leaves
    (subst (λ (f : BootFail). Spent 1 (nv.meters (in_it s)) (nv.meters (in_it t)) (end_of_boot (Err f))) c.in-Err-Power-boot.field-0-is (spent_after _ _ _ _ _ r.answer e.spent))

pub returns-in-Err-Fault-boot : goal.returns-in-Err-Fault-boot
returns-in-Err-Fault-boot g c =
    let nv = g.K.Storage.Nv in
    let in_it = g.K.Node.storage in
    let s = c.args.node.now in
    let mid = c.restart.new.self in
    let t = c.boot.new.self in
    let r = c.in-Ok.ensures in
    let e = c.in-Err-Fault-boot.ensures in
    faulted g.K.Node nv c.args.number s t (sym c.if-is_on.ensures) g.met.K.Storage.Nv.nested (reads_twice nv g.met.K.Storage.Nv.nested (in_it s) (in_it mid) (in_it t) r.reads e.reads) e.leaves
    (subst (λ (f : BootFail). Spent 1 (nv.meters (in_it s)) (nv.meters (in_it t)) (end_of_boot (Err f))) c.in-Err-Fault-boot.field-0-is (spent_after _ _ _ _ _ r.answer e.spent))

pub returns-in-Err-Damaged : goal.returns-in-Err-Damaged
returns-in-Err-Damaged g c =
    let nv = g.K.Storage.Nv in
    let in_it = g.K.Node.storage in
    let s = c.args.node.now in
    let mid = c.restart.new.self in
    let t = c.boot.new.self in
    let r = c.in-Ok.ensures in
    let e = c.in-Err-Damaged.ensures in
    is_foreign g.K.Node nv c.args.number s t (sym c.if-is_on.ensures) g.met.K.Storage.Nv.nested (reads_twice nv g.met.K.Storage.Nv.nested (in_it s) (in_it mid) (in_it t) r.reads e.reads)
    g.met.K.Node.intact g.met.K.Storage.Nv.content_is
    (subst (λ (f : BootFail). Spent 1 (nv.meters (in_it s)) (nv.meters (in_it t)) (end_of_boot (Err f))) c.in-Err-Damaged.field-0-is (spent_after _ _ _ _ _ r.answer e.spent))
    e.leaves (λ tells. e.damaged tells (ap (λ (f : BootFail). Err f) c.in-Err-Damaged.field-0-is))
    (λ size. once_after (nv.meters (in_it s)) (nv.meters (in_it mid)) (nv.meters (in_it t)) _ r.answer
    (subst (λ (f : BootFail). SyncsOnce nv g.K.Node.bytes (in_it mid) (in_it t) (Err f)) c.in-Err-Damaged.field-0-is e.once (r.reads.size ∙ size)))

pub returns-in-Ok-boot : goal.returns-in-Ok-boot
returns-in-Ok-boot g c =
    let nv = g.K.Storage.Nv in
    let in_it = g.K.Node.storage in
    let s = c.args.node.now in
    let mid = c.restart.new.self in
    let t = c.boot.new.self in
    let r = c.in-Ok.ensures in
    let e = c.in-Ok-boot.ensures in
    comes_on g.K.Node nv c.args.number s t (sym c.if-is_on.ensures) g.met.K.Storage.Nv.nested (reads_twice nv g.met.K.Storage.Nv.nested (in_it s) (in_it mid) (in_it t) r.reads e.reads)
    g.met.K.Node.intact g.met.K.Storage.Nv.content_is (spent_after _ _ _ _ _ r.answer e.spent)
    g.met.K.Node.one_shown (g.met.K.Node.sized t) e.leaves e.starts.0 e.starts.1 (λ tells. g.met.K.Node.knows t tells e.leaves) c.commits.result c.commits.ensures
    (once_after (nv.meters (in_it s)) (nv.meters (in_it mid)) (nv.meters (in_it t)) _ r.answer e.once)
