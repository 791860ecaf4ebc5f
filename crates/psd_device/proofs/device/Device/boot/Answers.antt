use Rattle.std.proofs.Common.{◌≡◌, Err, refl, sym, ◌∙◌, ap, subst}
use Rattle.bench_base.specs.declared.refusals.BootFail.{BootFail}
use Rattle.bench_base.specs.declared.refusals.BootFail.TheVariants as boot
use Rattle.nv_model.specs.Moments.{Image}
use Rattle.psd_device.specs.Boots.{IsDamaged}
use Rattle.node_storage.proofs.Rests.{image_before}
use Rattle.psd_device.specs.Knows as known
use Rattle.psd_device.specs.NodeLaws.{not_damaged}
use Rattle.psd_device.specs.NodeView.{seen_in}
use Rattle.psd_device.proofs.device.Device.boot.Given.{Over}
use Rattle.psd_device.proofs.device.Device.boot.Goals as goal

pub returns-in-Ok-clause-starts : goal.returns-in-Ok-clause-starts
returns-in-Ok-clause-starts g c =
    let k = c.boot_record.new.self in
    let e = c.in-Ok.ensures in
    record {
      works = refl;
      number = e.starts.0;
      sound = e.starts.1;
      size = known.size k e.leaves;
      shows = λ tells. known.knows k tells e.leaves;
      place = e.place;
    }

pub returns-in-Ok-clause-damaged : goal.returns-in-Ok-clause-damaged
returns-in-Ok-clause-damaged g c tells damaged =
    let k = c.boot_record.new.self in
    let e = c.in-Ok.ensures in
    let s = seen_in k in
    not_damaged g.N.Nv c.args.device k.nv (record { count = s.count; state = s.state; own = e.starts.1.own; shows = (known.knows k tells e.leaves).shows })
    (known.size k e.leaves) damaged

-- what a boot found damaged is not a valid storage of the device
left_damaged : (g : Over) (c : goal.After-into_storage g) → g.N.Nv.tells → c.in-Err.fail ≡ boot.Damaged → IsDamaged g.N.Nv c.args.device c.boot_record.new.self.nv
left_damaged g c tells is = c.in-Err.ensures.damaged tells (ap (λ (f : BootFail). Err f) is)

pub returns-in-Err-clause-damaged : goal.returns-in-Err-clause-damaged
returns-in-Err-clause-damaged g c tells is =
    subst (λ (s : g.row.N.Denot). IsDamaged g.N.Nv c.args.device s) (sym c.into_storage.ensures) (left_damaged g c tells is)

pub returns-in-Err-clause-sound : goal.returns-in-Err-clause-sound
returns-in-Err-clause-sound g c tells size own is =
    let nv = g.N.Nv in
    let k = c.boot_record.new.self in
    let e = c.in-Err.ensures in
    let image = image_before (nv.times c.new-node.result.nv) (nv.times k.nv) (nv.content k.nv) (e.reads.mounts tells) (g.met.N.Nv.nested k.nv tells) (g.met.N.Nv.content_is k.nv tells) in
    not_damaged nv c.args.device k.nv (own (nv.content k.nv) (subst (λ (s : g.row.N.Denot). Image (nv.times s) (nv.content k.nv)) c.new-node.ensures.storage image))
    (e.reads.size ∙ ap nv.size c.new-node.ensures.storage ∙ size) (left_damaged g c tells is)

pub invariant_of-result : goal.invariant_of-result
invariant_of-result g c = record { runs = c.in-Ok.ensures.leaves; room = c.boot_record.new.self.room c.in-Ok.ensures.leaves }
