use Rattle.std.proofs.Common.{◌≡◌, length, Err, rules}
use Rattle.nv_model.specs.declared.nv.NvFail.TheVariants.{Fault}
use Rattle.nv_model.proofs.Images.{range_stays, not_power}
use Rattle.nv_model.proofs.fused.FusedNv.write.Goals as goal

pub invariant_of-self-in-Err-Fault-clause-last_is : goal.invariant_of-self-in-Err-Fault-clause-last_is
invariant_of-self-in-Err-Fault-clause-last_is g c r tells on is =
    let s = c.args.self.now in
    let fault : c.write-result.result ≡ Err Fault = first_of (cc (c.in-Err-Fault.is, c.in-Err-Fault.field-0-is), search rules) in
    range_stays c.args.at (length c.args.bytes.now) r.0 r.1 (g.N.Nv.written s.nv) (g.N.Nv.written c.write-result.new.self)
    (c.write-result.ensures.did.places tells (not_power c.write-result.result fault)) (s.last_is r tells on is)
