use Rattle.nv_model.proofs.Images.{image_torn}
use Rattle.nv_model.proofs.tear.tear_last.Goals as goal

pub returns-in-Some-clause-images : goal.returns-in-Some-clause-images
returns-in-Some-clause-images g c tells i now =
    let nv = g.N.Nv in
    let old = c.args.nv.now in
    let from = (c.tear_range.ensures.part tells).images i now in
    g.met.N.Nv.image_all old i tells c.requires.works.powered
    (image_torn (nv.base old) (nv.written old) c.in-Some.at c.in-Some.count from.0 i (c.requires.last_is (c.in-Some.at, c.in-Some.count) tells c.in-Some.is) (g.met.N.Nv.image_is old from.0 tells from.1) from.2)
