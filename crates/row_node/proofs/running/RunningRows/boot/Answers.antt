use Rattle.std.proofs.Common.{Err, refl, sym, ◌∙◌, ap, subst}
use Rattle.bench_base.specs.declared.refusals.BootFail.{BootFail}
use Rattle.nv_model.specs.Moments.{Image}
use Rattle.node_storage.proofs.Rests.{image_before}
use Rattle.row_node.specs.Knows as known
use Rattle.row_node.specs.NodeLaws.{intact}
use Rattle.row_node.specs.NodeView.{seen_in}
use Rattle.row_node.specs.Tables.{IsDamaged}
use Rattle.row_node.proofs.running.RunningRows.boot.Goals as goal

pub returns-in-Ok-clause-starts : goal.returns-in-Ok-clause-starts
returns-in-Ok-clause-starts g c =
    let k = c.boot_rows.new.self in
    let e = c.in-Ok.ensures in
    record {
      works = refl;
      sound = e.starts;
      size = known.size k e.leaves;
      only = λ tells. known.only k tells e.leaves;
      shows = λ tells. known.shown k tells e.leaves;
    }

pub returns-in-Ok-clause-damaged : goal.returns-in-Ok-clause-damaged
returns-in-Ok-clause-damaged g c tells damaged =
    let k = c.boot_rows.new.self in
    let e = c.in-Ok.ensures in
    intact g.met.R.Rows.laws g.N.Nv (seen_in k) k.nv e.starts (known.shown k tells e.leaves) (known.size k e.leaves) damaged

pub returns-in-Err-clause-damaged : goal.returns-in-Err-clause-damaged
returns-in-Err-clause-damaged g c tells is =
    subst (λ (s : g.row.N.Denot). IsDamaged g.R.Rows.table g.R.Memory.Cells.size g.N.Nv s) (sym c.into_storage-nv.ensures)
    (c.in-Err.ensures.damaged tells (ap (λ (f : BootFail). Err f) is))

pub returns-in-Err-clause-sound : goal.returns-in-Err-clause-sound
returns-in-Err-clause-sound g c tells size all is =
    let nv = g.N.Nv in
    let k = c.boot_rows.new.self in
    let e = c.in-Err.ensures in
    let image = image_before (nv.times c.new-node.result.nv) (nv.times k.nv) (nv.content k.nv) (e.reads.mounts tells) (g.met.N.Nv.nested k.nv tells) (g.met.N.Nv.content_is k.nv tells) in
    let s = all (nv.content k.nv) (subst (λ (s : g.row.N.Denot). Image (nv.times s) (nv.content k.nv)) c.new-node.ensures.storage image) in
    intact g.met.R.Rows.laws nv s.rows k.nv s.sound s.shows (e.reads.size ∙ ap nv.size c.new-node.ensures.storage ∙ size) (e.damaged tells (ap (λ (f : BootFail). Err f) is))
