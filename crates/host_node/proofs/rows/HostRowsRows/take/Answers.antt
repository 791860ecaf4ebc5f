use Rattle.std.proofs.Common.{◌∙◌, ap, subst}
use Rattle.host_jobs.specs.Rows.{Jobs, row_in}
use Rattle.host_jobs.specs.Seen.{cell_of}
use Rattle.host_jobs.specs.Soundness.{IsNext}
use Rattle.host_node.specs.Cells.{rows_kept, row_here, row_other}
use Rattle.host_node.proofs.rows.HostRowsRows.take.Goals as goal

pub put-requires : goal.put-requires
put-requires c =
    let m = c.args.self.now in
    let next = c.requires.committed.2.next in
    record { kept = next.keeps.follows; next = subst (λ (b : Jobs). IsNext b c.args.row.now) (rows_kept m.jobs c.requires.committed.0 m.long next.keeps.filled) next.fits }

pub returns : goal.returns
returns c held payload done =
    let m = c.args.self.now in
    let x = c.args.row.now in
    record {
      here = ap (λ (l : Jobs). row_in l (cell_of x)) c.put.ensures.rows ∙ row_here m.jobs x m.long;
      others = λ k differs. ap (λ (l : Jobs). row_in l k) c.put.ensures.rows ∙ row_other m.jobs x k differs;
      follows = c.put.ensures.kept;
    }
