use Rattle.std.proofs.Common.{sym, subst}
use Rattle.host_departments.specs.Index.{IsIndexed}
use Rattle.host_departments.specs.Rows.{Rows}
use Rattle.host_departments.specs.View.{rows_of}
use Rattle.host_departments.proofs.Indexing.{indexed_put}
use Rattle.host_departments.proofs.desk.Departments.commit.Goals as goal

pub invariant_of-self-in-Ok-clause-indexed : goal.invariant_of-self-in-Ok-clause-indexed
invariant_of-self-in-Ok-clause-indexed g c =
    subst (λ (r : Rows). IsIndexed c.note_row.new.index r) (sym c.in-Ok.ensures.commits.done)
    (indexed_put c.args.self.now.index c.note_row.new.index c.note_row.ensures.keep (rows_of c.args.self.now) c.args.cell c.args.row.now c.args.self.now.indexed c.note_row.ensures.found)
