use Rattle.nv_store.specs.Lent.{parts}
use Rattle.nv_store.proofs.OneStore.{one_commits, one_fills}
use Rattle.nv_store.proofs.one.CellStore.commit.Goals as goal

pub returns-clause-commits : goal.returns-clause-commits
returns-clause-commits g c =
    let s = c.args.self.now in
    let done = c.commit_lent-done in
    one_commits g.N.Nv g.row.L 2 c.args.cell (parts s.nv s.head s.payload) (parts done.new.nv done.new.head done.new.kept) c.args.payload.now done.result s.failed c.if-self.false c.ends_failed-self.result c.requires c.ends_failed-self.ensures done.ensures

pub returns-clause-fills : goal.returns-clause-fills
returns-clause-fills g c =
    let s = c.args.self.now in
    let done = c.commit_lent-done in
    one_fills g.N.Nv g.row.L 2 c.args.cell (parts s.nv s.head s.payload) (parts done.new.nv done.new.head done.new.kept) c.args.payload.now done.result s.failed c.ends_failed-self.result c.requires done.ensures
