use Rattle.std.proofs.Common.{arith, rules, true}
use Rattle.nv_store.specs.Lent.{parts}
use Rattle.nv_store.proofs.OneStore.{one_commits, one_fills}
use Rattle.nv_ring.proofs.ring.RingStore.commit.Goals as goal

pub count-requires-clause-room : goal.count-requires-clause-room
count-requires-clause-room g c = omega (arith, c.in-Ok.ensures.keeps.done.0, c.in-Ok.ensures.keeps.fits, c.args.self.now.wears.count)

pub returns-in-Ok-clause-commits : goal.returns-in-Ok-clause-commits
returns-in-Ok-clause-commits g c =
    let s = c.args.self.now in
    let done = c.commit_lent-done in
    one_commits g.N.Nv g.row.L 16 c.args.cell (parts s.nv s.head s.payload) (parts done.new.nv done.new.head done.new.kept) c.args.payload.now done.result s.failed c.if-self.false s.failed c.requires (search rules) done.ensures

pub returns-in-Err-Power-clause-commits : goal.returns-in-Err-Power-clause-commits
returns-in-Err-Power-clause-commits g c =
    let s = c.args.self.now in
    let done = c.commit_lent-done in
    one_commits g.N.Nv g.row.L 16 c.args.cell (parts s.nv s.head s.payload) (parts done.new.nv done.new.head done.new.kept) c.args.payload.now done.result s.failed c.if-self.false true c.requires (search rules) done.ensures

pub returns-in-Err-Worn-clause-commits : goal.returns-in-Err-Worn-clause-commits
returns-in-Err-Worn-clause-commits g c =
    let s = c.args.self.now in
    let done = c.commit_lent-done in
    one_commits g.N.Nv g.row.L 16 c.args.cell (parts s.nv s.head s.payload) (parts done.new.nv done.new.head done.new.kept) c.args.payload.now done.result s.failed c.if-self.false s.failed c.requires (search rules) done.ensures

pub returns-in-Ok-clause-fills : goal.returns-in-Ok-clause-fills
returns-in-Ok-clause-fills g c =
    let s = c.args.self.now in
    let done = c.commit_lent-done in
    one_fills g.N.Nv g.row.L 16 c.args.cell (parts s.nv s.head s.payload) (parts done.new.nv done.new.head done.new.kept) c.args.payload.now done.result s.failed s.failed c.requires done.ensures

pub returns-in-Err-Power-clause-fills : goal.returns-in-Err-Power-clause-fills
returns-in-Err-Power-clause-fills g c =
    let s = c.args.self.now in
    let done = c.commit_lent-done in
    one_fills g.N.Nv g.row.L 16 c.args.cell (parts s.nv s.head s.payload) (parts done.new.nv done.new.head done.new.kept) c.args.payload.now done.result s.failed true c.requires done.ensures

pub returns-in-Err-Worn-clause-fills : goal.returns-in-Err-Worn-clause-fills
returns-in-Err-Worn-clause-fills g c =
    let s = c.args.self.now in
    let done = c.commit_lent-done in
    one_fills g.N.Nv g.row.L 16 c.args.cell (parts s.nv s.head s.payload) (parts done.new.nv done.new.head done.new.kept) c.args.payload.now done.result s.failed s.failed c.requires done.ensures
