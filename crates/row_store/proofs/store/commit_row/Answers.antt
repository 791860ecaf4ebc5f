use Rattle.row_store.proofs.Kept.{commits_row, still_read}
use Rattle.row_store.proofs.store.commit_row.Goals as goal

pub returns-clause-filled : goal.returns-clause-filled
returns-clause-filled g c =
    still_read g.W.Rows.decoded g.W.Rows.spelled g.N.Nv c.args.cell c.args.row.now c.write-payload.result _ _ _ _ c.commit_room.result c.commit_room.ensures c.requires.inside c.requires.filled c.write-payload.ensures.reads c.write-payload.ensures.value

pub returns-clause-commits : goal.returns-clause-commits
returns-clause-commits g c =
    commits_row g.W.Rows.decoded g.W.Rows.spelled g.N.Nv c.args.cell c.args.row.now c.write-payload.result _ _ _ _ c.commit_room.result c.commit_room.ensures c.requires.inside c.requires.filled c.write-payload.ensures.reads c.write-payload.ensures.value
