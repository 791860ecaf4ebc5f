use Rattle.row_store.proofs.Kept.{none_at, some_at}
use Rattle.row_store.proofs.store.row_in.Goals as goal

pub returns-in-None : goal.returns-in-None
returns-in-None g c = none_at g.W.Rows.decoded _ _ c.requires.filled c.args.cell c.requires.inside c.in-None.ensures.payload

pub returns-in-Some : goal.returns-in-Some
returns-in-Some g c = some_at g.W.Rows.decoded _ _ c.requires.filled c.args.cell c.requires.inside c.in-Some.payload.now c.read.result c.read.ensures c.in-Some.ensures.payload
