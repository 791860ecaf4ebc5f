use Rattle.centre_ledger.specs.Acts.{open_act}
use Rattle.centre_ledger.proofs.SoundActs.{leaves}
use Rattle.call_handlers.proofs.Changed.{put_sound}
use Rattle.call_handlers.proofs.centre_calls.OpenCallCallCentreCalleeRow.act.Goals as goal

pub returns-clause-makes : goal.returns-clause-makes
returns-clause-makes g c asked =
    let q = c.args.self.now in
    let e = c.books.ensures in
    put_sound c.books.result.now _ e.rows (open_act q.customer c.books.result.now) c.open_act.ensures.act ((leaves c.books.result.now e.sound).opened q.customer c.open_act.ensures.number)
