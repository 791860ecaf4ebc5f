use Rattle.centre_ledger.specs.Acts.{register_act}
use Rattle.centre_ledger.proofs.SoundActs.{leaves}
use Rattle.call_handlers.proofs.Changed.{put_sound}
use Rattle.call_handlers.proofs.centre_calls.RegisterCallCallCentreCalleeRow.act.Goals as goal

pub returns-clause-makes : goal.returns-clause-makes
returns-clause-makes g c asked =
    let q = c.args.self.now in
    let e = c.books.ensures in
    put_sound c.books.result.now _ e.rows (register_act q.device q.origin q.key c.books.result.now) c.register_act.ensures.act
    ((leaves c.books.result.now e.sound).registered q.device q.origin q.key c.register_act.ensures.number asked)
