use Rattle.centre_ledger.specs.Acts.{flag_act}
use Rattle.centre_ledger.proofs.SoundActs.{leaves}
use Rattle.call_handlers.proofs.Changed.{put_sound}
use Rattle.call_handlers.proofs.centre_calls.FlagCallCallCentreCalleeRow.act.Goals as goal

pub returns-clause-makes : goal.returns-clause-makes
returns-clause-makes g c asked =
    let q = c.args.self.now in
    let e = c.books.ensures in
    put_sound c.books.result.now _ e.rows (flag_act q.customer q.suspended c.books.result.now) c.flag_act.ensures ((leaves c.books.result.now e.sound).flagged q.customer q.suspended)
