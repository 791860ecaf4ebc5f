use Rattle.std.proofs.Common.{sym, subst}
use Rattle.bench_base.specs.Table.{IsBytes}
use Rattle.centre_ledger.specs.Acts.{take_act}
use Rattle.centre_ledger.proofs.SoundActs.{leaves}
use Rattle.call_handlers.proofs.Changed.{put_sound}
use Rattle.call_handlers.proofs.centre_calls.TakeRequestCallCallCentreCalleeRow.act.Goals as goal

pub returns-clause-makes : goal.returns-clause-makes
returns-clause-makes g c asked =
    let bytes = c.as_slice.result.now in
    let e = c.books.ensures in
    put_sound c.books.result.now _ e.rows (take_act bytes c.books.result.now) c.take_act.ensures ((leaves c.books.result.now e.sound).taken bytes (subst IsBytes (sym c.as_slice.ensures) asked))
