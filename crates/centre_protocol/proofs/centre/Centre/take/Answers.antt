use Rattle.std.proofs.Common.{arith}
use Rattle.centre_ledger.specs.Acts.{take_act}
use Rattle.centre_protocol.specs.CentreView.{books_of}
use Rattle.centre_protocol.proofs.Fits.{sound_acts, can_commit}
use Rattle.centre_protocol.proofs.centre.Centre.take.Goals as goal

pub perform-requires : goal.perform-requires
perform-requires g c =
    let e = c.accounts.ensures in
    let b = books_of c.args.self.now in
    record { fits = can_commit c.accounts.result.now b (λ b. take_act c.args.bytes.now b) c.take_act-act.result e.rows c.take_act-act.ensures ((sound_acts c.accounts.result.now b e.rows e.sound).taken c.args.bytes.now (λ i. omega (arith, c.type_inv.bytes i))) }
