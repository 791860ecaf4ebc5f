use Rattle.std.proofs.Common.{arith}
use Rattle.centre_ledger.specs.Acts.{register_act}
use Rattle.centre_protocol.specs.CentreView.{books_of}
use Rattle.centre_protocol.proofs.Fits.{sound_acts, can_commit}
use Rattle.centre_protocol.proofs.centre.Centre.register.Goals as goal

pub perform-requires : goal.perform-requires
perform-requires g c =
    let e = c.accounts.ensures in
    let b = books_of c.args.self.now in
    record { fits = can_commit c.accounts.result.now b (λ b. register_act c.args.device c.args.origin c.args.key.now b) c.register_act-act.result e.rows c.register_act-act.ensures.act ((sound_acts c.accounts.result.now b e.rows e.sound).registered c.args.device c.args.origin c.args.key.now c.register_act-act.ensures.number (omega (arith, c.ranges.origin))) }
