use Rattle.centre_ledger.specs.Acts.{deposit_act}
use Rattle.centre_protocol.specs.CentreView.{books_of}
use Rattle.centre_protocol.proofs.Fits.{sound_acts, can_commit}
use Rattle.centre_protocol.proofs.centre.Centre.deposit.Goals as goal

pub perform-requires : goal.perform-requires
perform-requires g c =
    let e = c.accounts.ensures in
    let b = books_of c.args.self.now in
    record { fits = can_commit c.accounts.result.now b (λ b. deposit_act c.args.customer c.args.receipt c.args.amount b) c.deposit_act-act.result e.rows c.deposit_act-act.ensures ((sound_acts c.accounts.result.now b e.rows e.sound).deposited c.args.customer c.args.receipt c.args.amount) }
