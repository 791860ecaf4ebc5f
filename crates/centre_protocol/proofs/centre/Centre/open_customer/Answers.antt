use Rattle.centre_ledger.specs.Acts.{open_act}
use Rattle.centre_protocol.specs.CentreView.{books_of}
use Rattle.centre_protocol.proofs.Fits.{sound_acts, can_commit}
use Rattle.centre_protocol.proofs.centre.Centre.open_customer.Goals as goal

pub perform-requires : goal.perform-requires
perform-requires g c =
    let e = c.accounts.ensures in
    let b = books_of c.args.self.now in
    record { fits = can_commit c.accounts.result.now b (λ b. open_act c.args.customer b) c.open_act-act.result e.rows c.open_act-act.ensures.act ((sound_acts c.accounts.result.now b e.rows e.sound).opened c.args.customer c.open_act-act.ensures.number) }
