use Rattle.centre_ledger.specs.Acts.{flag_act}
use Rattle.centre_protocol.specs.CentreView.{books_of}
use Rattle.centre_protocol.proofs.Fits.{sound_acts, can_commit}
use Rattle.centre_protocol.proofs.centre.Centre.flag.Goals as goal

pub perform-requires : goal.perform-requires
perform-requires g c =
    let e = c.accounts.ensures in
    let b = books_of c.args.self.now in
    record { fits = can_commit c.accounts.result.now b (λ b. flag_act c.args.customer c.args.suspended b) c.flag_act-act.result e.rows c.flag_act-act.ensures ((sound_acts c.accounts.result.now b e.rows e.sound).flagged c.args.customer c.args.suspended) }
