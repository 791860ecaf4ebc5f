use Rattle.std.proofs.Common.{sym, subst, FitsSigned}
use Rattle.std.specs.Int.{w32}
use Rattle.psd_state.specs.State.{State}
use Rattle.psd_state.specs.Payload.{Ranges}
use Rattle.psd_state.proofs.Parted.{fits_of}
use Rattle.psd_state.proofs.record.DevRec.write_payload.Goals as goal

pub returns-clause-fits : goal.returns-clause-fits
returns-clause-fits c =
    let days = c.days-deadline.ensures.fits in
    subst Ranges c.self.view_is
    (fits_of _ _ _ _ c.head_bytes-head.ensures.fits c.joined.ensures.key c.code_of_pending.ensures c.middle_bytes-middle.ensures.fits
    (subst (λ (s : State). FitsSigned w32 s.deadline) (sym c.self.view_is) days.0)
    (subst (λ (s : State). FitsSigned w32 s.last_day) (sym c.self.view_is) days.1))
