use Rattle.std.proofs.Common.{ap, ◌∙◌}
use Rattle.psd_state.specs.State.{State}
use Rattle.psd_state.specs.Payload.{mark_part}
use Rattle.psd_state.proofs.Read.{coded_is}
use Rattle.psd_state.proofs.record.DevRec.mark_bytes.Goals as goal

pub returns : goal.returns
returns c =
    c.mark_bytes.ensures ∙ coded_is _ _ _ c.self.invariant.1 ∙ ap (λ (s : State). mark_part s.key s.mark) c.self.view_is
