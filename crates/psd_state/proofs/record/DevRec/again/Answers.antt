use Rattle.std.proofs.Common.{ap, sym, ◌∙◌}
use Rattle.psd_state.specs.State.{State, kept_code}
use Rattle.psd_state.proofs.Kept.{kept_again, given_again}
use Rattle.psd_state.proofs.record.DevRec.again.Goals as goal

pub returns-then-mark-command-2 : goal.returns-then-mark-command-2
returns-then-mark-command-2 c =
    given_again c.args.command.now c.args.self.now.key c.args.mark.now c.write_coded.result c.if-mark-command.true c.if-mark-command-2.true
    (kept_again c.args.self.now c.self.inside.code c.args.mark.now c.write_coded.result c.requires
    (ap (λ (s : State). kept_code s.key s.mark) (sym c.self.view_is) ∙ c.self.invariant.1) c.write_coded.ensures)
