use Rattle.script_text.proofs.LineForms.{none_of, no_give}
use Rattle.script_text.proofs.forms.give.Goals as goal

pub returns-in_err-node : goal.returns-in_err-node
returns-in_err-node c = record { read = none_of _ _ c.from_residual.ensures.0 (no_give _ c.in_err-node.ensures.none) }
