use Rattle.script_text.proofs.LineForms.{none_of, no_cut}
use Rattle.script_text.proofs.forms.cut.Goals as goal

pub returns-in_err-node : goal.returns-in_err-node
returns-in_err-node c = record { read = none_of _ _ c.from_residual.ensures.0 (no_cut _ c.in_err-node.ensures.none) }
