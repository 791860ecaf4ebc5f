use Rattle.script_text.proofs.Programs.{only_call}
use Rattle.script_text.proofs.program.read_words.Goals as goal

pub returns-clause-only : goal.returns-clause-only
returns-clause-only c = only_call c.by_number.result _ c.by_number.ensures.found c.by_number.ensures.none
