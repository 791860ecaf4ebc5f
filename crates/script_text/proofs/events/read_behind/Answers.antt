use Rattle.std.proofs.Common.{codes}
use Rattle.script_text.specs.declared.keyword.Keyword.TheVariants as kw
use Rattle.script_words.specs.Words.{words_in}
use Rattle.script_text.proofs.EachEvent.{no_event}
use Rattle.script_text.proofs.LineForms.{not_alone}
use Rattle.script_text.proofs.events.read_behind.Goals as goal

-- words after a keyword that is a line alone
pub returns-in-Rates : goal.returns-in-Rates
returns-in-Rates c = record { read = rw c.in-Rates.is (no_event kw.Rates (words_in c.args.rest.now) (λ whole are. not_alone (codes "rates") c.args.rest.now are)) }

pub returns-in-End : goal.returns-in-End
returns-in-End c = record { read = rw c.in-End.is (no_event kw.End (words_in c.args.rest.now) (λ whole are. not_alone (codes "end") c.args.rest.now are)) }
