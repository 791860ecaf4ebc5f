use Rattle.trace_extensions.proofs.plain.heard.Goals as goal

pub returns-in-Err-clause-missed : goal.returns-in-Err-clause-missed
returns-in-Err-clause-missed g c = λ τ H texts history sees d event may text. c.miss.ensures.open (c.in-Err.ensures.missed τ H texts history sees d event may text)
