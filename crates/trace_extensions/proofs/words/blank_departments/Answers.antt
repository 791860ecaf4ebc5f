use Rattle.trace_extensions.proofs.words.blank_departments.Goals as goal

pub returns-in-Ok : goal.returns-in-Ok
returns-in-Ok c = record { none = c.in-Ok.ensures.blank c.blank_store.ensures.tells 35360 c.in_ok-nv.ensures.blank }
