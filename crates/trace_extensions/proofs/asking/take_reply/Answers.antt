use Rattle.trace_bench.specs.Seeing.{audit_of}
use Rattle.trace_extensions.specs.Places.{turn_at}
use Rattle.trace_extensions.specs.Rates.{left_of}
use Rattle.trace_extensions.proofs.Asked.{asked_with}
use Rattle.trace_extensions.proofs.asking.take_reply.Goals as goal

pub returns-in-Ok-clause-asked : goal.returns-in-Ok-clause-asked
returns-in-Ok-clause-asked g c = λ τ H texts history sees.
    let took = c.in-Ok.ensures.takes τ H texts history sees in
    asked_with g.D.Extension τ H c.args.event.now _ (left_of c.args.rates.now) (left_of c.take.new.rates) (audit_of c.take.new.auditor) c.args.desk.now c.go_on.new.self c.go_on.result
    history took.0 took.1 (c.go_on.ensures.goes (turn_at τ H took.0) took.2)

pub returns-in-Err-clause-missed : goal.returns-in-Err-clause-missed
returns-in-Err-clause-missed g c = λ τ H texts history sees d event may same.
    c.in-Err.ensures.missed τ H texts history sees d event may same
