use Rattle.trace_bench.proofs.Begun.{blank_ready, blank_sees}
use Rattle.trace_bench.proofs.auditor.Auditor.new.Goals as goal

pub returns-clause-ready : goal.returns-clause-ready
returns-clause-ready c =
    blank_ready c.in_ok-devices.devices.items c.blank_centre.result c.in_ok-host.host c.in_ok-verifier.verifier c.new.result.items c.new-2.result
    c.in_ok-devices.ensures.eight c.in_ok-devices.ensures.blank c.blank_centre.ensures c.in_ok-host.ensures c.in_ok-verifier.ensures

pub returns-clause-blank : goal.returns-clause-blank
returns-clause-blank c =
    blank_sees c.in_ok-devices.devices.items c.blank_centre.result c.in_ok-host.host c.in_ok-verifier.verifier c.new.result.items c.new-2.result
    c.new.ensures.items c.new-2.ensures.blank c.in_ok-devices.ensures.blank c.blank_centre.ensures c.in_ok-host.ensures c.in_ok-verifier.ensures
