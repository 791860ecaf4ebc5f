use Rattle.trace_bench.specs.Seeing.{audit_of}
use Rattle.trace_bench.proofs.Begun.{begun_sees}
use Rattle.trace_bench.proofs.auditor.Auditor.begin.Goals as goal

pub returns-clause-sees : goal.returns-clause-sees
returns-clause-sees c = begun_sees (audit_of c.args.self.now) c.shut_all.new.devices.items c.clear.new.self.items c.shut_all.ensures c.clear.ensures.items
