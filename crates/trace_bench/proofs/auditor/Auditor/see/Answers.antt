use Rattle.trace_bench.specs.Seeing.{audit_of}
use Rattle.trace_bench.proofs.Keeping.{debits_added}
use Rattle.trace_bench.proofs.Sent.{other_known}
use Rattle.trace_bench.proofs.auditor.Auditor.see.Goals as goal

pub returns-clause-blank : goal.returns-clause-blank
returns-clause-blank c sees =
    let old = (audit_of c.args.self.now).known in
    record {
      run = other_known (audit_of c.args.self.now) _ _ sees.run;
      known = record {
        sent = sees.known.sent;
        released = sees.known.released;
        debited = debits_added c.args.mark.now c.args.line old.seen c.add.new.self c.add.result c.add.ensures.adds c.add.ensures.err sees.known.debited;
      };
    }
