use Rattle.bench_base.specs.declared.words.Node.TheVariants.{Host}
use Rattle.trace_extensions.proofs.Settled.{text_found, text_none}
use Rattle.trace_extensions.proofs.words.DepartmentsTracedExtension.failure_in.Goals as goal

pub returns-clause-found : goal.returns-clause-found
returns-clause-found g c = text_found Host c.args.prefix.now c.failure_with.result c.failure_with.ensures.found

pub returns-clause-none : goal.returns-clause-none
returns-clause-none g c = text_none Host c.args.prefix.now c.failure_with.result c.failure_with.ensures.none
