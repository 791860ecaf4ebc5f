use Rattle.std.proofs.Common.{subst}
use Rattle.bench_base.specs.Ranges.{IsDevice}
use Rattle.host_jobs.proofs.Keeping.{shelf_kept}
use Rattle.host_jobs.proofs.acts.shelf_in.Goals as goal

pub returns-clause-value : goal.returns-clause-value
returns-clause-value c =
    shelf_kept c.args.rows.now c.args.kept.now c.requires c.args.device c.get.result c.oldest.result (subst IsDevice c.get.ensures.value c.get.ensures.range) c.get.ensures.value c.oldest.ensures
