use Rattle.std.proofs.Common.{◌≡◌, ℕ, ◌-◌, None, get_or, sym, ap, subst, ◌∙◌}
use Rattle.bench_base.specs.Ranges.{IsDevice}
use Rattle.host_jobs.proofs.Keeping.{open_kept, open_foreign}
use Rattle.host_jobs.proofs.acts.open_job.Goals as goal

pub returns-in-Some : goal.returns-in-Some
returns-in-Some c =
    let same : c.get.result ≡ c.args.device = c.get.ensures.value ∙ c.in-Some.ensures.value in
    ap (λ (n : ℕ). get_or c.args.kept.now.open_jobs (n - 1) None) same ∙ open_kept c.args.rows.now c.args.kept.now c.requires c.args.device (subst IsDevice same c.get.ensures.range)

pub returns-in-None : goal.returns-in-None
returns-in-None c = sym (open_foreign c.args.rows.now c.args.kept.now c.requires c.args.device (λ is. let some = c.in-None.ensures.valid.1 is in cc))
