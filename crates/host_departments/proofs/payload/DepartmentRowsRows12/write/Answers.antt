use Rattle.std.proofs.Common.{◌∙◌, ℕ, [], ◌∷◌, Some, sym, ap, subst}
use Rattle.bench_base.specs.Table.{Fit}
use Rattle.host_departments.specs.Payload.{IsFit, cell_table, cell_bytes, spelled}
use Rattle.host_departments.specs.declared.{row.DepartmentRow.DepartmentRow, row.DepartmentRow.TheVariants.Quota, row.DepartmentRow.TheVariants.Job}
use Rattle.host_departments.proofs.Payloads.{quota_written, job_written}
use Rattle.host_departments.proofs.payload.DepartmentRowsRows12.write.Goals as goal

pub returns-in-Quota-clause-reads : goal.returns-in-Quota-clause-reads
returns-in-Quota-clause-reads c =
    let fits : IsFit c.args.cell (Quota c.in-Quota.quota) = subst (λ (x : DepartmentRow). IsFit c.args.cell x) c.in-Quota.is c.requires.fits in
    quota_written c.args.cell c.in-Quota.quota fits c.bytes_of.ensures.fits c.bytes_of.result c.bytes_of.ensures.value ∙ ap (λ (x : DepartmentRow). Some x) (sym c.in-Quota.is)

pub returns-in-Job-clause-reads : goal.returns-in-Job-clause-reads
returns-in-Job-clause-reads c =
    let j = c.in-Job.job in
    let p = c.in-Job.postage in
    let fits : IsFit c.args.cell (Job j p) = subst (λ (x : DepartmentRow). IsFit c.args.cell x) c.in-Job.is c.requires.fits in
    job_written c.args.cell j p fits.0 fits.1 fits.2 (subst (λ (d : ℕ). Fit cell_table (j ∷ d ∷ p ∷ [])) c.department_of.ensures c.bytes_of-in-Job.ensures.fits) c.bytes_of-in-Job.result
    (c.bytes_of-in-Job.ensures.value ∙ ap (λ (d : ℕ). cell_bytes j d p) c.department_of.ensures) ∙ ap (λ (x : DepartmentRow). Some x) (sym c.in-Job.is)

pub returns-in-Quota-clause-value : goal.returns-in-Quota-clause-value
returns-in-Quota-clause-value c = c.bytes_of.ensures.value ∙ sym (ap (λ (x : DepartmentRow). spelled c.args.cell x) c.in-Quota.is)

pub returns-in-Job-clause-value : goal.returns-in-Job-clause-value
returns-in-Job-clause-value c =
    c.bytes_of-in-Job.ensures.value ∙ ap (λ (d : ℕ). cell_bytes c.in-Job.job d c.in-Job.postage) c.department_of.ensures ∙ sym (ap (λ (x : DepartmentRow). spelled c.args.cell x) c.in-Job.is)
