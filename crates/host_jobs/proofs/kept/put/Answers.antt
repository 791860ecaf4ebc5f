use Rattle.std.proofs.Common.{ℕ, Some, set, sym, ap, ◌∙◌, subst}
use Rattle.host_jobs.specs.declared.kept.Kept.{Kept}
use Rattle.host_jobs.specs.Rows.{Jobs, kept_after}
use Rattle.host_jobs.specs.Soundness.{IsDerived}
use Rattle.host_jobs.proofs.Keeping.{keeps_on}
use Rattle.host_jobs.proofs.kept.put.Goals as goal

pub returns-clause-kept : goal.returns-clause-kept
returns-clause-kept c =
    let x = c.args.row.now in
    let rows = c.args.rows.now in
    let kept = c.args.kept.now in
    let on = keeps_on rows kept x c.requires.kept c.requires.next in
    let same = c.set.ensures ∙ ap (λ (k : ℕ). set rows k (Some x)) c.cell_of.ensures in
    subst (λ (k : Kept). IsDerived c.set.new.self k) (sym c.after.ensures) (subst (λ (l : Jobs). IsDerived l (kept_after kept x)) (sym same) on)
