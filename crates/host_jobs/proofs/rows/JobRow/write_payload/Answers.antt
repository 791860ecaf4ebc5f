use Rattle.std.proofs.Common.{◌≡◌, ◌++◌, List, ℕ, sym, ap₂, ◌∙◌, subst}
use Rattle.host_jobs.specs.Payload.{job_bytes, JobReadsAs}
use Rattle.host_jobs.proofs.JobBytes.{written_job}
use Rattle.host_jobs.proofs.rows.JobRow.write_payload.Goals as goal

pub returns-clause-value : goal.returns-clause-value
unfolding job_bytes
returns-clause-value c = c.joined.ensures ∙ ap₂ (λ (x y : List ℕ). x ++ y) c.head_bytes.ensures.value (ap₂ (λ (x y : List ℕ). x ++ y) c.tops_bytes.ensures.value c.mark_bytes.ensures)

pub returns-clause-reads : goal.returns-clause-reads
unfolding job_bytes
returns-clause-reads c =
    let value : c.joined.result ≡ job_bytes c.args.self.now =
    c.joined.ensures ∙ ap₂ (λ (x y : List ℕ). x ++ y) c.head_bytes.ensures.value (ap₂ (λ (x y : List ℕ). x ++ y) c.tops_bytes.ensures.value c.mark_bytes.ensures) in
    subst (λ (b : List ℕ). JobReadsAs b c.args.self.now) (sym value) (written_job c.args.self.now c.requires (record { head = c.head_bytes.ensures.fits; tops = c.tops_bytes.ensures.fits }))
