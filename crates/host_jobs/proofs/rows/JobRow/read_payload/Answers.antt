use Rattle.std.proofs.Common.{sym, ap, subst, ◌∙◌, true≢false, arith}
use Rattle.bench_base.specs.Jobs.{cell_of}
use Rattle.bench_base.specs.Ranges.{IsDevice}
use Rattle.bench_base.specs.Table.{number}
use Rattle.host_jobs.specs.Soundness.{IsSoundJob}
use Rattle.host_jobs.proofs.JobBytes.{parts, made, marks_some, same_job, numbers_read, job_number, device_number, state_number, state_in}
use Rattle.host_jobs.proofs.rows.JobRow.read_payload.Goals as goal

pub returns-then-cell_of-cell-clause-none : goal.returns-then-cell_of-cell-clause-none
unfolding number
returns-then-cell_of-cell-clause-none c = λ r cell h. c.if-cell_of-cell.true (c.cell_of.ensures ∙ ap cell_of (c.u32_at-job.ensures ∙ job_number r c.args.payload.now h) ∙ cell)

pub returns-in_default-clause-none : goal.returns-in_default-clause-none
unfolding number
returns-in_default-clause-none c = λ r cell h.
    let some = c.in_default.ensures.valid.1 (subst IsDevice (sym (c.u32_at.ensures ∙ device_number r c.args.payload.now h)) h.sound.device) in cc

pub returns-in_default-state_from-clause-none : goal.returns-in_default-state_from-clause-none
returns-in_default-state_from-clause-none c = λ r cell h.
    let at = state_number r c.args.payload.now h in
    let range = state_in r.state in
    c.in_default-state_from.ensures.none (omega (arith, at, range)) (omega (arith, at, range))

pub returns-then-is_sound_job-clause-found : goal.returns-then-is_sound_job-clause-found
unfolding number
returns-then-is_sound_job-clause-found c = (
  sym c.cell_of.ensures ∙ c.if-cell_of-cell.false,
  made _ c.args.payload.now c.told-payload c.fits-payload (c.is_sound_job.ensures.0 c.if-is_sound_job.true) (record {
    numbers = numbers_read c.args.payload.now _ _ _ _ _ _ c.u32_at-job.ensures (c.in-Some.ensures.value ∙ c.u32_at.ensures) c.u32_at-2.ensures c.u32_at-3.ensures c.u16_at.ensures c.in-Some-state_from.ensures.found;
    tops = sym c.tops_in.ensures;
    mark = sym c.mark_in.ensures.value;
  }),
)

pub returns-else-is_sound_job-clause-none : goal.returns-else-is_sound_job-clause-none
unfolding number
returns-else-is_sound_job-clause-none c = λ r cell h.
    let same = same_job r _ c.args.payload.now (parts r c.args.payload.now h) (record {
      numbers = numbers_read c.args.payload.now _ _ _ _ _ _ c.u32_at-job.ensures (c.in-Some.ensures.value ∙ c.u32_at.ensures) c.u32_at-2.ensures c.u32_at-3.ensures c.u16_at.ensures c.in-Some-state_from.ensures.found;
      tops = sym c.tops_in.ensures;
      mark = sym c.mark_in.ensures.value;
    }) (marks_some r r.indicium h.sound.holds) c.mark_in.ensures.some in
    absurd (true≢false (sym (c.is_sound_job.ensures.1 (subst IsSoundJob same h.sound)) ∙ c.if-is_sound_job.false))
