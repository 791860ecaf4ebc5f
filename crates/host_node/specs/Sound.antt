-- Which job the host's storage can take next.
use Rattle.host_jobs.specs.declared.rows.JobRow.{JobRow}
use Rattle.host_jobs.specs.Seen.{Seen, rows_in}
use Rattle.host_jobs.specs.Soundness.{IsNext}

-- the job is one that may be written next
abbrev pub IsFit : Seen → JobRow → Type 0
IsFit s x = IsNext (rows_in s) x
