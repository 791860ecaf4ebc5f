use Rattle.trace_centre.proofs.Kept.{blank_kept, blank_seen}
use Rattle.trace_centre.proofs.record.CentreRecord.blank.Goals as goal

pub invariant_of-result : goal.invariant_of-result
invariant_of-result c = record { kept = blank_kept c.empty.result c.empty.ensures.value }

pub returns : goal.returns
returns c = blank_seen
