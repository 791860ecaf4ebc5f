use Rattle.trace_verifier.proofs.Blank.{blank_indexed}
use Rattle.trace_verifier.proofs.record.ScanRecord.blank.Goals as goal

pub invariant_of-result : goal.invariant_of-result
invariant_of-result c = record { kept = blank_indexed _ _ c.in_ok-cells.ensures c.new.ensures }
