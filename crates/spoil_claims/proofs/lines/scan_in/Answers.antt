use Rattle.spoil_claims.proofs.Reading.{scan_found, scan_none, no_event_scan}
use Rattle.spoil_claims.proofs.lines.scan_in.Goals as goal

pub returns-in-Ok-clause-found : goal.returns-in-Ok-clause-found
returns-in-Ok-clause-found c = scan_found c.in-Ok.event c.args.line.now c.in-Ok.ensures.found c.scan_number.result c.scan_number.ensures.found

pub returns-in-Ok-clause-none : goal.returns-in-Ok-clause-none
returns-in-Ok-clause-none c = scan_none c.in-Ok.event c.args.line.now c.in-Ok.ensures.found c.scan_number.result c.scan_number.ensures.none

pub returns-in-Err-clause-none : goal.returns-in-Err-clause-none
returns-in-Err-clause-none c = no_event_scan c.args.line.now c.in-Err.ensures.none
