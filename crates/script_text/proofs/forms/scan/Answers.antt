use Rattle.script_text.proofs.LineForms.{none_of, no_scan, no_scan_msg, no_scan_hex}
use Rattle.script_text.proofs.forms.scan.Goals as goal

pub returns-then-scan-lt1 : goal.returns-then-scan-lt1
returns-then-scan-lt1 c = record { read = no_scan_msg _ _ _ c.if-scan-lt1.true c.in-Ok.ensures.found.3 }

pub returns-in_err-scan-in-Err : goal.returns-in_err-scan-in-Err
returns-in_err-scan-in-Err c =
    record { read = none_of _ _ c.from_residual.ensures.0 (no_scan _ c.in-Err.ensures.none c.in_err-scan-in-Err.ensures.none) }

pub returns-then-scan-lt1-2 : goal.returns-then-scan-lt1-2
returns-then-scan-lt1-2 c = record { read = no_scan_hex _ _ _ c.if-scan-lt1-2.true c.in_ok-scan-in-Err.ensures.found.3 }
