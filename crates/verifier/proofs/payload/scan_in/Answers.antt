use Rattle.verifier.proofs.Laid.{scan_none, scan_some}
use Rattle.verifier.proofs.payload.scan_in.Goals as goal

pub returns-then-scan-eq0 : goal.returns-then-scan-eq0
returns-then-scan-eq0 c = scan_none c.args.payload.now c.args.place c.u32_at-scan.result c.requires c.u32_at-scan.ensures c.if-scan-eq0.true

pub returns-else-scan-eq0 : goal.returns-else-scan-eq0
returns-else-scan-eq0 c = scan_some c.args.payload.now c.args.place c.u32_at-scan.result c.requires c.u32_at-scan.ensures c.if-scan-eq0.false
