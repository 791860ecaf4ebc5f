use Rattle.std.proofs.Common.{sym, subst}
use Rattle.bench_base.specs.Table.{IsBytes}
use Rattle.verifier.specs.Acts.{scan_act}
use Rattle.verifier.proofs.LawActs.{leaves}
use Rattle.call_handlers.proofs.Changed.{put_fit}
use Rattle.call_handlers.proofs.verifier_calls.ScanCallCallVerifierCalleeChange.act.Goals as goal

pub returns-clause-makes : goal.returns-clause-makes
returns-clause-makes g c asked =
    let q = c.args.self.now in
    let bytes = c.as_slice.result.now in
    let rows = g.R.RowsOf.rows c.args.held.now in
    put_fit rows (scan_act q.number bytes c.args.callee.now.day rows) c.scanning.ensures.act
    ((leaves rows c.scanning.ensures.sound).scanned q.number bytes c.args.callee.now.day asked.0 (subst IsBytes (sym c.as_slice.ensures) asked.1))
