use Rattle.std.proofs.Common.{rules, ◌≡◌, ap, ◌∙◌}
use Rattle.trace_centre.specs.Cells.{cells_of}
use Rattle.trace_bench.specs.Seeing.{audit_of}
use Rattle.trace_bench.specs.Telling.{OfDevice, reconcile_by, device_in}
use Rattle.trace_device.specs.Records.{view_of}
use Rattle.trace_bench.proofs.Shown.{device_shown}
use Rattle.trace_bench.proofs.auditor.Auditor.reconcile_of.Goals as goal

by_view : (c : goal.After-compared) → OfDevice c.args.device (audit_of c.args.self.now)
    (λ s. c.compared.result ≡ reconcile_by c.args.device (view_of s).state (cells_of c.args.self.now.centre.record))
by_view c = search rules

pub returns-clause-by_ledger : goal.returns-clause-by_ledger
returns-clause-by_ledger c H sees =
    let d = c.args.device in
    device_shown (audit_of c.args.self.now) H sees d (λ v. reconcile_by d v.state (cells_of c.args.self.now.centre.record)) c.compared.result (by_view c)
    ∙ ap (λ v. reconcile_by d (device_in d H) v.state) sees.run.centre
