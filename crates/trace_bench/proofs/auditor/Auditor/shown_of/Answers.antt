use Rattle.std.proofs.Common.{◌≡◌, ◌-◌}
use Rattle.trace_bench.specs.Seeing.{audit_of}
use Rattle.trace_bench.specs.Telling.{OfDevice, shown_by}
use Rattle.trace_device.specs.Records.{view_of}
use Rattle.trace_bench.proofs.Shown.{device_shown}
use Rattle.trace_bench.proofs.auditor.Auditor.shown_of.Goals as goal

by_view : (c : goal.After-shown) → OfDevice c.args.device (audit_of c.args.self.now) (λ s. c.shown.result ≡ shown_by c.args.day (view_of s).state)
by_view c = record { place = c.args.device - 1; is_device = c.traced_of-traced.ensures.named; traced = c.traced_of-traced.result.now; at = rw c.deref.ensures.value at c.traced_of-traced.ensures.at; holds = c.shown.ensures }

pub returns-clause-by_ledger : goal.returns-clause-by_ledger
returns-clause-by_ledger c H sees = device_shown (audit_of c.args.self.now) H sees c.args.device (λ v. shown_by c.args.day v.state) c.shown.result (by_view c)
