use Rattle.std.proofs.Common.{rules, ◌≡◌, ◌∙◌}
use Rattle.std.specs.Prelude.{is_some}
use Rattle.trace_bench.specs.Seeing.{audit_of}
use Rattle.trace_bench.specs.Telling.{OfDevice}
use Rattle.trace_device.specs.Records.{view_of}
use Rattle.trace_bench.proofs.Shown.{is_some_map, device_shown}
use Rattle.trace_bench.proofs.auditor.Auditor.is_made.Goals as goal

by_view : (c : goal.After-is_some) → OfDevice c.args.device (audit_of c.args.self.now) (λ s. c.is_some.result ≡ is_some (view_of s).state.state)
by_view c = search rules

pub returns-clause-by_ledger : goal.returns-clause-by_ledger
returns-clause-by_ledger c H sees = device_shown (audit_of c.args.self.now) H sees c.args.device (λ v. is_some v.state.state) c.is_some.result (by_view c) ∙ is_some_map _ _
