use Rattle.std.proofs.Common.{rules, ◌≡◌, subst, sym}
use Rattle.bench_base.specs.declared.words.Node.{Node}
use Rattle.psd_state.specs.Seen.{counting}
use Rattle.trace_bench.specs.Seeing.{audit_of}
use Rattle.trace_bench.specs.Telling.{OfDevice, count_in}
use Rattle.trace_device.specs.Records.{view_of}
use Rattle.trace_bench.proofs.Shown.{device_shown}
use Rattle.trace_bench.proofs.auditor.Auditor.commits_of.Goals as goal

by_view : (c : goal.After-commits) → OfDevice c.in-Device.device (audit_of c.args.self.now) (λ s. c.commits.result ≡ counting.count (view_of s).state)
by_view c = search rules

pub returns-in-Device-clause-by_ledger : goal.returns-in-Device-clause-by_ledger
returns-in-Device-clause-by_ledger c H sees =
    subst (λ (n : Node). c.commits.result ≡ count_in n H) (sym c.in-Device.is) (device_shown (audit_of c.args.self.now) H sees c.in-Device.device (λ v. counting.count v.state) c.commits.result (by_view c))
