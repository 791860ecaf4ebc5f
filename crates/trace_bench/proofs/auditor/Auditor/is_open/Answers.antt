use Rattle.std.proofs.Common.{rules, ◌≡◌, subst, sym, ◌∙◌}
use Rattle.std.specs.Prelude.{is_some}
use Rattle.bench_base.specs.declared.words.Node.{Node}
use Rattle.bench_base.specs.Ledger.{torn_of}
use Rattle.trace_bench.specs.Seeing.{audit_of}
use Rattle.trace_bench.specs.Telling.{OfDevice}
use Rattle.trace_device.specs.Records.{view_of}
use Rattle.trace_bench.proofs.Shown.{is_some_map, device_shown}
use Rattle.trace_bench.proofs.auditor.Auditor.is_open.Goals as goal

by_open : (c : goal.After-is_some) → OfDevice c.in-Device.device (audit_of c.args.self.now) (λ s. c.is_some.result ≡ is_some s.open)
by_open c = search rules

by_view : (c : goal.After-is_some) → OfDevice c.in-Device.device (audit_of c.args.self.now) (λ s. c.is_some.result ≡ is_some (view_of s).next)
by_view c = let of = by_open c in record { place = of.place; is_device = of.is_device; traced = of.traced; at = of.at; holds = of.holds ∙ sym (is_some_map _ of.traced.open) }

pub returns-in-Device-clause-by_ledger : goal.returns-in-Device-clause-by_ledger
returns-in-Device-clause-by_ledger c H sees =
    subst (λ (n : Node). c.is_some.result ≡ is_some (torn_of n H)) (sym c.in-Device.is)
    (device_shown (audit_of c.args.self.now) H sees c.in-Device.device (λ v. is_some v.next) c.is_some.result (by_view c) ∙ is_some_map _ _)
