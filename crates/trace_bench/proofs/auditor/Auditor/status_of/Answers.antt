use Rattle.std.proofs.Common.{rules, ◌≡◌, ◌-◌, ◌∙◌, refl, ap, subst, sym}
use Rattle.trace_bench.specs.Seeing.{audit_of}
use Rattle.bench_base.specs.declared.events.Reply.TheVariants as r
use Rattle.bench_base.specs.declared.refusals.DevRefusal.TheVariants as no
use Rattle.bench_abstraction.specs.Devices.{IsKnown}
use Rattle.trace_bench.specs.Telling.{OfDevice, status_by, done_or}
use Rattle.trace_device.specs.Records.{seen_of, view_of}
use Rattle.trace_bench.proofs.Answered.{status_answered}
use Rattle.trace_bench.proofs.Shown.{device_shown}
use Rattle.trace_bench.proofs.auditor.Auditor.status_of.Goals as goal

by_view : (c : goal.After-done) → OfDevice c.args.device (audit_of c.args.self.now) (λ s. c.done.result ≡ status_by c.args.device c.args.day (view_of s).state)
by_view c = search rules

pub returns-clause-by_ledger : goal.returns-clause-by_ledger
returns-clause-by_ledger c H sees = device_shown (audit_of c.args.self.now) H sees c.args.device (λ v. status_by c.args.device c.args.day v.state) c.done.result (by_view c)

seen_as : (c : goal.After-done) → OfDevice c.args.device (audit_of c.args.self.now) (λ s. seen_of c.traced_of-traced.result.now.record ≡ (view_of s).state)
seen_as c = record { place = c.args.device - 1; is_device = c.traced_of-traced.ensures.named; traced = c.traced_of-traced.result.now; at = rw c.deref.ensures.value at c.traced_of-traced.ensures.at; holds = refl }

pub returns-clause-answered : goal.returns-clause-answered
returns-clause-answered c τ H history sees day on =
    let a = audit_of c.args.self.now in
    let d = c.args.device in
    let known = subst IsKnown (device_shown a H sees d (λ v. v.state) (seen_of c.traced_of-traced.result.now.record) (seen_as c)) c.is_known.ensures in
    status_answered c.nodes_follow.ensures.devices τ H d c.args.day history day on c.traced_of-traced.ensures.ranged known
    ∙ ap (done_or (r.DevRefused d no.Blank)) (sym (device_shown a H sees d (λ v. status_by d c.args.day v.state) c.done.result (by_view c)))
