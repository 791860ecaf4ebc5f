use Rattle.std.proofs.Common.{sym, subst}
use Rattle.std.specs.Prelude.{IfSome}
use Rattle.bench_base.specs.declared.words.Node.TheVariants.{Device}
use Rattle.node_acts.specs.declared.asked.Asked.{Asked}
use Rattle.node_acts.specs.Plans.{IsOfNode}
use Rattle.node_acts.specs.Said.{IsPlain}
use Rattle.psd_state.specs.Seen.{counting}
use Rattle.bench_abstraction.specs.declared.calls.DeviceCall.{DeviceCall}
use Rattle.bench_abstraction.specs.Devices.{device_act, IsKnown}
use Rattle.bench_abstraction.proofs.Plans.{call_own}
use Rattle.trace_nodes.specs.TracedNodes.{view_of}
use Rattle.trace_device.specs.Records.{seen_of, HoldsAct}
use Rattle.trace_device.specs.Verdicts.{commit_in}
use Rattle.trace_device.proofs.Known.{commit_known}
use Rattle.trace_device.proofs.Plain.{call_plain}
use Rattle.trace_device.proofs.judge.judge_view.Goals as goal

pub judge_call-requires-clause-own : goal.judge_call-requires-clause-own
judge_call-requires-clause-own g c = subst (IsOfNode (Device c.args.device)) (sym c.device_act-act.ensures) (call_own c.args.device c.args.day c.in-Call.call c.args.traced.now.record.state)

pub judge_call-requires-clause-plain : goal.judge_call-requires-clause-plain
judge_call-requires-clause-plain g c = subst IsPlain (sym c.device_act-act.ensures) (call_plain c.args.device c.args.day c.in-Call.call c.args.traced.now.record.state)

pub returns-in-Call-clause-next : goal.returns-in-Call-clause-next
returns-in-Call-clause-next g c =
    let v = view_of counting seen_of c.args.traced.now in
    let holds = subst HoldsAct c.device_act-act.ensures c.holds_act.ensures in
    subst (λ (a : Asked DeviceCall). IfSome (commit_in c.args.device c.args.day a v) (λ x. IsKnown x.1)) (sym c.in-Call.is)
    (commit_known v (device_act c.args.device c.args.day c.in-Call.call c.args.traced.now.record.state) c.is_known.ensures holds)
