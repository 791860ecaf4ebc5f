use Rattle.std.proofs.Common.{sym, ◌∙◌, ap}
use Rattle.bench_base.specs.declared.events.Reply.TheVariants as r
use Rattle.bench_base.specs.Rules.{todays_rules}
use Rattle.psd_state.specs.Acts.{ask_act, resend_act, ack_act}
use Rattle.bench_abstraction.specs.declared.calls.DeviceCall.{DeviceCall}
use Rattle.bench_abstraction.specs.Devices.{device_act, number_in, next_number}
use Rattle.call_handlers.proofs.Sends.{says_numbered}
use Rattle.trace_device.proofs.acts.device_act.Goals as goal

pub returns-in-Ask : goal.returns-in-Ask
returns-in-Ask c =
    let d = c.args.device in
    let s = c.args.state.now in
    let b = c.in-Ask in
    c.said_act-in-Ask.ensures ∙ sym (says_numbered (r.DevRefused d) (λ i. r.SentRequest d i b.call.message) (next_number s) (ask_act todays_rules d b.call.kind b.call.customer b.call.amount c.args.day s))
    ∙ ap (λ (a : DeviceCall). device_act d c.args.day a s) (sym b.is)

pub returns-in-Resend : goal.returns-in-Resend
returns-in-Resend c =
    let d = c.args.device in
    let s = c.args.state.now in
    let b = c.in-Resend in
    c.said_act-in-Resend.ensures ∙ sym (says_numbered (r.DevRefused d) (λ i. r.SentRequest d i b.call.message) (next_number s) (resend_act s)) ∙ ap (λ (a : DeviceCall). device_act d c.args.day a s) (sym b.is)

pub returns-in-Ack : goal.returns-in-Ack
returns-in-Ack c =
    let d = c.args.device in
    let s = c.args.state.now in
    let b = c.in-Ack in
    c.said_act-in-Ack.ensures ∙ sym (says_numbered (r.DevRefused d) (λ i. r.SentDone d i b.call.message) (number_in s) (ack_act s)) ∙ ap (λ (a : DeviceCall). device_act d c.args.day a s) (sym b.is)
