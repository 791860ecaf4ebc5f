-- The acts of a device's calls: which replies they may get.
use Rattle.std.proofs.Common.{◌≡◌, ℕ, ℤ, Option, refl}
use Rattle.bench_base.specs.Replies.{Did, class_of}
use Rattle.bench_base.specs.Rules.{todays_rules}
use Rattle.node_acts.specs.Said.{IsPlain}
use Rattle.ledger_moves.specs.Moves.{debit_by}
use Rattle.psd_state.specs.State.{State}
use Rattle.psd_state.specs.Acts.{make_act, debit_act, ask_act, resend_act, ack_act, status_act, take_act}
use Rattle.psd_state.specs.declared.acts.Taken.{Taken}
use Rattle.psd_state.specs.declared.acts.Taken.TheVariants as taken
use Rattle.bench_abstraction.specs.declared.{calls.DeviceCall.DeviceCall, calls.DeviceCall.TheVariants.Make, calls.DeviceCall.TheVariants.Debit, calls.DeviceCall.TheVariants.Ask, calls.DeviceCall.TheVariants.Resend, calls.DeviceCall.TheVariants.Ack, calls.DeviceCall.TheVariants.Status, calls.DeviceCall.TheVariants.Take}
use Rattle.bench_abstraction.specs.Devices.{device_act, took}
use Rattle.trace_nodes.proofs.Acts.{plain_says}

took_did : (d k : ℕ) (a : Taken) → class_of (took d k a).reply ≡ Did
took_did d k (taken.Applied n v) = refl
took_did d k (taken.Released piece x again) = refl

pub call_plain : (d : ℕ) (today : ℤ) (call : DeviceCall) (s : Option State) → IsPlain (device_act d today call s)
call_plain d today (Make c) s = plain_says _ _ (λ x. refl) (λ a. refl) (make_act d c.key s)
call_plain d today (Debit c) s = plain_says _ _ (λ x. refl) (λ a. refl) (debit_act todays_rules d (debit_by d c.piece c.postage c.class) today s)
call_plain d today (Ask c) s = plain_says _ _ (λ x. refl) (λ a. refl) (ask_act todays_rules d c.kind c.customer c.amount today s)
call_plain d today (Resend c) s = plain_says _ _ (λ x. refl) (λ a. refl) (resend_act s)
call_plain d today (Ack c) s = plain_says _ _ (λ x. refl) (λ a. refl) (ack_act s)
call_plain d today Status s = plain_says _ _ (λ x. refl) (λ a. refl) (status_act today s)
call_plain d today (Take c) s = plain_says _ _ (λ x. refl) (took_did d c.message) (take_act todays_rules d c.bytes today s)
