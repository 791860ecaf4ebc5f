use Rattle.std.proofs.Common.{ℕ, ℤ, Option, Some, None, refl, ◌≡◌}
use Rattle.std.specs.Prelude.{IfSome}
use Rattle.bench_base.specs.declared.{words.Node.TheVariants.Device, numbers.DevNo.DevNo}
use Rattle.bench_base.specs.declared.events.Reply.TheVariants as r
use Rattle.bench_base.specs.Rules.{todays_rules}
use Rattle.node_storage.specs.declared.node.Node.{Ghosts}
use Rattle.psd_state.specs.declared.record.DevRec.{DevRec}
use Rattle.psd_state.specs.State.{State}
use Rattle.psd_state.specs.Acts.{ask_act, resend_act, ack_act}
use Rattle.psd_device.specs.Boots.{IsOwn}
use Rattle.psd_device.specs.declared.node.DeviceNode.{DeviceNode}
use Rattle.psd_device.specs.contracts.kind.DeviceNodeNode.TheImpl.{ghosts}
use Rattle.bench_abstraction.specs.declared.calls.DeviceCall.TheVariants.{Make, Debit, Ask, Resend, Ack, Status, Take}
use Rattle.bench_abstraction.specs.Devices.{device_kind, device_act, number_in, next_number}
use Rattle.call_handlers.proofs.Sends.{says_numbered}
use Rattle.bench.specs.Calls.{device_call_event}
use Rattle.bench.proofs.Called.{AreActs, told_call}
use Rattle.bench.proofs.DeviceActs as acts
use Rattle.bench.proofs.device_turns.DeviceNodeTurnsDeviceCall.called.Given.{Over}
use Rattle.bench.proofs.device_turns.DeviceNodeTurnsDeviceCall.called.Goals as goal

abbrev node_of : (g : Over) → Ghosts (DeviceNode g.row.M.Denot g.M.Nv) g.row.M.Denot DevNo DevRec (Unit {0})
node_of g = ghosts g.row.M g.M.Nv g.M.Nv-dict

named : (d : ℕ) (o : Option State) → IfSome o (IsOwn d) → IfSome o (λ s. s.device ≡ d)
named d None own = tt
named d (Some s) own = own.number

acts_of : (g : Over) (d : ℕ) (today : ℤ) → AreActs (node_of g) g.M.Nv g.M.Fuse device_kind (Device d) d today (device_call_event d) (λ c. Unit {0}) (λ c k. device_act d today c k.state)
acts_of g d today = record {
  of = acts.call_of d;
  told = λ c k. acts.call_told d today c k.state;
  plan = λ c v. refl;
  commit = λ c v. refl;
  fits = λ c asked k sound. acts.call_fits (node_of g) (λ i j y is. is) d k today c k.state (named d k.state sound.own);
}

pub returns-in-Make : goal.returns-in-Make
returns-in-Make g c =
    let d = c.args.number in
    let b = c.in-Make in
    let s = c.args.self.now in
    let came = c.call_node in
    record { bytes = tt; did = told_call (acts_of g d c.args.day) (λ turn. g.T.Tell.IsOf came.result turn) b.is tt (λ same. cc) _ (came.ensures.did (λ k. device_act d c.args.day (Make b.call) k.state) refl) }

pub returns-in-Debit : goal.returns-in-Debit
returns-in-Debit g c =
    let d = c.args.number in
    let b = c.in-Debit in
    let s = c.args.self.now in
    let came = c.call_node-in-Debit in
    record { bytes = tt; did = told_call (acts_of g d c.args.day) (λ turn. g.T.Tell.IsOf came.result turn) b.is tt (λ same. cc) _ (came.ensures.did (λ k. device_act d c.args.day (Debit b.call) k.state) refl) }

pub returns-in-Ask : goal.returns-in-Ask
returns-in-Ask g c =
    let d = c.args.number in
    let b = c.in-Ask in
    let s = c.args.self.now in
    let came = c.call_node-in-Ask in
    record { bytes = tt; did = told_call (acts_of g d c.args.day) (λ turn. g.T.Tell.IsOf came.result turn) b.is tt (λ same. cc) _ (came.ensures.did (λ k. device_act d c.args.day (Ask b.call) k.state) (says_numbered (r.DevRefused d) (λ i. r.SentRequest d i b.call.message) (next_number s.state) (ask_act todays_rules d b.call.kind b.call.customer b.call.amount c.args.day s.state))) }

pub returns-in-Resend : goal.returns-in-Resend
returns-in-Resend g c =
    let d = c.args.number in
    let b = c.in-Resend in
    let s = c.args.self.now in
    let came = c.call_node-in-Resend in
    record { bytes = tt; did = told_call (acts_of g d c.args.day) (λ turn. g.T.Tell.IsOf came.result turn) b.is tt (λ same. cc) _ (came.ensures.did (λ k. device_act d c.args.day (Resend b.call) k.state) (says_numbered (r.DevRefused d) (λ i. r.SentRequest d i b.call.message) (next_number s.state) (resend_act s.state))) }

pub returns-in-Ack : goal.returns-in-Ack
returns-in-Ack g c =
    let d = c.args.number in
    let b = c.in-Ack in
    let s = c.args.self.now in
    let came = c.call_node-in-Ack in
    record { bytes = tt; did = told_call (acts_of g d c.args.day) (λ turn. g.T.Tell.IsOf came.result turn) b.is tt (λ same. cc) _ (came.ensures.did (λ k. device_act d c.args.day (Ack b.call) k.state) (says_numbered (r.DevRefused d) (λ i. r.SentDone d i b.call.message) (number_in s.state) (ack_act s.state))) }

pub returns-in-Status : goal.returns-in-Status
returns-in-Status g c =
    let d = c.args.number in
    let b = c.in-Status in
    let s = c.args.self.now in
    let came = c.call_node-in-Status in
    record { bytes = tt; did = told_call (acts_of g d c.args.day) (λ turn. g.T.Tell.IsOf came.result turn) b.is tt (λ same. cc) _ (came.ensures.did (λ k. device_act d c.args.day Status k.state) refl) }

pub returns-in-Take : goal.returns-in-Take
returns-in-Take g c =
    let d = c.args.number in
    let b = c.in-Take in
    let s = c.args.self.now in
    let came = c.call_node-in-Take in
    record { bytes = tt; did = told_call (acts_of g d c.args.day) (λ turn. g.T.Tell.IsOf came.result turn) b.is tt (λ same. cc) _ (came.ensures.did (λ k. device_act d c.args.day (Take b.call) k.state) refl) }
