-- What a device sends is said by its number.
use Rattle.std.proofs.Common.{◌≡◌, ℕ, List, refl}
use Rattle.bench_base.specs.declared.{refusals.DevRefusal.DevRefusal, events.Reply.Reply}
use Rattle.node_acts.specs.declared.act.Act.TheVariants.{Refuse, Tell, Commits}
use Rattle.node_acts.specs.Said.{saying, sends}
use Rattle.psd_state.specs.Acts.{DeviceAct}
use Rattle.call_handlers.specs.Numbers.{under_number}

pub says_numbered : (refusal : DevRefusal → Reply) (reply : ℕ → Reply) (n : ℕ) (act : DeviceAct (List ℕ))
    → saying refusal (λ note. sends (reply n) note) act ≡ saying refusal (λ a. sends (reply a.number) a.note) (under_number n act)
says_numbered refusal reply n (Refuse x) = refl
says_numbered refusal reply n (Tell note) = refl
says_numbered refusal reply n (Commits c s note) = refl
