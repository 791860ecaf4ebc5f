-- What is heard of an event by its line.
use Rattle.std.specs.Prelude.{◌≡◌, ◌≢◌, List, ℕ, None, Option, Result, Ok, Err}
use Rattle.bench_base.specs.Ledger.{Ledger}
use Rattle.bench_base.specs.declared.events.Reply.{Reply}
use Rattle.node_turns.specs.Turns.{turn_of}
use Rattle.node_turns.specs.declared.turn.Turn.{Turn}
use Rattle.script_text.specs.Texts.{text_of, IsWholeReply}
use Rattle.trace_bench.specs.declared.{noting.Noted.Noted, judging.Heard.Heard, judging.Judged.Judged, judging.Finding.Finding, judging.Finding.TheVariants.Wrong, judging.Finding.TheVariants.Memory}
use Rattle.trace_seen.specs.Marks.{Ticks}
use Rattle.trace_bench.specs.Debits.{IsLastOf}
use Rattle.trace_bench.specs.Known.{Learns}
use Rattle.trace_bench.specs.Noting.{IsNoted}
use Rattle.trace_bench.specs.Seeing.{Audit, sending}

-- of an event that took so much of the rates and was for this device, if it was for one
abbrev pub heard_of : {T : Type 0} → Noted T → ℕ → Option ℕ → Heard T
heard_of noted taken device =
    record { told = noted.told; sent = noted.sent; released = noted.released; taken = taken; device = device }

-- the line beside the one answer to an event, which adds these entries
abbrev pub IsPlainly : {T : Type 0} → (T → Turn → Type 0) → Reply → Ledger → List ℕ → Result (Heard T) Finding → Type 0
IsPlainly {T} IsOf due adds line (Ok heard) =
    (text_of due ≡ line) × IsWholeReply due × (noted : Noted T) × IsNoted IsOf noted (turn_of due adds) × (heard ≡ heard_of noted 0 None)
IsPlainly IsOf due adds line (Err (Wrong x)) = (x ≡ due) × (text_of due ≢ line)
IsPlainly IsOf due adds line (Err Memory) = ⊥

-- of a node, which is this device, if it is one
abbrev pub heard_of_node : {T : Type 0} → Option ℕ → Result (Noted T) Reply → Result (Heard T) Finding
heard_of_node device (Ok noted) = Ok (heard_of noted 0 device)
heard_of_node device (Err due) = Err (Wrong due)

abbrev pub heard_of_rates : {T : Type 0} → Result (Judged (Noted T)) Finding → Result (Heard T) Finding
heard_of_rates (Ok judged) = Ok (heard_of judged.told judged.taken None)
heard_of_rates (Err finding) = Err finding

-- the message was sent, it and the mark are kept, and the mark of the device's last debit is recorded as debited, if it was seen; or there was no
-- memory for it
abbrev pub SendsHeard : {T : Type 0} → Heard T → Audit → Audit → Result (Judged T) Finding → Type 0
SendsHeard heard old new (Ok judged) =
    (new ≡ record (sending heard.sent old) { known = new.known }) × Learns heard.sent heard.released old.known new.known
    × (judged ≡ record { told = heard.told; taken = heard.taken }) × Ticks (λ mark. IsLastOf heard.device old.devices mark) old.known.seen new.known.seen
SendsHeard heard old new (Err (Wrong due)) = ⊥
SendsHeard heard old new (Err Memory) = Unit {0}
