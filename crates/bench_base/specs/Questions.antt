-- What is asked of one event or one reply.
use Rattle.std.specs.Prelude.{◌≡◌, ◌⊎◌, ℕ, Bool, List}
use Rattle.bench_base.specs.declared.{events.Event.Event, events.Reply.Reply}
use Rattle.bench_base.specs.declared.events.Event.TheVariants as ev
use Rattle.bench_base.specs.declared.events.Reply.TheVariants as r

-- the event is a scan under this number
abbrev pub IsScanUnder : ℕ → Event → Type 0
IsScanUnder n e = ((k : ℕ) × (e ≡ ev.ScanMsg n k)) ⊎ ((bytes : List ℕ) × (e ≡ ev.ScanHex n bytes))

-- the verifier accepted a piece, now or before
abbrev pub IsAccepted : Reply → Type 0
IsAccepted reply = (d p n : ℕ) × (again : Bool) × (reply ≡ r.Accepted d p n again)

-- the message for a job was sent
abbrev pub IsSentDebit : Reply → Type 0
IsSentDebit reply = (job message : ℕ) × (reply ≡ r.SentDebit job message)
