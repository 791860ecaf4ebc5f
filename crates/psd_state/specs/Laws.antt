-- What one commit does to the record of a device, and how records are distinguished. The lists of commits have the newest
-- first.
use Rattle.std.specs.Prelude.{◌≡◌, ℕ, ◌+◌, ℤ, false, List, ◌∷◌, Some, None, Ok}
use Rattle.bench_base.specs.declared.{words.Kind.Kind, words.Node.TheVariants.Device, ledger.Commit.Commit, ledger.Commit.TheVariants.Made, ledger.Commit.TheVariants.Asked, ledger.Commit.TheVariants.Applied, ledger.Commit.TheVariants.Debited}
use Rattle.bench_base.specs.Nodes.{same_node, node_of}
use Rattle.bench_base.specs.Rules.{Rules}
use Rattle.psd_wire.specs.declared.{message.Request.Request, message.ReplyMsg.ReplyMsg, message.DebitMsg.DebitMsg}
use Rattle.ledger_terms.specs.Devices.{key_of, pending}
use Rattle.psd_state.specs.State.{State, Holds}
use Rattle.psd_state.specs.Answers.{made_state, ask_answer, debit_answer, apply_answer, resend_answer}
use Rattle.psd_state.specs.Payload.{bytes_of, spelled, Ranges, IsOld, ReadsAs}
use Rattle.psd_state.specs.declared.debiting.Debited.TheVariants.{New}
use Rattle.ledger_terms.specs.Rulings.{ruled_reply}
use Rattle.psd_state.specs.Records.{IsRecordOf, IsRuled, InOrder}

-- a new device has the record of its Made, whatever the other nodes did before
abbrev pub MakingStarts : Type 0
MakingStarts = (d : ℕ) (key : List ℕ) (C : List Commit) → InOrder d C → key_of d C ≡ None
    → IsRecordOf (made_state d key) d (Made d key ∷ C) × InOrder d (Made d key ∷ C)

-- where the device asks, its new record is that of the commits and the Asked
abbrev pub AskingKeeps : Type 0
AskingKeeps = (ρ : Rules) (d : ℕ) (C : List Commit) (s after : State) (kind : Kind) (customer amount : ℕ) (today : ℤ) (note : List ℕ)
    → InOrder d C → IsRecordOf s d C → ask_answer ρ s kind customer amount today ≡ Ok (after, note) → Holds after
    → IsRecordOf after d (Asked d (s.number + 1) note ∷ C) × InOrder d (Asked d (s.number + 1) note ∷ C)

-- where the device marks a new piece, its new record is that of the commits and the Debited
abbrev pub DebitingKeeps : Type 0
DebitingKeeps = (ρ : Rules) (d : ℕ) (C : List Commit) (s after : State) (c : DebitMsg) (today : ℤ) (mark : List ℕ)
    → InOrder d C → IsRecordOf s d C → debit_answer ρ s c today ≡ Ok (New after mark)
    → IsRecordOf after d (Debited d c.piece c.postage c.class today ρ.version ∷ C) × InOrder d (Debited d c.piece c.postage c.class today ρ.version ∷ C)

-- where the device applies the Reply that the centre's Ruled of what is outstanding makes, its new record is that of the
-- commits and the Applied
abbrev pub ApplyingKeeps : Type 0
ApplyingKeeps = (d : ℕ) (C : List Commit) (s after : State) (q : Request) (r : ReplyMsg)
    → InOrder d C → IsRecordOf s d C → Holds s → s.pending ≡ Some q → IsRuled d q.number r.verdict C → ruled_reply d q.number C ≡ Some r
    → apply_answer s s.pending r ≡ Ok after
    → IsRecordOf after d (Applied d q.number r.verdict ∷ C) × InOrder d (Applied d q.number r.verdict ∷ C)

-- a commit of another device or node leaves the record as it is
abbrev pub OthersKeep : Type 0
OthersKeep = (d : ℕ) (C : List Commit) (s : State) (c : Commit) → same_node (node_of c) (Device d) ≡ false → InOrder d (c ∷ C) → IsRecordOf s d C
    → IsRecordOf s d (c ∷ C)

-- a payload reads as one record at most, whatever its version
abbrev pub OneReading : Type 0
OneReading = (payload : List ℕ) (s t : State) → ReadsAs payload s → ReadsAs payload t → s ≡ t

-- records of one spelling are one record, in each version
abbrev pub OnePayload : Type 0
OnePayload = (s t : State) → Holds s → Holds t → Ranges s → Ranges t
    → (bytes_of s ≡ bytes_of t → s ≡ t) × (IsOld s → IsOld t → spelled 1 s ≡ spelled 1 t → s ≡ t)

-- what is sent again is the note of the last Asked, byte for byte
abbrev pub ResendingRepeats : Type 0
ResendingRepeats = (d n : ℕ) (C : List Commit) (s : State) (note : List ℕ) → IsRecordOf s d C → pending d C ≡ Some (n, note)
    → resend_answer s s.pending ≡ Ok note
