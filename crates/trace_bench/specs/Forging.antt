-- Whether bytes from outside are forged, by what the auditor has: the keys of its records, and what was sent and released in all runs.
use Rattle.std.specs.Prelude.{◌≡◌, ℕ, Bool, false, not, ◌&&◌, nat_le, List, Option, Some, None, option_map, Result, Ok, Err, ◌==◌, if◌then◌else◌, MatchBool}
use Rattle.bench_base.specs.declared.{words.Node.Node, words.Node.TheVariants.Device, words.Node.TheVariants.Centre, words.Node.TheVariants.Host, words.Node.TheVariants.Verifier, refusals.Unread.Unread, refusals.MarkFault.MarkFault, events.Event.Event, questions.Brought.Brought, questions.Brought.TheVariants.Nothing, questions.Brought.TheVariants.Handed, questions.Brought.TheVariants.Scanned}
use Rattle.bench_base.specs.Events.{brought_by}
use Rattle.bench_base.specs.Ledger.{Ledger}
use Rattle.bench_base.specs.Rules.{editions}
use Rattle.indicium.specs.declared.Mark.{Mark}
use Rattle.indicium.specs.Marks.{read_mark}
use Rattle.psd_wire.specs.declared.message.Message.{Message}
use Rattle.psd_wire.specs.declared.message.Message.TheVariants as m
use Rattle.psd_wire.specs.Codes.{has_code}
use Rattle.psd_wire.specs.Grammar.{read}
use Rattle.psd_state.specs.State.{State}
use Rattle.centre_ledger.specs.Books.{Books, device_at}
use Rattle.centre_ledger.specs.Seen.{books_in}
use Rattle.verifier.specs.Seen.{key_at}
use Rattle.verifier.specs.Seen as verifier
use Rattle.ledger_moves.specs.Tariffs.{Tariff}
use Rattle.ledger_moves.specs.Histories.{History, Unforged}
use Rattle.trace_device.specs.Records.{seen_of}
use Rattle.trace_centre.specs.Cells as centre_cells
use Rattle.trace_verifier.specs.Cells as verifier_cells
use Rattle.trace_bench.specs.declared.{known.ByteSet.ByteSet, known.Known.Known}
use Rattle.trace_bench.specs.Known.{has, IsAllFound, KeepsSame}
use Rattle.trace_bench.specs.Seeing.{Audit, Sees}
use Rattle.trace_bench.specs.Telling.{OfDevice}

-- the bytes have the code of this key, and are not among those that are known
abbrev pub is_unknown : List ℕ → Option (List ℕ) → ByteSet (List ℕ) → Bool
is_unknown bytes None known = false
is_unknown bytes (Some key) known = has_code key bytes && not (has bytes known)

-- a Reply to device d, under the key of its record
abbrev pub forged_reply : Option State → ℕ → List ℕ → ByteSet (List ℕ) → Result Message Unread → Bool
forged_reply state d bytes known (Ok (m.Reply p)) = (p.device == d) && is_unknown bytes (option_map (λ s. s.key) state) known
forged_reply state d bytes known (Ok (m.Request q)) = false
forged_reply state d bytes known (Ok (m.Done q)) = false
forged_reply state d bytes known (Ok (m.Release x)) = false
forged_reply state d bytes known (Ok (m.Debit q)) = false
forged_reply state d bytes known (Err x) = false

-- bytes that name device d, under the key of its row
abbrev pub forged_by : Books → ℕ → List ℕ → ByteSet (List ℕ) → Bool
forged_by b d bytes known = if nat_le 1 d && nat_le d 8 then is_unknown bytes (option_map (λ r. r.key) (device_at b d)) known else false

-- a Request or a Done
abbrev pub forged_message : Books → List ℕ → ByteSet (List ℕ) → Result Message Unread → Bool
forged_message b bytes known (Ok (m.Request q)) = forged_by b q.device bytes known
forged_message b bytes known (Ok (m.Done q)) = forged_by b q.device bytes known
forged_message b bytes known (Ok (m.Reply p)) = false
forged_message b bytes known (Ok (m.Release x)) = false
forged_message b bytes known (Ok (m.Debit q)) = false
forged_message b bytes known (Err x) = false

-- a Release, whatever its code
abbrev pub forged_release : ByteSet (List ℕ) → Result Message Unread → Bool
forged_release known (Ok (m.Release x)) = not (has x known)
forged_release known (Ok (m.Request q)) = false
forged_release known (Ok (m.Done q)) = false
forged_release known (Ok (m.Reply p)) = false
forged_release known (Ok (m.Debit q)) = false
forged_release known (Err x) = false

-- a mark, under the key under which its device is trusted
abbrev pub forged_mark : verifier.Seen → List ℕ → ByteSet (List ℕ) → Result (Mark × List ℕ) MarkFault → Bool
forged_mark s bytes known (Ok k) = is_unknown bytes (key_at s k.0.device) known
forged_mark s bytes known (Err fault) = false

-- == before it is asked ==

-- the auditor has the same: the same is kept of all runs, and everything otherwise is as it was
pub record IsSame (old new : Audit) : Type 0 where
  pub others : new ≡ record old { known = new.known }
  pub keeps : KeepsSame old.known new.known

-- whatever is asked for of these bytes is found by its hash: messages and marks where they are handed to a node, marks where they are scanned
abbrev pub AreFound : Brought → Known → Type 0
AreFound Nothing k = Unit {0}
AreFound (Handed n bytes) k = IsAllFound k.sent × IsAllFound k.released
AreFound (Scanned bytes) k = IsAllFound k.released

abbrev pub IsFoundFor : Event → Known → Type 0
IsFoundFor e k = AreFound (brought_by e) k

-- == by what the auditor has ==

-- whether bytes that are given to a node are forged: by the traced node of the device, the rows of the centre, or what was released; the verifier takes none
abbrev pub GivesForged : Audit → Node → List ℕ → Bool → Type 0
GivesForged a (Device d) bytes b = OfDevice d a (λ s. b ≡ forged_reply (seen_of s.record).state d bytes a.known.sent (read bytes))
GivesForged a Centre bytes b = b ≡ forged_message (books_in (centre_cells.cells_of a.centre.record)) bytes a.known.sent (read bytes)
GivesForged a Host bytes b = b ≡ forged_release a.known.released (read bytes)
GivesForged a Verifier bytes b = b ≡ false

-- whether these bytes are forged, by the records of the auditor and what it keeps of all runs
abbrev pub AreForged : Audit → Brought → Bool → Type 0
AreForged a Nothing b = b ≡ false
AreForged a (Handed n bytes) b = GivesForged a n bytes b
AreForged a (Scanned bytes) b = b ≡ forged_mark (verifier_cells.cells_of a.verifier.record) bytes a.known.released (read_mark bytes)

abbrev pub BringsForged : Audit → Event → Bool → Type 0
BringsForged a e b = AreForged a (brought_by e) b

-- == by the ledger ==

-- P does not hold where b is true, and holds where it is false
abbrev pub TellsNot : Bool → Type 0 → Type 0
TellsNot b P = MatchBool b (P → ⊥) P

-- P at each history that the auditor has
abbrev pub AtHistory : Audit → (Ledger → Type 0) → Type 0
AtHistory a P = (τ : Tariff) (H : Ledger) → History τ editions H → Sees a H → P H

-- whether the event contains forged bytes, at each history that the auditor has
abbrev pub TellsForged : Audit → Event → Bool → Type 0
TellsForged a e b = AtHistory a (λ H. TellsNot b (Unforged e H))
