-- Histories: the ledgers that whole events make, whatever fails, where nothing that comes from outside is forged.
use Rattle.std.specs.Prelude.{◌≡◌, ℕ, true, List, [], ◌∷◌, Some, Result, Ok, Err}
use Rattle.bench_base.specs.declared.{words.Node.Node, refusals.Unread.Unread, refusals.MarkFault.MarkFault, events.Event.Event, events.Reply.Reply, questions.Brought.Brought, questions.Brought.TheVariants.Nothing, questions.Brought.TheVariants.Handed, questions.Brought.TheVariants.Scanned}
use Rattle.bench_base.specs.declared.ledger.Entry.TheVariants as e
use Rattle.bench_base.specs.Events.{brought_by}
use Rattle.bench_base.specs.Rules.{Rules}
use Rattle.bench_base.specs.Ledger.{Ledger, counted, IsSent, IsReleased}
use Rattle.bench_base.specs.Scans.{trusted}
use Rattle.indicium.specs.declared.Mark.{Mark}
use Rattle.indicium.specs.Marks.{read_mark}
use Rattle.psd_wire.specs.declared.message.Message.{Message}
use Rattle.psd_wire.specs.declared.message.Message.TheVariants as m
use Rattle.psd_wire.specs.Grammar.{read}
use Rattle.psd_wire.specs.Codes.{has_code}
use Rattle.ledger_terms.specs.Devices.{key_of}
use Rattle.ledger_terms.specs.Centres.{registered}
use Rattle.ledger_moves.specs.Tariffs.{Tariff}
use Rattle.ledger_moves.specs.Moves.{addressee, Moves, entries}

-- what has the code of this registered device was sent
abbrev pub IsSentBy : List ℕ → ℕ → Ledger → Type 0
IsSentBy bytes d H = (x : ℕ × List ℕ) → registered d (counted H) ≡ Some x → has_code x.1 bytes ≡ true → IsSent bytes H

-- a Reply, a Request or a Done was sent before, if it has the code of the device that it names; the mark of a Release was released before, whatever its code
abbrev pub IsSentOrReleased : List ℕ → Result Message Unread → Ledger → Type 0
IsSentOrReleased bytes (Ok (m.Reply p)) H = (key : List ℕ) → key_of p.device (counted H) ≡ Some key → has_code key bytes ≡ true → IsSent bytes H
IsSentOrReleased bytes (Ok (m.Request q)) H = IsSentBy bytes q.device H
IsSentOrReleased bytes (Ok (m.Done q)) H = IsSentBy bytes q.device H
IsSentOrReleased bytes (Ok (m.Release x)) H = IsReleased x H
IsSentOrReleased bytes (Ok (m.Debit q)) H = Unit {0}
IsSentOrReleased bytes (Err x) H = Unit {0}

-- so it is of bytes that are given to the node that they are for
abbrev pub IsKnown : List ℕ → Result Message Unread → Node → Ledger → Type 0
IsKnown bytes x n H = n ≡ addressee x → IsSentOrReleased bytes x H

-- scanned bytes were released before, where they have the code of the trusted device that they name
abbrev pub IsKnownMark : List ℕ → Result (Mark × List ℕ) MarkFault → Ledger → Type 0
IsKnownMark bytes (Err fault) H = Unit {0}
IsKnownMark bytes (Ok k) H = (key : List ℕ) → trusted k.0.device (counted H) ≡ Some key → has_code key bytes ≡ true → IsReleased bytes H

-- bytes from outside are not forged
abbrev pub AreKnown : Brought → Ledger → Type 0
AreKnown Nothing H = Unit {0}
AreKnown (Handed n bytes) H = IsKnown bytes (read bytes) n H
AreKnown (Scanned bytes) H = IsKnownMark bytes (read_mark bytes) H

-- nothing that comes from outside is forged
abbrev pub Unforged : Event → Ledger → Type 0
Unforged x H = AreKnown (brought_by x) H

-- a history under these versions of the rules, the newest first: what was a history by the earlier versions is one
pub data History (τ : Tariff) : List Rules → Ledger → Type 0 where
  nothing : {ρs : List Rules} → History τ ρs []
  begins : {ρs : List Rules} {H : Ledger} → History τ ρs H → History τ ρs (e.Begin ∷ H)
  moves : {ρ : Rules} {ρs : List Rules} {H : Ledger} (x : Event) (text : List ℕ) (reply : Reply) → History τ (ρ ∷ ρs) H → Unforged x H
      → Moves τ ρ H x text reply → History τ (ρ ∷ ρs) (entries τ ρ H x text reply)
  earlier : {ρ : Rules} {ρs : List Rules} {H : Ledger} → History τ ρs H → History τ (ρ ∷ ρs) H
