-- What events take as input from outside, and which streams they need.
use Rattle.std.specs.Prelude.{◌≡◌, ◌≢◌, ℕ, Ok}
use Rattle.bench_base.specs.declared.{events.Event.Event, questions.Brought.Brought, questions.Brought.TheVariants.Nothing, questions.Brought.TheVariants.Handed, questions.Brought.TheVariants.Scanned}
use Rattle.bench_base.specs.declared.events.Event.TheVariants as ev
use Rattle.bench_base.specs.Events.{brought_by}
use Rattle.psd_wire.specs.declared.message.DebitMsg.{DebitMsg}
use Rattle.psd_wire.specs.declared.message.Message.TheVariants as m
use Rattle.psd_wire.specs.Grammar.{read}

-- bytes that are handed to a node read as a Debit, and none are scanned
abbrev pub AreOnlyDebits : Brought → Type 0
AreOnlyDebits Nothing = Unit {0}
AreOnlyDebits (Handed n bytes) = (debit : DebitMsg) × (read bytes ≡ Ok (m.Debit debit))
AreOnlyDebits (Scanned bytes) = ⊥

-- the bytes that the event gives, if any, read as a Debit, and it scans none
abbrev pub GivesOnlyDebits : Event → Type 0
GivesOnlyDebits e = AreOnlyDebits (brought_by e)

-- the event takes nothing of the rates, and prints nothing
pub record NeedsNoStream (e : Event) : Type 0 where
  pub rates : e ≢ ev.Rates
  pub printer : (job : ℕ) → e ≢ ev.Print job
