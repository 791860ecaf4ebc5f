-- The turns: what each draws, the events of it, and what it leaves. A row for each kind of turn.
use Rattle.std.specs.Prelude.{ℕ, ◌+◌, ◌*◌, ◌<◌, ◌%◌, ◌^◌, List, [], ◌∷◌, ◌==◌, if◌then◌else◌}
use Rattle.bench_base.specs.declared.words.Kind.TheVariants as kind
use Rattle.bench_base.specs.declared.{words.Node.TheVariants.Device, events.Event.Event}
use Rattle.bench_base.specs.declared.events.Event.TheVariants as ev
use Rattle.psd_wire.specs.declared.message.DebitMsg.{DebitMsg}
use Rattle.psd_wire.specs.declared.message.Message.TheVariants as m
use Rattle.psd_wire.specs.Grammar.{body}
use Rattle.generator.specs.declared.{turns.Counts.Counts, turns.Turn.Turn, turns.Turn.TheVariants.Scan, turns.Turn.TheVariants.Cut, turns.Turn.TheVariants.Reset}
use Rattle.generator.specs.Draws.{draw}

-- the kind of the turn that is drawn from x
abbrev pub kind_from : ℕ → ℕ
kind_from x = draw 1 x % 4

-- a postage of 1 to 10 mills
abbrev pub postage_from : ℕ → ℕ
postage_from x = 1 + draw 2 x % 10

-- the turn that is drawn from x: kinds 0 and 1, kind 2, kind 3
unfoldable pub turn_from : ℕ → Turn
turn_from x =
    if kind_from x == 2 then Cut (postage_from x) (draw 3 x % 6) (draw 4 x % 300) (draw 5 x % 256)
    else if kind_from x == 3 then Reset
    else Scan (postage_from x)

-- how many draws a turn takes
abbrev pub draws_of : Turn → ℕ
draws_of (Scan postage) = 2
draws_of (Cut postage calls keep byte) = 5
draws_of Reset = 1

-- a debit of class 1, as device 1 is asked for it
abbrev pub debit_of : ℕ → ℕ → DebitMsg
debit_of piece postage = record { device = 1; piece = piece; postage = postage; class = 1 }

-- its message is given to the device
unfoldable pub gives : ℕ → ℕ → Event
gives piece postage = ev.Give (Device 1) (body (m.Debit (debit_of piece postage)))

-- the events of a turn, by what there was before it: pieces and scans are counted from 1, messages from 0
abbrev pub events_of : Counts → Turn → List Event
events_of c (Scan postage) =
    gives (c.pieces + 1) postage
    ∷ ev.ScanMsg (c.scans + 1) c.messages
    ∷ []
events_of c (Cut postage calls keep byte) =
    ev.Cut (Device 1) calls keep byte
    ∷ gives (c.pieces + 1) postage
    ∷ ev.On (Device 1)
    ∷ gives (c.pieces + 1) postage
    ∷ []
events_of c Reset =
    ev.Ask 1 kind.Reset 0 10000
    ∷ ev.Deliver c.messages
    ∷ ev.Deliver c.messages
    ∷ ev.Deliver (c.messages + 1)
    ∷ ev.Deliver (c.messages + 2)
    ∷ []

-- what there is after a turn
abbrev pub counted : Counts → Turn → Counts
counted c (Scan postage) = record { pieces = c.pieces + 1; messages = c.messages + 1; scans = c.scans + 1 }
counted c (Cut postage calls keep byte) = record { pieces = c.pieces + 1; messages = c.messages + 1; scans = c.scans }
counted c Reset = record { pieces = c.pieces; messages = c.messages + 3; scans = c.scans }

-- so many turns more keep each count within 32 bits
pub record HasRoom (turns : ℕ) (c : Counts) : Type 0 where
  pub pieces : c.pieces + turns < 2 ^ 32
  pub messages : c.messages + turns * 3 < 2 ^ 32
  pub scans : c.scans + turns < 2 ^ 32
