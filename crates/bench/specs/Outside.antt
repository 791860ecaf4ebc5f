-- The two streams of a bench: the rates that it reads and the printer.
use Rattle.std.specs.Prelude.{◌≡◌, ◌≢◌, ◌≤◌, ◌<◌, ℕ, ℤ, List, [], ◌∷◌, length, Option, Some, None, IsSome, Result, Ok, Err}
use Rattle.std.specs.Io.KnownBytes.{Consumes}
use Rattle.bench_base.specs.Causes.{Rose}
use Rattle.bench_base.specs.declared.stream.Source as source
use Rattle.bench_base.specs.declared.stream.Sink as sink
use Rattle.bench_base.specs.declared.ledger.Entry.TheVariants as entry
use Rattle.bench_base.specs.declared.events.Event.{Event}
use Rattle.bench_base.specs.declared.events.Event.TheVariants as ev
use Rattle.bench_base.specs.declared.events.Reply.TheVariants as r
use Rattle.host_rates.specs.declared.reading.RatesFail.{RatesFail}
use Rattle.host_rates.specs.declared.reading.RatesFail.TheVariants as fail
use Rattle.host_rates.specs.Tables.{RateTable}
use Rattle.host_rates.specs.Answers.{answer}
use Rattle.text_streams.specs.Texts.{TakesUpTo}
use Rattle.node_turns.specs.declared.turn.Turn.{Turn}
use Rattle.node_turns.specs.Printing.{Printer, printer_of}
use Rattle.node_turns.specs.Turns.{turn_of}

-- the bytes that are left of a source, if they are known, and its faults
pub record Feed : Type 0 where
  pub left : Option (List ℕ)
  pub faults : ℕ

abbrev pub feed_of : {R : Type 0} → source.Ghosts R → R → Feed
feed_of g source = record { left = g.left source; faults = g.faults source }

-- the two streams: what is left of the rates, and what the printer took
pub record Outside : Type 0 where
  pub rates : Feed
  pub printer : Printer

abbrev pub beside : Feed → Printer → Outside
beside feed printer = record { rates = feed; printer = printer }

abbrev pub outside : {R P : Type 0} → source.Ghosts R → R → sink.Ghosts P → P → Outside
outside s rates p printer = beside (feed_of s rates) (printer_of p printer)

-- == what is read of the rates ==

-- what is reported of a text that was read, and the rates that are kept then
abbrev pub rates_turn : List ℕ → Result RateTable RatesFail → Turn
rates_turn text (Ok x) = turn_of (r.Rates (length x.classes) x.zones) (entry.Rates text ∷ [])
rates_turn text (Err (fail.Length n)) = turn_of r.RatesLength []
rates_turn text (Err fail.Toml) = turn_of r.RatesToml []
rates_turn text (Err fail.Form) = turn_of r.RatesForm []
rates_turn text (Err (fail.Memory x)) = turn_of r.RatesForm []

abbrev pub rates_after : Option RateTable → Result RateTable RatesFail → Option RateTable
rates_after kept (Ok x) = Some x
rates_after kept (Err x) = kept

-- A `rates` on a day: its source failed, and some bytes were taken, or the text was taken whole, and is answered by what it reads as.
pub data ReadsText (text : List ℕ) (turn : Turn) (kept kept_now : Option RateTable) (before now : Feed) : Type 0 where
  failed : turn ≡ turn_of r.RatesFault [] → kept_now ≡ kept → Consumes before.left now.left text → length text < 65537 → Rose before.faults now.faults
      → ReadsText text turn kept kept_now before now
  read : TakesUpTo 65537 text before.left now.left → turn ≡ rates_turn text (answer text) → kept_now ≡ rates_after kept (answer text)
      → ReadsText text turn kept kept_now before now

-- nothing was read, and the rates are kept
pub record ReadsNothing (text : List ℕ) (kept kept_now : Option RateTable) (before now : Feed) : Type 0 where
  pub nothing : text ≡ []
  pub keeps : kept_now ≡ kept
  pub rests : now ≡ before

-- what the event takes of the rates: a `rates` on a day one text, and every other event nothing
pub record ReadsRates (e : Event) (text : List ℕ) (turn : Turn) (today : Option ℤ) (kept kept_now : Option RateTable) (before now : Feed) : Type 0 where
  pub reads : e ≡ ev.Rates → IsSome today → ReadsText text turn kept kept_now before now
  pub no_day : today ≡ None → ReadsNothing text kept kept_now before now
  pub others : e ≢ ev.Rates → ReadsNothing text kept kept_now before now
  pub later : before.faults ≤ now.faults

-- for lack of memory the event did nothing but to read some of the rates
pub record WantsMemory (e : Event) (today : Option ℤ) (before now : Outside) : Type 0 where
  pub event : e ≡ ev.Rates
  pub dated : IsSome today
  pub text : List ℕ
  pub taken : Consumes before.rates.left now.rates.left text
  pub within : length text ≤ 65537
  pub later : before.rates.faults ≤ now.rates.faults
  pub printer : now.printer ≡ before.printer
