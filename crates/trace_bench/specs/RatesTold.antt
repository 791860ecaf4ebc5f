-- What a line of the report shows about a `rates` on a day, by the text that it takes.
use Rattle.std.specs.Prelude.{◌≡◌, ◌≢◌, ℕ, List, [], length, take, Option, Some, None, Result, Ok, Err}
use Rattle.bench_base.specs.declared.events.Reply.{Reply}
use Rattle.bench_base.specs.declared.events.Reply.TheVariants as r
use Rattle.host_rates.specs.declared.reading.RatesFail.{RatesFail}
use Rattle.host_rates.specs.declared.reading.RatesFail.TheVariants as fail
use Rattle.host_rates.specs.Tables.{RateTable}
use Rattle.host_rates.specs.Answers.{answer}
use Rattle.script_text.specs.Texts.{text_of, IsWholeReply}
use Rattle.bench.specs.Outside.{rates_turn, rates_after}
use Rattle.node_turns.specs.Turns.{turn_of}
use Rattle.node_turns.specs.declared.turn.Turn.{Turn}
use Rattle.trace_bench.specs.declared.{judging.Judged.Judged, judging.Finding.Finding, judging.Finding.TheVariants.Wrong, judging.Finding.TheVariants.Memory}

-- so much is read of them
abbrev pub text_of_rates : List ℕ → List ℕ
text_of_rates left = take 65537 left

-- the answer to a text that reads so; lack of memory has none
abbrev pub reply_to : Result RateTable RatesFail → Option Reply
reply_to (Ok x) = Some (r.Rates (length x.classes) x.zones)
reply_to (Err (fail.Length n)) = Some r.RatesLength
reply_to (Err fail.Toml) = Some r.RatesToml
reply_to (Err fail.Form) = Some r.RatesForm
reply_to (Err (fail.Memory w)) = None

-- what is answered to a text
abbrev pub due_of : List ℕ → Reply
due_of text = (rates_turn text (answer text)).reply

-- the source failed; or the text was read, and is answered so; and this is the turn
pub data ReadsSo (left line : List ℕ) (old new : Option RateTable) (taken : ℕ) (turn : Turn) : Type 0 where
  failed : text_of r.RatesFault ≡ line → taken ≡ 0 → new ≡ old → turn ≡ turn_of r.RatesFault [] → ReadsSo left line old new taken turn
  read : text_of (due_of (text_of_rates left)) ≡ line → IsWholeReply (due_of (text_of_rates left)) → taken ≡ length (text_of_rates left)
      → new ≡ rates_after old (answer (text_of_rates left)) → turn ≡ rates_turn (text_of_rates left) (answer (text_of_rates left))
      → ReadsSo left line old new taken turn

-- the line is that of neither
pub record ReadsNever (left line : List ℕ) (old new : Option RateTable) (due : Reply) : Type 0 where
  pub due_is : due ≡ due_of (text_of_rates left)
  pub other : text_of due ≢ line
  pub no_fault : text_of r.RatesFault ≢ line
  pub keeps : new ≡ old

abbrev pub IsToldOfRates : {T : Type 0} → (T → Turn → Type 0) → List ℕ → List ℕ → Option RateTable → Option RateTable
    → Result (Judged T) Finding → Type 0
IsToldOfRates IsOf left line old new (Ok judged) = (turn : Turn) × ReadsSo left line old new judged.taken turn × IsOf judged.told turn
IsToldOfRates IsOf left line old new (Err (Wrong due)) = ReadsNever left line old new due
IsToldOfRates IsOf left line old new (Err Memory) = Unit {0}
