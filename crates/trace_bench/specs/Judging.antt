-- What the line of the report shows about an event, by the ledger.
use Rattle.std.specs.Prelude.{◌≡◌, ◌≢◌, ℕ, ℤ, List, [], length, take, not, ◌&&◌, is_some, if◌then◌else◌, Option, Result, Ok, Err}
use Rattle.bench_base.specs.declared.{events.Event.Event, events.Reply.Reply}
use Rattle.bench_base.specs.Events.{takes_rates}
use Rattle.bench_base.specs.Replies.{ReplyClass, Did, class_of, fails_to_read}
use Rattle.bench_base.specs.Rules.{todays_rules, editions}
use Rattle.bench_base.specs.Ledger.{Ledger, day_in}
use Rattle.ledger_moves.specs.Tariffs.{Tariff}
use Rattle.ledger_moves.specs.Moves.{Moves, answer, entries}
use Rattle.ledger_moves.specs.Histories.{History, Unforged}
use Rattle.bench_abstraction.specs.Tariff.{IsOfTexts}
use Rattle.script_text.specs.Texts.{text_of, IsWholeReply}
use Rattle.trace_bench.specs.declared.{judging.Heard.Heard, judging.Judged.Judged, judging.Finding.Finding, judging.Finding.TheVariants.Wrong, judging.Finding.TheVariants.Memory}
use Rattle.node_turns.specs.declared.turn.Turn.{Turn}
use Rattle.trace_views.specs.Verdicts.{Adds, turn_at}
use Rattle.trace_bench.specs.Seeing.{Audit, Sees, SeesRun, sending}

-- what an event takes of the rates that are left: a `rates` on a day at most 65,537 bytes, unless they can't be read; any other nothing
abbrev pub taken_by : Event → Option ℤ → ReplyClass → List ℕ → List ℕ
taken_by e today told left = if takes_rates e && (is_some today && not (fails_to_read told)) then take 65537 left else []

-- At ledger H, where these rates are left, the report has this line for this event.
module _ (τ : Tariff) (H : Ledger) (e : Event) (left line : List ℕ) where
  -- what the event takes where it gets this reply
  abbrev pub text_with : Reply → List ℕ
  text_with reply = taken_by e (day_in H) (class_of reply) left

  -- the event may get this reply there
  abbrev pub MayGet : Reply → Type 0
  MayGet reply = Moves τ todays_rules H e (text_with reply) reply

  -- the ledger that it leaves then
  abbrev pub ledger_with : Reply → Ledger
  ledger_with reply = entries τ todays_rules H e (text_with reply) reply

  -- the line is that of this reply, its numbers are in range, the event may get it, and P holds of the ledger that it leaves
  pub record IsToldBy (P : Ledger → Type 0) (reply : Reply) : Type 0 where
    pub text : text_of reply ≡ line
    pub whole : IsWholeReply reply
    pub moves : MayGet reply
    pub sees : P (ledger_with reply)

  -- the line is that of no reply which the event may get; this was the answer, and P holds of this ledger
  pub record IsUntoldBy (P : Ledger → Type 0) (due : Reply) : Type 0 where
    pub due_is : due ≡ answer τ todays_rules H e (taken_by e (day_in H) Did left)
    pub none : (reply : Reply) → MayGet reply → text_of reply ≢ line
    pub rests : P H

  -- the auditor has what the ledger shows then, or what it had
  abbrev pub IsTold : Audit → Reply → Type 0
  IsTold a reply = IsToldBy (Sees a) reply

  abbrev pub IsUntold : Audit → Reply → Type 0
  IsUntold a due = IsUntoldBy (Sees a) due

  -- the turn of the event, if it gets this reply
  abbrev pub turn_with : Reply → Turn
  turn_with reply = turn_at τ H e (text_with reply) reply

-- At ledger H, where these rates are left, the report has this line for this event; `IsOf` says how a turn is reported.
module _ {T : Type 0} (IsOf : T → Turn → Type 0) (τ : Tariff) (H : Ledger) (e : Event) (left line : List ℕ) where
  -- what is judged of the line: the turn, how much of the rates was taken, what is sent next, and what is added to what was sent and released in all
  -- runs
  abbrev pub IsHeard : Audit → Result (Heard T) Finding → Type 0
  IsHeard a (Ok heard) = (reply : Reply) × IsToldBy τ H e left line (SeesRun (sending heard.sent a)) reply
      × (heard.taken ≡ length (text_with τ H e left line reply)) × Adds heard.sent heard.released H (ledger_with τ H e left line reply)
      × IsOf heard.told (turn_with τ H e left line reply)
  IsHeard a (Err (Wrong due)) = IsUntoldBy τ H e left line (SeesRun a) due
  IsHeard a (Err Memory) = Unit {0}

  -- the same, where the message was sent
  abbrev pub IsJudged : Audit → Result (Judged T) Finding → Type 0
  IsJudged a (Ok judged) = (reply : Reply) × IsTold τ H e left line a reply × (judged.taken ≡ length (text_with τ H e left line reply))
      × IsOf judged.told (turn_with τ H e left line reply)
  IsJudged a (Err (Wrong due)) = IsUntold τ H e left line a due
  IsJudged a (Err Memory) = Unit {0}

-- P at each history that the auditor has, if the event contains nothing forged at it, by a tariff of texts
abbrev pub AtEach : Audit → Event → (Tariff → Ledger → Type 0) → Type 0
AtEach a e P = (τ : Tariff) (H : Ledger) → IsOfTexts τ → History τ editions H → Unforged e H → Sees a H → P τ H

-- the same, whatever is kept of all runs
abbrev pub AtEachRun : Audit → Event → (Tariff → Ledger → Type 0) → Type 0
AtEachRun a e P = (τ : Tariff) (H : Ledger) → IsOfTexts τ → History τ editions H → Unforged e H → SeesRun a H → P τ H
