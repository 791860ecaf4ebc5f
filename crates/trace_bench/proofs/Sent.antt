-- What is judged of a line, once its message is sent.
use Rattle.std.proofs.Common.{◌≡◌, ℕ, List, false, true≢false, Option, Result, Ok, Err, OnOk, is_err, sym, ◌∙◌, ap, subst}
use Rattle.bench_base.specs.declared.{events.Event.Event, events.Reply.Reply}
use Rattle.bench_base.specs.Ledger.{Ledger}
use Rattle.ledger_moves.specs.Tariffs.{Tariff}
use Rattle.psd_state.specs.State.{State}
use Rattle.node_turns.specs.declared.turn.Turn.{Turn}
use Rattle.trace_nodes.specs.declared.traced.Traced.{Traced}
use Rattle.trace_device.specs.declared.record.DeviceRecord.{DeviceRecord}
use Rattle.trace_seen.specs.declared.marks.SeenMarks.{SeenMarks}
use Rattle.trace_seen.specs.Marks.{Ticks}
use Rattle.trace_bench.specs.declared.{judging.Heard.Heard, judging.Judged.Judged, judging.Finding.Finding, judging.Finding.TheVariants.Wrong, judging.Finding.TheVariants.Memory, known.Known.Known}
use Rattle.trace_bench.specs.Debits.{IsLastOf}
use Rattle.trace_bench.specs.Judging.{MayGet, ledger_with, turn_with, IsUntold, IsUntoldBy, IsHeard, IsJudged}
use Rattle.trace_bench.specs.Plainly.{SendsHeard}
use Rattle.trace_bench.specs.Known.{Knows}
use Rattle.trace_bench.specs.Seeing.{Audit, Sees, SeesRun, sending}
use Rattle.trace_bench.proofs.Keeping.{DebitsAlso, knows_more}

-- what is kept is no part of the run
pub other_known : (a : Audit) (k : Known) (L : Ledger) → SeesRun a L → SeesRun (record a { known = k }) L
other_known a k L sees = record { day = sees.day; devices = sees.devices; centre = sees.centre; host = sees.host; verifier = sees.verifier }

module _ {T : Type 0} (IsOf : T → Turn → Type 0) (τ : Tariff) (H : Ledger) (e : Event) (left line : List ℕ) where
  -- what is debited at the ledger that the reply leaves, by what the auditor has of the device
  abbrev pub DebitsHeard : Heard T → Audit → Type 0
  DebitsHeard heard before = (reply : Reply) → MayGet τ H e left line reply → SeesRun (sending heard.sent before) (ledger_with τ H e left line reply)
      → DebitsAlso (λ mark. IsLastOf heard.device before.devices mark) H (ledger_with τ H e left line reply)

  pub sent_judged : (heard : Heard T) (before now : Audit) (result : Result (Judged T) Finding) → SendsHeard heard before now result → Knows before.known H → DebitsHeard heard before
      → IsHeard IsOf τ H e left line before (Ok heard) → IsJudged IsOf τ H e left line now result
  sent_judged heard before now (Ok judged) sent knows debits of = (
    of.0,
    record {
      text = of.1.text;
      whole = of.1.whole;
      moves = of.1.moves;
      sees = subst (λ (a : Audit). Sees a (ledger_with τ H e left line of.0)) (sym sent.0) (record {
        run = other_known (sending heard.sent before) now.known (ledger_with τ H e left line of.0) of.1.sees;
        known = knows_more heard.sent heard.released (λ mark. IsLastOf heard.device before.devices mark) before.known now.known H (ledger_with τ H e left line of.0) sent.1 sent.3 knows of.3 (debits of.0 of.1.moves of.1.sees);
      });
    },
    ap (λ (j : Judged T). j.taken) sent.2 ∙ of.2,
    subst (λ (j : Judged T). IsOf j.told (turn_with τ H e left line of.0)) (sym sent.2) of.4,
  )
  sent_judged heard before now (Err (Wrong due)) sent knows debits of = absurd sent
  sent_judged heard before now (Err Memory) sent knows debits of = tt

  -- a line that is wrong, and what is kept
  untold_known : (a : Audit) (due : Reply) → Knows a.known H → IsUntoldBy τ H e left line (SeesRun a) due → IsUntold τ H e left line a due
  untold_known a due knows of = record { due_is = of.due_is; none = of.none; rests = record { run = of.rests; known = knows } }

  pub heard_wrong : (a : Audit) (finding : Finding) → Knows a.known H → IsHeard IsOf τ H e left line a (Err finding) → IsJudged IsOf τ H e left line a (Err finding)
  heard_wrong a (Wrong due) knows of = untold_known a due knows of
  heard_wrong a Memory knows of = tt

-- == what was sent and released is kept, and marks that were seen are told as debited ==

-- what holds if there was memory, if there was
pub learnt : {A E P : Type 0} (r : Result A E) → is_err r ≡ false → OnOk r P → P
learnt (Ok x) fine on = on
learnt (Err e) fine on = absurd (true≢false fine)

-- the marks of the last debit are told as debited, also by equal lists of devices and equal marks
pub ticked : (device : Option ℕ) {read devices : List (Traced DeviceRecord State)} {old now new : SeenMarks} → read ≡ devices → new ≡ now → Ticks (λ q. IsLastOf device read q) old now → Ticks (λ q. IsLastOf device devices q) old new
ticked device {read} {old} {new} same kept ticks =
    subst (λ (l : List (Traced DeviceRecord State)). Ticks (λ q. IsLastOf device l q) old new) same (subst (λ (s : SeenMarks). Ticks (λ q. IsLastOf device read q) old s) (sym kept) ticks)
