-- What is judged of a line by the ledger, of an event that reads no rates.
use Rattle.std.proofs.Common.{◌≡◌, ◌≢◌, ℕ, ℤ, List, [], length, false, Option, refl, sym, ◌∙◌, ap, subst}
use Rattle.bench_base.specs.declared.{events.Event.Event, events.Reply.Reply}
use Rattle.bench_base.specs.declared.events.Event.TheVariants as ev
use Rattle.bench_base.specs.Replies.{ReplyClass, Did, class_of}
use Rattle.bench_base.specs.Rules.{todays_rules}
use Rattle.bench_base.specs.Ledger.{Ledger, day_in}
use Rattle.ledger_moves.specs.Tariffs.{Tariff}
use Rattle.ledger_moves.specs.Moves.{Moves, answer, entries}
use Rattle.script_text.specs.Texts.{text_of, IsWholeReply}
use Rattle.node_turns.specs.declared.turn.Turn.{Turn}
use Rattle.trace_views.specs.Verdicts.{Adds, turn_at}
use Rattle.bench_base.specs.Events.{takes_rates}
use Rattle.trace_bench.specs.Judging.{taken_by, text_with, ledger_with, turn_with, IsToldBy, IsUntoldBy}
use Rattle.trace_bench.specs.Seeing.{Audit, SeesRun}

pub not_rates : (e : Event) → e ≢ ev.Rates → takes_rates e ≡ false
not_rates ev.Rates not = absurd (not refl)
not_rates _ not = refl

-- it takes nothing of the rates, whatever its reply
abbrev pub TakesNone : Event → Option ℤ → List ℕ → Type 0
TakesNone e today left = (t : ReplyClass) → taken_by e today t left ≡ []

pub takes_none : (e : Event) (today : Option ℤ) (left : List ℕ) → e ≢ ev.Rates → TakesNone e today left
takes_none e today left not t = rw (not_rates e not) refl

module _ (τ : Tariff) (H : Ledger) (e : Event) (left line : List ℕ) (none : TakesNone e (day_in H) left) where
  pub nothing_taken : (reply : Reply) → 0 ≡ length (text_with τ H e left line reply)
  nothing_taken reply = ap length (sym (none (class_of reply)))

  pub lift_told : (a : Audit) (reply : Reply) → text_of reply ≡ line → IsWholeReply reply → Moves τ todays_rules H e [] reply → SeesRun a (entries τ todays_rules H e [] reply) → IsToldBy τ H e left line (SeesRun a) reply
  lift_told a reply text whole moves sees = record {
    text = text;
    whole = whole;
    moves = subst (λ (t : List ℕ). Moves τ todays_rules H e t reply) (sym (none (class_of reply))) moves;
    sees = subst (λ (t : List ℕ). SeesRun a (entries τ todays_rules H e t reply)) (sym (none (class_of reply))) sees;
  }

  pub lift_untold : (a : Audit) (due : Reply) → due ≡ answer τ todays_rules H e [] → ((reply : Reply) → Moves τ todays_rules H e [] reply → text_of reply ≢ line) → SeesRun a H → IsUntoldBy τ H e left line (SeesRun a) due
  lift_untold a due is never rests = record {
    due_is = is ∙ ap (λ (t : List ℕ). answer τ todays_rules H e t) (sym (none Did));
    none = λ reply may. never reply (subst (λ (t : List ℕ). Moves τ todays_rules H e t reply) (none (class_of reply)) may);
    rests = rests;
  }

  pub lift_adds : (sent released : Option (List ℕ)) (reply : Reply) → Adds sent released H (entries τ todays_rules H e [] reply) → Adds sent released H (ledger_with τ H e left line reply)
  lift_adds sent released reply adds = subst (λ (t : List ℕ). Adds sent released H (entries τ todays_rules H e t reply)) (sym (none (class_of reply))) adds

  -- the turn of the event
  pub lift_turn : {T : Type 0} (IsOf : T → Turn → Type 0) (told : T) (reply : Reply) → IsOf told (turn_at τ H e [] reply) → IsOf told (turn_with τ H e left line reply)
  lift_turn IsOf told reply is = subst (λ (t : List ℕ). IsOf told (turn_at τ H e t reply)) (sym (none (class_of reply))) is
