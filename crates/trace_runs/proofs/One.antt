-- The ledger that a run leaves is one.
use Rattle.std.proofs.Common.{◌≡◌, ℕ, List, [], ◌∷◌, drop, length, refl, sym, ◌∙◌, ap, subst}
use Rattle.bench_base.specs.declared.{events.Event.Event, events.Reply.Reply}
use Rattle.bench_base.specs.declared.events.Reply.TheVariants as r
use Rattle.bench_base.specs.Ledger.{Ledger, day_in}
use Rattle.bench_base.specs.Replies.{ReplyClass, class_of}
use Rattle.bench_base.specs.Rules.{todays_rules}
use Rattle.node_acts.specs.Plans.{after_told}
use Rattle.ledger_moves.specs.Tariffs.{Tariff}
use Rattle.ledger_moves.specs.Moves.{plan}
use Rattle.script_text.specs.Texts.{text_of, IsWholeReply, told}
use Rattle.line_extensions.specs.Trace.{StepRecord}
use Rattle.script_replay.specs.Trace.{ledger_by, ledger_after}
use Rattle.trace_runs.specs.Audits.{MayTell, IsRun, AreAlike}
use Rattle.trace_bench.specs.Judging.{taken_by}

-- the text of a reply shows its class
telling : (x : Reply) → class_of (told x) ≡ class_of x
telling (r.ScanRefused y) = refl
telling _ = refl

module _ (one : (x y : Reply) → IsWholeReply x → IsWholeReply y → text_of x ≡ text_of y → told x ≡ told y) where
  same_told : (x y : Reply) → IsWholeReply x → IsWholeReply y → text_of x ≡ text_of y → class_of x ≡ class_of y
  same_told x y whole whole' is = sym (telling x) ∙ ap class_of (one x y whole whole' is) ∙ telling y

  module _ (τ : Tariff) (H : Ledger) (left : List ℕ) (d f : StepRecord) (may : MayTell τ H left d) (may' : MayTell τ H left f) (event : d.event ≡ f.event) (text : text_of d.reply ≡ text_of f.reply) where
    told_is : class_of d.reply ≡ class_of f.reply
    told_is = same_told d.reply f.reply may.whole may'.whole text

    pub same_text : d.text ≡ f.text
    same_text =
        may.takes ∙ ap (λ (e : Event). taken_by e (day_in H) (class_of d.reply) left) event
        ∙ ap (λ (t : ReplyClass). taken_by f.event (day_in H) t left) told_is ∙ sym may'.takes

    pub same_ledger : ledger_by τ H d ≡ ledger_by τ H f
    same_ledger =
        ap (λ (e : Event). after_told (plan τ todays_rules H e d.text) (class_of d.reply) H) event
        ∙ ap (λ (t : List ℕ). after_told (plan τ todays_rules H f.event t) (class_of d.reply) H) same_text
        ∙ ap (λ (t : ReplyClass). after_told (plan τ todays_rules H f.event f.text) t H) told_is

    pub same_left : drop (length d.text) left ≡ drop (length f.text) left
    same_left = ap (λ (t : List ℕ). drop (length t) left) same_text

  pub one_run : (τ : Tariff) (H : Ledger) (left : List ℕ) (a b : List StepRecord) → IsRun τ H left a → IsRun τ H left b → AreAlike a b → ledger_after τ H a ≡ ledger_after τ H b
  one_run τ H left [] [] run run' alike = refl
  one_run τ H left [] (f ∷ others) run run' alike = absurd alike
  one_run τ H left (d ∷ trace) [] run run' alike = absurd alike
  one_run τ H left (d ∷ trace) (f ∷ others) run run' alike =
      let ledgers = same_ledger τ H left d f run.0.tells run'.0.tells alike.0.0 alike.0.1 in
      let lefts = same_left τ H left d f run.0.tells run'.0.tells alike.0.0 alike.0.1 in
      one_run τ (ledger_by τ H d) (drop (length d.text) left) trace others run.1
      (subst (λ (K : Ledger). IsRun τ K (drop (length d.text) left) others) (sym ledgers) (subst (λ (l : List ℕ). IsRun τ (ledger_by τ H f) l others) (sym lefts) run'.1)) alike.1
      ∙ ap (λ (K : Ledger). ledger_after τ K others) ledgers
