-- Two steps of one event with one line of the report are the same, at one ledger and with the same rates left.
use Rattle.std.proofs.Common.{◌≡◌, ◌⊎◌, inl, inr, ℕ, List, drop, length, refl, sym, ◌∙◌, ap, subst}
use Rattle.bench_base.specs.declared.{events.Event.Event, events.Reply.Reply, refusals.ScanRefusal.ScanRefusal}
use Rattle.bench_base.specs.declared.events.Reply.TheVariants as r
use Rattle.bench_base.specs.Ledger.{Ledger}
use Rattle.bench_base.specs.Rules.{todays_rules}
use Rattle.ledger_moves.specs.Tariffs.{Tariff}
use Rattle.ledger_moves.specs.Moves.{Moves, answer}
use Rattle.script_text.specs.Texts.{text_of, told}
use Rattle.script_text.proofs.EachReply.{one_reply_of}
use Rattle.line_extensions.specs.Trace.{StepRecord}
use Rattle.script_replay.specs.Trace.{ledger_by}
use Rattle.trace_views.specs.Verdicts as views
use Rattle.trace_runs.specs.Audits.{MayTell}
use Rattle.trace_runs.proofs.One.{same_text, same_ledger, same_left}
use Rattle.trace_extensions.specs.Places.{turn_at}

-- a reply is as its text shows it, unless it is the refusal of a scan
shown : (x : Reply) → (told x ≡ x) ⊎ ((y : ScanRefusal) × (x ≡ r.ScanRefused y))
shown (r.ScanRefused y) = inr (y, refl)
shown _ = inl refl

module _ (τ : Tariff) (H : Ledger) (e : Event) (text : List ℕ) where
  -- the refusal of a scan is the answer
  is_answer : (y : ScanRefusal) → Moves τ todays_rules H e text (r.ScanRefused y) → r.ScanRefused y ≡ answer τ todays_rules H e text
  is_answer y moves = elim moves.1 [
    | inl is ↦ is
    | inr (inl up) ↦ absurd (cc (up.more))
    | inr (inr (inl fails)) ↦ absurd fails
    | inr (inr (inr reads)) ↦ absurd (cc (reads.reply_is))
  ]

module _ (τ : Tariff) (H : Ledger) (left : List ℕ) (d f : StepRecord)
    (may : MayTell τ H left d) (may' : MayTell τ H left f) (event : d.event ≡ f.event) (text : text_of d.reply ≡ text_of f.reply) where
  shows : told d.reply ≡ told f.reply
  shows = one_reply_of d.reply f.reply may.whole may'.whole text

  texts : d.text ≡ f.text
  texts = same_text one_reply_of τ H left d f may may' event text

  refusals : (y z : ScanRefusal) → d.reply ≡ r.ScanRefused y → f.reply ≡ r.ScanRefused z → d.reply ≡ f.reply
  refusals y z is is' =
      let first = is_answer τ H d.event d.text y (subst (λ (x : Reply). Moves τ todays_rules H d.event d.text x) is may.moves) in
      let second = is_answer τ H f.event f.text z (subst (λ (x : Reply). Moves τ todays_rules H f.event f.text x) is' may'.moves) in
      is ∙ first ∙ ap (λ (e : Event). answer τ todays_rules H e d.text) event ∙ ap (λ (t : List ℕ). answer τ todays_rules H f.event t) texts ∙ sym second ∙ sym is'

  no_refusal : (x : Reply) (y : ScanRefusal) → told x ≡ x → x ≡ told (r.ScanRefused y) → (z : ScanRefusal) × (x ≡ r.ScanRefused z)
  no_refusal x y is same = (_, same)

  pub same_reply : d.reply ≡ f.reply
  same_reply = by (shown d.reply) (shown f.reply)
    where
      by : (told d.reply ≡ d.reply) ⊎ ((y : ScanRefusal) × (d.reply ≡ r.ScanRefused y)) → (told f.reply ≡ f.reply) ⊎ ((y : ScanRefusal) × (f.reply ≡ r.ScanRefused y)) → d.reply ≡ f.reply
      by (inl x) (inl y) = sym x ∙ shows ∙ y
      by (inl x) (inr y) =
          let so = no_refusal d.reply y.0 x (sym x ∙ shows ∙ ap told y.1) in
          refusals so.0 y.0 so.1 y.1
      by (inr x) (inl y) =
          let so = no_refusal f.reply x.0 y (sym y ∙ sym shows ∙ ap told x.1) in
          refusals x.0 so.0 x.1 so.1
      by (inr x) (inr y) = refusals x.0 y.0 x.1 y.1

  pub same_turn : turn_at τ H d ≡ turn_at τ H f
  same_turn =
      ap (λ (e : Event). views.turn_at τ H e d.text d.reply) event ∙ ap (λ (t : List ℕ). views.turn_at τ H f.event t d.reply) texts
      ∙ ap (λ (x : Reply). views.turn_at τ H f.event f.text x) same_reply

  pub ledgers : ledger_by τ H d ≡ ledger_by τ H f
  ledgers = same_ledger one_reply_of τ H left d f may may' event text

  pub lefts : drop (length d.text) left ≡ drop (length f.text) left
  lefts = same_left one_reply_of τ H left d f may may' event text
