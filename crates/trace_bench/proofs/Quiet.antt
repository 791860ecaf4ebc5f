-- An event is answered by its plan alone, if that plan commits nothing, turns no node on and prints nothing.
use Rattle.std.proofs.Common.{◌≡◌, ◌≢◌, inl, inr, ℕ, List, [], Option, Some, None, Result, Ok, Err, refl, sym, ◌∙◌, ap, subst}
use Rattle.bench_base.specs.declared.{words.Node.Node, events.Event.Event, events.Reply.Reply}
use Rattle.bench_base.specs.declared.events.Reply.TheVariants as r
use Rattle.bench_base.specs.Plans.{Plan}
use Rattle.bench_base.specs.Replies.{ReplyClass, Did, Refused, Armed, CameOn, WentOff, LostPower, Faulted, WasDamaged, PrinterFailed, RatesFailed, class_of}
use Rattle.bench_base.specs.Rules.{todays_rules}
use Rattle.bench_base.specs.Ledger.{Ledger, day_in}
use Rattle.bench_base.specs.Events.{IsWholeEvent}
use Rattle.node_acts.specs.Plans.{Fails, FailsTold, after}
use Rattle.ledger_moves.specs.Tariffs.{Tariff}
use Rattle.ledger_moves.specs.Moves.{Moves, FailsToRead, plan, entries}
use Rattle.script_text.specs.Texts.{text_of}
use Rattle.trace_bench.specs.declared.{judging.Heard.Heard, judging.Finding.Finding, judging.Finding.TheVariants.Wrong, judging.Finding.TheVariants.Memory}
use Rattle.node_turns.specs.Turns as turns
use Rattle.node_turns.specs.Turns.{in_order, turn_of}
use Rattle.node_turns.specs.declared.turn.Turn.{Turn}
use Rattle.trace_nodes.specs.Released.{released_in}
use Rattle.trace_views.specs.Verdicts.{Adds, turn_at}
use Rattle.trace_bench.specs.Judging.{IsHeard, ledger_with}
use Rattle.trace_bench.specs.Plainly.{IsPlainly}
use Rattle.trace_bench.specs.Seeing.{Audit, SeesRun, sending}
use Rattle.trace_bench.proofs.Lifting.{TakesNone, nothing_taken, lift_told, lift_untold, lift_adds, lift_turn}
use Rattle.trace_bench.proofs.Seen.{sends_nothing}

-- the plan has no failure that may happen, and no print
pub record IsSilent (p : Plan) : Type 0 where
  pub silent : p.commit ≡ None
  pub no_up : (m : Node) (k : ℕ) → p.reply ≢ r.Up m k
  pub no_print : (j : ℕ) → p.reply ≢ r.Printed j
  pub adds : (H : Ledger) → Adds None None H (after p p.reply H)
  pub unsent : turns.sent_in (in_order (after p p.reply [])) ≡ None
  pub unreleased : released_in (in_order (after p p.reply [])) ≡ None

none_some : {X P : Type 0} {o : Option X} (x : X) → o ≡ None → o ≡ Some x → P
none_some x none some = let wrong : None ≡ Some x = sym none ∙ some in cc

module _ (p : Plan) (quiet : IsSilent p) where
  pub never_fails : (t : ReplyClass) → FailsTold p t → ⊥
  never_fails Did fails = fails
  never_fails Refused fails = fails
  never_fails (Armed m) fails = fails
  never_fails (CameOn m k) fails = fails
  never_fails (WentOff m) fails = fails
  never_fails (LostPower m) (inl up) = quiet.no_up m up.0 up.1
  never_fails (LostPower m) (inr made) = none_some made.0 quiet.silent made.1
  never_fails (Faulted m) (inl up) = quiet.no_up m up.0 up.1
  never_fails (Faulted m) (inr made) = none_some made.0 quiet.silent made.1
  never_fails (WasDamaged m) fails = fails
  never_fails (PrinterFailed j) fails = quiet.no_print j fails
  never_fails RatesFailed fails = fails

module _ (τ : Tariff) (H : Ledger) (e : Event) (p : Plan) (plan_is : plan τ todays_rules H e [] ≡ p) (quiet : IsSilent p) (reads : (reply : Reply) → FailsToRead e reply (day_in H) → ⊥) where
  reply_is : (plan τ todays_rules H e []).reply ≡ p.reply
  reply_is = ap (λ (q : Plan). q.reply) plan_is

  pub only : (reply : Reply) → Moves τ todays_rules H e [] reply → reply ≡ p.reply
  only reply (whole, inl is) = is ∙ reply_is
  only reply (whole, inr (inl up)) = absurd (quiet.no_up up.node up.count (sym reply_is ∙ up.answer_is))
  only reply (whole, inr (inr (inl fails))) = absurd (never_fails p quiet (class_of reply) (subst (λ (q : Plan). Fails q reply) plan_is fails))
  only reply (whole, inr (inr (inr reading))) = absurd (reads reply reading)

  -- what is heard of it, where its answer adds these entries
  module _ {T : Type 0} (IsOf : T → Turn → Type 0) (adds : Ledger) (adds_is : after p p.reply [] ≡ adds) where
    pub heard_plainly : (left line : List ℕ) → TakesNone e (day_in H) left → IsWholeEvent e → (old new : Audit) (result : Result (Heard T) Finding) → IsPlainly IsOf p.reply adds line result → SeesRun old H
        → ((heard : Heard T) → result ≡ Ok heard → SeesRun new (after p p.reply H)) → ((due : Reply) → result ≡ Err (Wrong due) → new ≡ old) → IsHeard IsOf τ H e left line new result
    heard_plainly left line none whole old new (Ok heard) (text, in_range, noted, is, heard_is) sees after_it keeps =
        let entries_are : entries τ todays_rules H e [] p.reply ≡ after p p.reply H = ap (λ (q : Plan). after q p.reply H) plan_is in
        let unsent : heard.sent ≡ None = ap (λ (h : Heard T). h.sent) heard_is ∙ is.1 ∙ ap (λ (l : Ledger). turns.sent_in (in_order l)) (sym adds_is) ∙ quiet.unsent in
        let unreleased : heard.released ≡ None = ap (λ (h : Heard T). h.released) heard_is ∙ is.2 ∙ ap (λ (l : Ledger). released_in (in_order l)) (sym adds_is) ∙ quiet.unreleased in
        let same : sending heard.sent new ≡ new = ap (λ (o : Option (List ℕ)). sending o new) unsent ∙ sends_nothing new in
        let added : Adds None None H (ledger_with τ H e left line p.reply) = lift_adds τ H e left line none None None p.reply (subst (λ (K : Ledger). Adds None None H K) (sym entries_are) (quiet.adds H)) in
        let turn : turn_of p.reply adds ≡ turn_at τ H e [] p.reply = ap (λ (l : Ledger). turn_of p.reply l) (sym adds_is ∙ ap (λ (q : Plan). after q p.reply []) (sym plan_is)) in
        let told : IsOf heard.told (turn_at τ H e [] p.reply) = subst (λ (h : Heard T). IsOf h.told (turn_at τ H e [] p.reply)) (sym heard_is) (subst (λ (t : Turn). IsOf noted.told t) turn is.0) in (
          p.reply,
          lift_told τ H e left line none (sending heard.sent new) p.reply text in_range (whole, inl (sym reply_is))
              (subst (λ (a : Audit). SeesRun a (entries τ todays_rules H e [] p.reply)) (sym same) (subst (λ (K : Ledger). SeesRun new K) (sym entries_are) (after_it heard refl))),
          ap (λ (h : Heard T). h.taken) heard_is ∙ nothing_taken τ H e left line none p.reply,
          subst (λ (o : Option (List ℕ)). Adds o heard.released H (ledger_with τ H e left line p.reply)) (sym unsent)
              (subst (λ (o : Option (List ℕ)). Adds None o H (ledger_with τ H e left line p.reply)) (sym unreleased) added),
          lift_turn τ H e left line none IsOf heard.told p.reply told,
        )
    heard_plainly left line none whole old new (Err (Wrong due)) plainly sees after_it keeps =
        lift_untold τ H e left line none new due (plainly.0 ∙ sym reply_is) (λ reply moves is. plainly.1 (ap text_of (sym (only reply moves)) ∙ is))
        (subst (λ (a : Audit). SeesRun a H) (sym (keeps due refl)) sees)
    heard_plainly left line none whole old new (Err Memory) plainly sees after_it keeps = tt
