-- What the printer was given in an event, by the line that the report has for it.
use Rattle.std.proofs.Common.{◌≡◌, inl, inr, ℕ, ◌+◌, List, [], Option, Some, option_map, true≢false, refl, sym, ◌∙◌, ap, subst}
use Rattle.bench_base.specs.declared.{events.Event.Event, events.Reply.Reply}
use Rattle.bench_base.specs.declared.events.Event.TheVariants as ev
use Rattle.bench_base.specs.declared.events.Reply.TheVariants as r
use Rattle.bench_base.specs.Plans.{Plan}
use Rattle.bench_base.specs.Rules.{todays_rules}
use Rattle.bench_base.specs.Ledger.{Ledger}
use Rattle.bench_base.specs.Events.{IsWholeEvent}
use Rattle.ledger_moves.specs.Tariffs.{Tariff}
use Rattle.node_acts.specs.Plans.{Fails}
use Rattle.ledger_moves.specs.Moves.{Moves, plan}
use Rattle.node_turns.specs.Printing.{print_of}
use Rattle.script_text.specs.Texts.{text_of, IsWholeReply, told}
use Rattle.trace_bench.specs.Judging.{IsTold, text_with}
use Rattle.trace_bench.specs.Seeing.{Audit}
use Rattle.trace_runs.specs.Imprints.{IsGiven, GivesSo, taken_whole, taken_in_part}
use Rattle.trace_runs.specs.declared.imprint.Given.{Given}
use Rattle.scan_laws.proofs.Tells.{is_failure}
use Rattle.scan_laws.proofs.Plans.{plan_says, only_print}

-- == what the text of a print shows about it ==

pub printed_back : (x : Reply) (j : ℕ) → told x ≡ r.Printed j → x ≡ r.Printed j
printed_back (r.Printed i) j is = is
printed_back _ j is = cc

pub fault_back : (x : Reply) (j : ℕ) → told x ≡ r.PrinterFault j → x ≡ r.PrinterFault j
fault_back (r.PrinterFault i) j is = is
fault_back _ j is = cc

module _ (τ : Tariff) (H : Ledger) (e : Event) (text : List ℕ) (reply : Reply) (moves : Moves τ todays_rules H e text reply) where
  abbrev p : Plan
  p = plan τ todays_rules H e text

  -- the plan's answer is the print
  pub by_printed : (j : ℕ) → reply ≡ r.Printed j → p.reply ≡ r.Printed j
  by_printed j is = elim moves.1 [
    | inl same ↦ sym same ∙ is
    | inr (inl up) ↦ let wrong : r.Printed j ≡ r.Up up.node (up.count + 1) = sym is ∙ up.more in cc
    | inr (inr (inl fails)) ↦ absurd (subst (λ (x : Reply). Fails p x) is fails)
    | inr (inr (inr reads)) ↦ let wrong : r.Printed j ≡ r.RatesFault = sym is ∙ reads.reply_is in cc
  ]

  pub by_fault : (j : ℕ) → reply ≡ r.PrinterFault j → p.reply ≡ r.Printed j
  by_fault j is = elim moves.1 [
    | inl same ↦ absurd (true≢false (sym (ap is_failure (sym same ∙ is)) ∙ (plan_says H τ e text).unfailed))
    | inr (inl up) ↦ let wrong : r.PrinterFault j ≡ r.Up up.node (up.count + 1) = sym is ∙ up.more in cc
    | inr (inr (inl fails)) ↦ subst (λ (x : Reply). Fails p x) is fails
    | inr (inr (inr reads)) ↦ let wrong : r.PrinterFault j ≡ r.RatesFault = sym is ∙ reads.reply_is in cc
  ]

module _ (one : (x y : Reply) → IsWholeReply x → IsWholeReply y → text_of x ≡ text_of y → told x ≡ told y) (τ : Tariff) (H : Ledger) (e : Event) (left line : List ℕ) (new : Audit) (reply : Reply)
    (t : IsTold τ H e left line new reply) (whole : IsWholeEvent e) (due : Option (List ℕ)) (is_due : (j : ℕ) → e ≡ ev.Print j → print_of (plan τ todays_rules H (ev.Print j) []).after ≡ due)
    (given : Option Given) (gives : GivesSo e due line given) where
  abbrev text : List ℕ
  text = text_with τ H e left line reply

  abbrev q : Plan
  q = plan τ todays_rules H e text

  -- a `print` takes nothing of the rates
  marks : (j : ℕ) → e ≡ ev.Print j → print_of q.after ≡ due
  marks j is = by e is is_due reply
    where
      by : (f : Event) → f ≡ ev.Print j → ((i : ℕ) → f ≡ ev.Print i → print_of (plan τ todays_rules H (ev.Print i) []).after ≡ due) → (y : Reply) → print_of (plan τ todays_rules H f (text_with τ H f left line y)).after ≡ due
      by (ev.Print i) same law y = law i refl
      by _ same law y = cc

  -- the reply of this job is in range
  ranged : (j : ℕ) → e ≡ ev.Print j → IsWholeReply (r.Printed j) × IsWholeReply (r.PrinterFault j)
  ranged j is = let w = subst IsWholeEvent is whole in (w, w)

  whole_given : (j : ℕ) → reply ≡ r.Printed j → (x : List ℕ) × (print_of q.after ≡ Some x) × (given ≡ Some (taken_whole x))
  whole_given j is =
      let w = only_print H τ e text j (by_printed τ H e text reply t.moves j is) in
      let mark : print_of q.after ≡ Some w.1.0 = ap print_of w.1.1 in
      let due_is : due ≡ Some w.1.0 = sym (marks j w.0) ∙ mark in
      (w.1.0, mark, gives.whole j w.0 (sym (ap text_of is) ∙ t.text) ∙ ap (λ (o : Option (List ℕ)). option_map taken_whole o) due_is)

  apart : (j : ℕ) → e ≡ ev.Print j → text_of (r.PrinterFault j) ≡ line → text_of (r.Printed j) ≡ line → ⊥
  apart j is fault print = let w = ranged j is in let wrong : r.Printed j ≡ r.PrinterFault j = one (r.Printed j) (r.PrinterFault j) w.0 w.1 (print ∙ sym fault) in cc

  cut_given : (j : ℕ) → reply ≡ r.PrinterFault j → (x : List ℕ) × (print_of q.after ≡ Some x) × (given ≡ Some (taken_in_part x))
  cut_given j is =
      let w = only_print H τ e text j (by_fault τ H e text reply t.moves j is) in
      let mark : print_of q.after ≡ Some w.1.0 = ap print_of w.1.1 in
      let due_is : due ≡ Some w.1.0 = sym (marks j w.0) ∙ mark in
      let fault : text_of (r.PrinterFault j) ≡ line = sym (ap text_of is) ∙ t.text in
      (w.1.0, mark, gives.cut j w.0 fault (apart j w.0 fault) ∙ ap (λ (o : Option (List ℕ)). option_map taken_in_part o) due_is)

  pub given_by : IsGiven reply (print_of q.after) given
  given_by = record {
    whole = whole_given;
    cut = cut_given;
    none = λ unprinted uncut.
        gives.none (λ j is. let w = ranged j is in (
          λ print. unprinted j (printed_back reply j (one reply (r.Printed j) t.whole w.0 (t.text ∙ sym print))),
          λ fault. uncut j (fault_back reply j (one reply (r.PrinterFault j) t.whole w.1 (t.text ∙ sym fault))),
        ));
  }
