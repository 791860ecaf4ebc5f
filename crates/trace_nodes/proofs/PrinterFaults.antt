-- A line of a call that may print: beside the results of the call, the printer may fail after its commit.
use Rattle.std.proofs.Common.{◌≡◌, ◌≢◌, ◌⊎◌, inl, inr, ℕ, List, get_or, Option, Ok, Bool, true, false, if◌then◌else◌, refl, sym, ◌∙◌, ap, subst, arith}
use Rattle.bench_base.specs.declared.{words.Node.Node, ledger.Commit.Commit, events.Reply.Reply}
use Rattle.bench_base.specs.declared.events.Reply.TheVariants as r
use Rattle.bench_base.specs.Ledger.{Ledger}
use Rattle.bench_base.specs.Plans.{Plan, refuse}
use Rattle.bench_base.specs.Replies.{class_of}
use Rattle.node_acts.specs.declared.{act.Act.Act, act.Outcome.Outcome, said.Said.Said}
use Rattle.node_acts.specs.Views.{Counting, View}
use Rattle.node_acts.specs.Acts.{CameOf, commit_of, is_full, outcome_of, MayCome, after_call}
use Rattle.node_acts.specs.Plans.{IsOfNode, Fails, MayReply, view_after}
use Rattle.node_acts.specs.Said.{IsPlain, planned_commit, said_plan, seen_plan, said_reply}
use Rattle.node_acts.proofs.Told.{Tells, tells_call}
use Rattle.node_turns.specs.declared.turn.Turn.{Turn}
use Rattle.node_turns.specs.Printing.{unprinted_turn}
use Rattle.node_turns.specs.Turns.{told_turn, turn_of}
use Rattle.node_turns.proofs.Done.{told_is}
use Rattle.script_text.specs.Texts.{reply_words, text_of, IsWholeReply}
use Rattle.trace_nodes.specs.Judged.{TellsOf, TellsNone, JudgedCall}
use Rattle.trace_nodes.proofs.Openings.{first, second, power_second, fault_first}
use Rattle.trace_nodes.proofs.Telling.{ComesAs, Kind, answered, powered, faulted, kind, same_reply, by_power, by_fault, no_up, may_answer, seen_answer, seen_said}

-- == the text of a printer fault ==

cut_first : (j : ℕ) → first (text_of (r.PrinterFault j)) ≡ 112
unfolding reply_words
cut_first j = refl

cut_second : (j : ℕ) → second (text_of (r.PrinterFault j)) ≡ 114
unfolding reply_words
cut_second j = refl

-- the seventh byte
cut_seventh : (j : ℕ) → get_or (text_of (r.PrinterFault j)) 6 0 ≡ 114
unfolding reply_words
cut_seventh j = refl

printed_seventh : (j : ℕ) → get_or (text_of (r.Printed j)) 6 0 ≡ 100
unfolding reply_words
printed_seventh j = refl

cut_is_no_print : (i j : ℕ) → text_of (r.Printed i) ≡ text_of (r.PrinterFault j) → ⊥
cut_is_no_print i j is = let same : ◌≡◌ {A = ℕ} 100 114 = sym (printed_seventh i) ∙ ap (λ (l : List ℕ). get_or l 6 0) is ∙ cut_seventh j in absurd (omega arith)

cut_is_no_power : (m : Node) (j : ℕ) → text_of (r.Power m) ≡ text_of (r.PrinterFault j) → ⊥
cut_is_no_power m j is = let same : ◌≡◌ {A = ℕ} 111 114 = sym (power_second m) ∙ ap second is ∙ cut_second j in absurd (omega arith)

cut_is_no_fault : (m : Node) (j : ℕ) → text_of (r.Fault m) ≡ text_of (r.PrinterFault j) → ⊥
cut_is_no_fault m j is = let same : ◌≡◌ {A = ℕ} 102 112 = sym (fault_first m) ∙ ap first is ∙ cut_first j in absurd (omega arith)

module _ {S X : Type 0} (n : Counting S X) (m : Node) (v : View S) (act : Act X Reply Said) (own : IsOfNode m act) (plain : IsPlain act) where
  abbrev pub p : Plan
  p = seen_plan n m v act

  -- the printer failed after the commit of the plan
  pub record Unprinted (reply : Reply) : Type 0 where
    pub job : ℕ
    pub prints : p.reply ≡ r.Printed job
    pub is : reply ≡ r.PrinterFault job

  by_failure : (reply : Reply) → Fails p reply → ComesAs n m v act own plain reply ⊎ Unprinted reply
  by_failure (r.Power i) fails = inl (by_power n m v act own plain i fails)
  by_failure (r.Fault i) fails = inl (by_fault n m v act own plain i fails)
  by_failure (r.PrinterFault j) fails = inr (record { job = j; prints = fails; is = refl })
  by_failure _ fails = absurd fails

  pub comes_back : (reply : Reply) → MayReply n m v p reply → ComesAs n m v act own plain reply ⊎ Unprinted reply
  comes_back reply (inl is) = inl (outcome_of n v act, may_answer n m v act (outcome_of n v act) (seen_answer n m v act) refl, seen_said n m v act ∙ sym is)
  comes_back reply (inr (inl up)) = absurd (no_up n m v act own plain m _ up.0)
  comes_back reply (inr (inr fails)) = by_failure reply fails

  -- what it may come to has another text
  apart : (i : ℕ) → p.reply ≡ r.Printed i → (j : ℕ) (x : Outcome Reply Said) → Kind n m v act own plain x → text_of (said_reply m x) ≡ text_of (r.PrinterFault j) → ⊥
  apart i prints j x (answered a) is = cut_is_no_print i j (sym (ap text_of (a ∙ prints)) ∙ is)
  apart i prints j x (powered a) is = cut_is_no_power m j (sym (ap text_of a) ∙ is)
  apart i prints j x (faulted a) is = cut_is_no_fault m j (sym (ap text_of a) ∙ is)

  by_may : {P Q W : Type 0} → P ⊎ W → P ⊎ (Q ⊎ W)
  by_may (inl q) = inl q
  by_may (inr w) = inr (inr w)

  -- another reply with this text, where the call came to x
  other_of : (x : Outcome Reply Said) → Kind n m v act own plain x → (other : Reply) → ComesAs n m v act own plain other ⊎ Unprinted other → text_of other ≡ text_of (said_reply m x) → other ≡ said_reply m x
  other_of x of other (inl back) is = sym back.2 ∙ same_reply n m v act own plain back.0 x (kind n m v act own plain back.0 back.1) of (ap text_of back.2 ∙ is)
  other_of x of other (inr cut) is = absurd (apart cut.job cut.prints cut.job x of (sym is ∙ ap text_of cut.is))

  pub tells_of : (line : List ℕ) (x : Outcome Reply Said) → MayCome n v act x → text_of (said_reply m x) ≡ line → IsWholeReply (said_reply m x) → (w : View S) → w ≡ after_call x (commit_of n v act) v
      → TellsOf n m v p (commit_of n v act) line w (said_reply m x)
  tells_of line x may text whole w leaves =
      let it : Tells n m p act (commit_of n v act) x = tells_call n m v act own plain x may in
      record {
        text = text;
        whole = whole;
        may = by_may it.may;
        leaves = leaves ∙ sym (it.view v);
        alone = λ other may_other is. ap class_of (other_of x (kind n m v act own plain x may) other (comes_back other may_other) (is ∙ sym text));
      }

  -- the call came to x, and this reports it
  pub judged_of : {T : Type 0} (IsOf : T → Turn → Type 0) (told : T) (line : List ℕ) (x : Outcome Reply Said) → MayCome n v act x → CameOf act x
      → text_of (said_reply m x) ≡ line → IsWholeReply (said_reply m x) → (w : View S) → w ≡ after_call x (commit_of n v act) v
      → IsOf told (told_turn m (planned_commit act) x) → JudgedCall n m v IsOf act line w (Ok told)
  judged_of IsOf told line x may came text whole w leaves is = (
    said_reply m x,
    tells_of line x may text whole w leaves,
    subst (λ (l : Ledger). IsOf told (turn_of (said_reply m x) l)) (tells_call n m v act own plain x may).entries_are
        (told_is (IsOf told) m act x (planned_commit act) came refl is),
  )

  -- another reply with the text of a printer fault
  other_cut : (j : ℕ) → p.reply ≡ r.Printed j → (other : Reply) → ComesAs n m v act own plain other ⊎ Unprinted other → text_of other ≡ text_of (r.PrinterFault j) → other ≡ r.PrinterFault j
  other_cut j prints other (inl back) is = absurd (apart j prints j back.0 (kind n m v act own plain back.0 back.1) (ap text_of back.2 ∙ is))
  other_cut j prints other (inr cut) is = let same : r.Printed cut.job ≡ r.Printed j = sym cut.prints ∙ prints in let jobs : cut.job ≡ j = cc in cut.is ∙ ap r.PrinterFault jobs

  pub tells_cut : (line : List ℕ) (j : ℕ) → p.reply ≡ r.Printed j → text_of (r.PrinterFault j) ≡ line → IsWholeReply (r.PrinterFault j) → (w : View S) → w ≡ view_after n (r.PrinterFault j) (commit_of n v act) v
      → TellsOf n m v p (commit_of n v act) line w (r.PrinterFault j)
  tells_cut line j prints text whole w leaves = record {
    text = text;
    whole = whole;
    may = inr (inr prints);
    leaves = leaves;
    alone = λ other may_other is. ap class_of (other_cut j prints other (comes_back other may_other) (is ∙ sym text));
  }

  -- an act that prints is no refusal
  printed_commit : (j : ℕ) (on full : Bool) → (if on then (if full then refuse (r.Worn m) else said_plan act) else refuse (r.OffNode m)).reply ≡ r.Printed j
      → planned_commit act ≡ (if on then (if full then refuse (r.Worn m) else said_plan act) else refuse (r.OffNode m)).commit
  printed_commit j true true is = cc
  printed_commit j true false is = refl
  printed_commit j false full is = cc

  -- the printer failed, and this reports it
  pub judged_cut : {T : Type 0} (IsOf : T → Turn → Type 0) (told : T) (line : List ℕ) (j : ℕ) → p.reply ≡ r.Printed j → text_of (r.PrinterFault j) ≡ line
      → IsWholeReply (r.PrinterFault j) → (w : View S) → w ≡ view_after n (r.PrinterFault j) (commit_of n v act) v
      → IsOf told (unprinted_turn (planned_commit act) j) → JudgedCall n m v IsOf act line w (Ok told)
  judged_cut IsOf told line j prints text whole w leaves is = (
    r.PrinterFault j,
    tells_cut line j prints text whole w leaves,
    subst (λ (c : Option Commit). IsOf told (unprinted_turn c j)) (printed_commit j v.on (is_full n v.state act) prints) is,
  )

  pub tells_none : (line : List ℕ) → ((x : Outcome Reply Said) → MayCome n v act x → text_of (said_reply m x) ≢ line) → (due : Reply) → due ≡ p.reply
      → ((j : ℕ) → due ≡ r.Printed j → text_of (r.PrinterFault j) ≢ line) → TellsNone n m v p (commit_of n v act) line v due
  tells_none line never due is uncut = record {
    due_is = is;
    none = λ reply may text. by reply (comes_back reply may) text;
    rests = refl;
  }
    where
      by : (reply : Reply) → ComesAs n m v act own plain reply ⊎ Unprinted reply → text_of reply ≡ line → ⊥
      by reply (inl back) text = never back.0 back.1 (ap text_of back.2 ∙ text)
      by reply (inr cut) text = uncut cut.job (is ∙ cut.prints) (sym (ap text_of cut.is) ∙ text)
