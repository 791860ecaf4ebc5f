-- What the desk sees of a turn goes with what the ledger is after it, whatever reply the event gets.
use Rattle.std.proofs.Common.{◌≡◌, inl, inr, ℕ, ◌+◌, ◌<◌, ◌^◌, List, [], ◌∷◌, ◌++◌, Option, Some, None, refl, sym, ap, subst, ◌∙◌}
use Rattle.bench_base.specs.declared.{words.Node.Node, ledger.Commit.Commit, ledger.Entry.Entry, events.Event.Event, events.Reply.Reply}
use Rattle.bench_base.specs.declared.ledger.Entry.TheVariants as e
use Rattle.bench_base.specs.Ledger.{Ledger, count_of, torn_of, counted}
use Rattle.bench_base.specs.Nodes.{node_of}
use Rattle.bench_base.specs.Plans.{Plan}
use Rattle.bench_base.specs.Replies.{ReplyClass, Did, Refused, Armed, CameOn, WentOff, LostPower, Faulted, WasDamaged, PrinterFailed, RatesFailed, class_of}
use Rattle.bench_base.specs.Rules.{todays_rules}
use Rattle.node_acts.specs.Plans.{with_commit, with_torn, after, after_told, FailsTold}
use Rattle.node_turns.specs.Turns.{in_order}
use Rattle.ledger_moves.specs.Moves.{Moves, OtherUp, plan}
use Rattle.ledger_moves.specs.Tariffs.{Tariff}
use Rattle.scan_laws.proofs.Tells.{IsCalm, AreCalm, ByTold, ShowsItsCount}
use Rattle.scan_laws.proofs.Plans.{plan_says}
use Rattle.centre_statement.specs.Desk.{View, seen_entry, seen}
use Rattle.centre_statement.specs.Movements.{OpenedAt}
use Rattle.centre_statement.proofs.Counting.{GoesWith, Sound, ShowsCount, calm_entry, commit_entry, torn_entry, up_entry}

-- == the entries of a turn ==

calm_counts : (x : Entry) (H : Ledger) → IsCalm x → counted (x ∷ H) ≡ counted H
calm_counts (e.Commit c) H calm = absurd calm
calm_counts (e.Up m k) H calm = absurd calm
calm_counts _ H calm = refl

-- the calm entries after a commit
calm_turn : (o : Option OpenedAt) (v : View) (H : Ledger) (told : List Entry) (commit : Option Commit) → AreCalm told → Sound (counted (told ++ with_commit commit H)) → GoesWith o v H
    → GoesWith o (seen v (in_order (told ++ with_commit commit []))) (told ++ with_commit commit H)
calm_turn o v H [] None calm sound with_it = with_it
calm_turn o v H [] (Some c) calm sound with_it = commit_entry o v H c sound with_it
calm_turn o v H (x ∷ []) None calm sound with_it = calm_entry o v H x calm with_it
calm_turn o v H (x ∷ []) (Some c) calm sound with_it =
    let now = commit_entry o v H c (subst (λ (C : List Commit). Sound C) (calm_counts x (e.Commit c ∷ H) calm) sound) with_it in
    calm_entry o (seen_entry v (Some (e.Commit c))) (e.Commit c ∷ H) x calm now
calm_turn o v H (y ∷ x ∷ []) None calm sound with_it = calm_entry o (seen_entry v (Some x)) (x ∷ H) y calm.0 (calm_entry o v H x calm.1 with_it)
calm_turn o v H (y ∷ x ∷ []) (Some c) calm sound with_it =
    let same = calm_counts y (x ∷ e.Commit c ∷ H) calm.0 ∙ calm_counts x (e.Commit c ∷ H) calm.1 in
    let now = commit_entry o v H c (subst (λ (C : List Commit). Sound C) same sound) with_it in
    let then = calm_entry o (seen_entry v (Some (e.Commit c))) (e.Commit c ∷ H) x calm.1 now in
    calm_entry o (seen_entry (seen_entry v (Some (e.Commit c))) (Some x)) (x ∷ e.Commit c ∷ H) y calm.0 then
calm_turn o v H (z ∷ y ∷ x ∷ more) commit calm sound with_it = absurd calm

torn_turn : (o : Option OpenedAt) (v : View) (H : Ledger) (m : Node) (commit : Option Commit) → GoesWith o v H → GoesWith o (seen v (in_order (with_torn commit m []))) (with_torn commit m H)
torn_turn o v H m None with_it = with_it
torn_turn o v H m (Some c) with_it = torn_entry o v H m c with_it

-- the number of an Up fits 64 bits
abbrev pub IsSmall : ReplyClass → Type 0
IsSmall (CameOn m k) = k < 2 ^ 64
IsSmall _ = Unit {0}

told_turn : (o : Option OpenedAt) (v : View) (H : Ledger) (p : Plan) (t : ReplyClass) → ((m : Node) (c : Commit) → torn_of m H ≡ Some c → node_of c ≡ m) → IsSmall t → ByTold (ShowsCount H) t p.after
    → Sound (counted (after_told p t H)) → GoesWith o v H → GoesWith o (seen v (in_order (after_told p t []))) (after_told p t H)
told_turn o v H p Did own small by sound with_it = calm_turn o v H p.after p.commit by sound with_it
told_turn o v H p Refused own small by sound with_it = calm_turn o v H p.after p.commit by sound with_it
told_turn o v H p (Armed m) own small by sound with_it = calm_turn o v H p.after p.commit by sound with_it
told_turn o v H p (CameOn m k) own small by sound with_it = up_entry o v H m k by small (own m) sound with_it
told_turn o v H p (WentOff m) own small by sound with_it = calm_turn o v H p.after p.commit by sound with_it
told_turn o v H p (LostPower m) own small by sound with_it = torn_turn o v H m p.commit with_it
told_turn o v H p (Faulted m) own small by sound with_it = torn_turn o v H m p.commit with_it
told_turn o v H p (WasDamaged m) own small by sound with_it = calm_turn o v H p.after p.commit by sound with_it
told_turn o v H p (PrinterFailed j) own small by sound with_it = calm_turn o v H [] p.commit tt sound with_it
told_turn o v H p RatesFailed own small by sound with_it = with_it

-- == the replies that an event may get ==

weaker : (P Q : Node → ℕ → Type 0) → ((m : Node) (k : ℕ) → P m k → Q m k) → (t : ReplyClass) (told : List Entry) → ByTold P t told → ByTold Q t told
weaker P Q more (CameOn m k) told by = more m k by
weaker P Q more Did told by = by
weaker P Q more Refused told by = by
weaker P Q more (Armed m) told by = by
weaker P Q more (WentOff m) told by = by
weaker P Q more (LostPower m) told by = by
weaker P Q more (Faulted m) told by = by
weaker P Q more (WasDamaged m) told by = by
weaker P Q more (PrinterFailed j) told by = by
weaker P Q more RatesFailed told by = by

module _ (H : Ledger) (p : Plan) (told : ByTold (ShowsItsCount H) (class_of p.reply) p.after) where
  -- the answer with one commit more
  other_up : (reply : Reply) → OtherUp p.reply reply H → ByTold (ShowsCount H) (class_of reply) p.after
  other_up reply other =
      let count : other.count ≡ count_of other.node (counted H) = subst (λ (x : Reply). ByTold (ShowsItsCount H) (class_of x) p.after) other.answer_is told in
      let shows : ShowsCount H other.node (other.count + 1) = inr (ap (λ (k : ℕ). k + 1) count, other.torn) in
      subst (λ (x : Reply). ByTold (ShowsCount H) (class_of x) p.after) (sym other.more) shows

  fails : (t : ReplyClass) → FailsTold p t → ByTold (ShowsCount H) t p.after
  fails (LostPower m) failed = tt
  fails (Faulted m) failed = tt
  fails (PrinterFailed j) failed = tt
  fails _ failed = absurd failed

pub moves_told : (τ : Tariff) (H : Ledger) (x : Event) (text : List ℕ) (reply : Reply) → Moves τ todays_rules H x text reply → ByTold (ShowsCount H) (class_of reply) (plan τ todays_rules H x text).after
moves_told τ H x text reply (whole, inl is) =
    subst (λ (y : Reply). ByTold (ShowsCount H) (class_of y) (plan τ todays_rules H x text).after) (sym is)
    (weaker (ShowsItsCount H) (ShowsCount H) (λ m k same. inl same) (class_of (plan τ todays_rules H x text).reply) (plan τ todays_rules H x text).after (plan_says H τ x text).told)
moves_told τ H x text reply (whole, inr (inl other)) = other_up H (plan τ todays_rules H x text) (plan_says H τ x text).told reply other
moves_told τ H x text reply (whole, inr (inr (inl failed))) = fails H (plan τ todays_rules H x text) (plan_says H τ x text).told (class_of reply) failed
moves_told τ H x text reply (whole, inr (inr (inr unread))) = subst (λ (y : Reply). ByTold (ShowsCount H) (class_of y) (plan τ todays_rules H x text).after) (sym unread.reply_is) tt

-- WHAT THE DESK SEES OF A TURN GOES WITH THE LEDGER AFTER IT
pub turn_seen : (o : Option OpenedAt) (v : View) (τ : Tariff) (H : Ledger) (x : Event) (text : List ℕ) (reply : Reply) → ((m : Node) (c : Commit) → torn_of m H ≡ Some c → node_of c ≡ m)
    → IsSmall (class_of reply) → Moves τ todays_rules H x text reply → Sound (counted (after (plan τ todays_rules H x text) reply H)) → GoesWith o v H
    → GoesWith o (seen v (in_order (after (plan τ todays_rules H x text) reply []))) (after (plan τ todays_rules H x text) reply H)
turn_seen o v τ H x text reply own small moves sound with_it =
    told_turn o v H (plan τ todays_rules H x text) (class_of reply) own small (moves_told τ H x text reply moves) sound with_it
