-- A line of an `on` of a node that is off.
use Rattle.std.proofs.Common.{◌≡◌, ◌⊎◌, inl, inr, ℕ, ◌+◌, ◌==◌, ◌<◌, ◌^◌, List, [], ◌∷◌, Option, Some, None, IsSome, true, false, refl, sym, ◌∙◌, ap, subst, arith}
use Rattle.std.proofs.lemmas.Bool.Decides.{nat_tests}
use Rattle.bench_base.specs.declared.{words.Node.Node, ledger.Commit.Commit, events.Reply.Reply}
use Rattle.bench_base.specs.declared.ledger.Entry.TheVariants as entry
use Rattle.bench_base.specs.declared.events.Reply.TheVariants as r
use Rattle.bench_base.specs.Plans.{Plan, told}
use Rattle.bench_base.specs.Ranges.{IsNode}
use Rattle.bench_base.specs.Replies.{ReplyClass, LostPower, Faulted, class_of}
use Rattle.node_acts.specs.Views.{Counting, View, started, up, up_with}
use Rattle.node_acts.specs.Plans.{MayFail, Fails, MayReply, on_plan, view_after, after, after_told}
use Rattle.script_text.specs.Texts.{text_of, IsWholeReply}
use Rattle.script_text.specs.Texts as texts
use Rattle.trace_nodes.specs.Judged.{TellsOf}
use Rattle.trace_nodes.proofs.Openings.{tells_power, tells_fault}

-- the law of texts
abbrev pub OneReply : Type 0
OneReply = (a b : Reply) → IsWholeReply a → IsWholeReply b → text_of a ≡ text_of b → texts.told a ≡ texts.told b

module _ {S X : Type 0} (n : Counting S X) (m : Node) (v : View S) (off : v.on ≡ false) where
  abbrev k : ℕ
  k = n.count v.state

  abbrev p : Plan
  p = on_plan n m v

  pub plan_is : p ≡ told (r.Up m k) (entry.Up m k ∷ [])
  plan_is = rw off refl

  -- the replies that it may get
  pub data Kind (reply : Reply) : Type 0 where
    came : reply ≡ r.Up m k → Kind reply
    more : IsSome v.next → reply ≡ r.Up m (k + 1) → Kind reply
    powered : reply ≡ r.Power m → Kind reply
    faulted : reply ≡ r.Fault m → Kind reply

  no_commit : (c : Commit) → p.commit ≡ Some c → ⊥
  no_commit c is = let none : ◌≡◌ {A = Option Commit} None (Some c) = sym (ap (λ (q : Plan). q.commit) plan_is) ∙ is in cc

  answer_is : p.reply ≡ r.Up m k
  answer_is = ap (λ (q : Plan). q.reply) plan_is

  -- a boot that fails is that of the node
  failed : (i : Node) → MayFail p i → i ≡ m
  failed i (inl up) = let same : r.Up m k ≡ r.Up i up.0 = sym answer_is ∙ up.1 in cc
  failed i (inr made) = absurd (no_commit made.0 made.1)

  by_failure : (reply : Reply) → Fails p reply → Kind reply
  by_failure (r.Power i) fails = powered (ap r.Power (failed i fails))
  by_failure (r.Fault i) fails = faulted (ap r.Fault (failed i fails))
  by_failure (r.PrinterFault j) fails = let same : r.Up m k ≡ r.Printed j = sym answer_is ∙ fails in cc
  by_failure _ fails = absurd fails

  kind : (reply : Reply) → MayReply n m v p reply → Kind reply
  kind reply (inl is) = came (is ∙ answer_is)
  kind reply (inr (inl up)) = more up.1 up.2
  kind reply (inr (inr fails)) = by_failure reply fails

  may : (reply : Reply) → Kind reply → MayReply n m v p reply
  may reply (came is) = inl (is ∙ sym answer_is)
  may reply (more open_one is) = inr (inl (answer_is, open_one, is))
  may reply (powered is) = inr (inr (subst (λ (y : Reply). Fails p y) (sym is) (inl (k, answer_is))))
  may reply (faulted is) = inr (inr (subst (λ (y : Reply). Fails p y) (sym is) (inl (k, answer_is))))

  module _ (law : OneReply) (named : IsNode m) (few : k < 2 ^ 48) where
    -- a count and the next one have two texts
    counts_apart : text_of (r.Up m k) ≡ text_of (r.Up m (k + 1)) → ⊥
    counts_apart is =
        let same : r.Up m k ≡ r.Up m (k + 1) = law (r.Up m k) (r.Up m (k + 1)) (named, omega arith) (named, omega arith) is in
        let counts : k ≡ k + 1 = cc in
        omega arith

    up_is_no_power : (c : ℕ) → text_of (r.Up m c) ≡ text_of (r.Power m) → ⊥
    up_is_no_power c is = let t = tells_power (r.Up m c) m is in cc (t.1)

    up_is_no_fault : (c : ℕ) → text_of (r.Up m c) ≡ text_of (r.Fault m) → ⊥
    up_is_no_fault c is = let t = tells_fault (r.Up m c) m is in cc (t.1)

    power_is_no_fault : text_of (r.Power m) ≡ text_of (r.Fault m) → ⊥
    power_is_no_fault is = let t = tells_fault (r.Power m) m is in cc (t.1)

    same_reply : (a b : Reply) → Kind a → Kind b → text_of a ≡ text_of b → a ≡ b
    same_reply a b (came x) (came y) is = x ∙ sym y
    same_reply a b (came x) (more o y) is = absurd (counts_apart (sym (ap text_of x) ∙ is ∙ ap text_of y))
    same_reply a b (came x) (powered y) is = absurd (up_is_no_power k (sym (ap text_of x) ∙ is ∙ ap text_of y))
    same_reply a b (came x) (faulted y) is = absurd (up_is_no_fault k (sym (ap text_of x) ∙ is ∙ ap text_of y))
    same_reply a b (more o x) (came y) is = absurd (counts_apart (sym (ap text_of y) ∙ sym is ∙ ap text_of x))
    same_reply a b (more o x) (more q y) is = x ∙ sym y
    same_reply a b (more o x) (powered y) is = absurd (up_is_no_power (k + 1) (sym (ap text_of x) ∙ is ∙ ap text_of y))
    same_reply a b (more o x) (faulted y) is = absurd (up_is_no_fault (k + 1) (sym (ap text_of x) ∙ is ∙ ap text_of y))
    same_reply a b (powered x) (came y) is = absurd (up_is_no_power k (sym (ap text_of y) ∙ sym is ∙ ap text_of x))
    same_reply a b (powered x) (more o y) is = absurd (up_is_no_power (k + 1) (sym (ap text_of y) ∙ sym is ∙ ap text_of x))
    same_reply a b (powered x) (powered y) is = x ∙ sym y
    same_reply a b (powered x) (faulted y) is = absurd (power_is_no_fault (sym (ap text_of x) ∙ is ∙ ap text_of y))
    same_reply a b (faulted x) (came y) is = absurd (up_is_no_fault k (sym (ap text_of y) ∙ sym is ∙ ap text_of x))
    same_reply a b (faulted x) (more o y) is = absurd (up_is_no_fault (k + 1) (sym (ap text_of y) ∙ sym is ∙ ap text_of x))
    same_reply a b (faulted x) (powered y) is = absurd (power_is_no_fault (sym (ap text_of y) ∙ sym is ∙ ap text_of x))
    same_reply a b (faulted x) (faulted y) is = x ∙ sym y

    pub tells_on : (line : List ℕ) (w : View S) (reply : Reply) → Kind reply → text_of reply ≡ line → IsWholeReply reply → w ≡ view_after n reply None v → TellsOf n m v p None line w reply
    tells_on line w reply of text whole leaves = record {
      text = text;
      whole = whole;
      may = may reply of;
      leaves = leaves;
      alone = λ other may_other is. ap class_of (same_reply other reply (kind other may_other) of (is ∙ sym text));
    }

  -- a start that fails adds nothing
  pub adds_none : (reply : Reply) → (i : Node) → (class_of reply ≡ LostPower i) ⊎ (class_of reply ≡ Faulted i) → [] ≡ after p reply []
  adds_none reply i lost = sym (ap (λ (q : Plan). after q reply []) plan_is ∙ by lost)
    where
      by : (class_of reply ≡ LostPower i) ⊎ (class_of reply ≡ Faulted i) → after (told (r.Up m k) (entry.Up m k ∷ [])) reply [] ≡ []
      by (inl is) = ap (λ (t : ReplyClass). after_told (told (r.Up m k) (entry.Up m k ∷ [])) t []) is
      by (inr is) = ap (λ (t : ReplyClass). after_told (told (r.Up m k) (entry.Up m k ∷ [])) t []) is

-- == what it is seen as ==

same_count : (k : ℕ) → (k + 1 == k + 1) ≡ true
same_count k = grind (arith, nat_tests)

other_count : (k : ℕ) → (k == k + 1) ≡ false
other_count k = grind (arith, nat_tests)

module _ {S X : Type 0} (n : Counting S X) (v : View S) where
  came_with : (o : Option S) → up_with n o (n.count v.state) v ≡ started v.state
  came_with None = refl
  came_with (Some s) = rw (other_count (n.count v.state)) refl

  pub comes_up : (c : ℕ) → c ≡ n.count v.state → up n c v ≡ started v.state
  comes_up c is = ap (λ (i : ℕ). up n i v) is ∙ came_with v.next

  pub comes_with_more : (c : ℕ) (s : S) → c ≡ n.count v.state → v.next ≡ Some s → up n (c + 1) v ≡ started s
  comes_with_more c s is open_one = rw (is, open_one, same_count (n.count v.state)) refl
