-- What a call is reported as is what the plan of its act says, or a failure in its commit.
use Rattle.std.proofs.Common.{◌≡◌, ◌⊎◌, inl, inr, [], Option, Some, None, Bool, true, false, if◌then◌else◌, option_map, refl, sym, ◌∙◌, ap, subst, append-nil}
use Rattle.bench_base.specs.declared.{words.Node.Node, ledger.Commit.Commit, events.Reply.Reply}
use Rattle.bench_base.specs.declared.events.Reply.TheVariants as r
use Rattle.bench_base.specs.Nodes.{node_of}
use Rattle.bench_base.specs.Plans.{Plan, refuse, made, told}
use Rattle.node_acts.specs.declared.{act.Act.Act, act.Act.TheVariants.Refuse, act.Act.TheVariants.Tell, act.Act.TheVariants.Commits, act.Outcome.Outcome, said.Said.Said}
use Rattle.node_acts.specs.declared.act.Outcome.TheVariants as o
use Rattle.node_acts.specs.Views.{Counting, View}
use Rattle.node_acts.specs.Acts.{commit_in, commit_of, outcome_in, outcome_of, MayCome, after_call}
use Rattle.bench_base.specs.Replies.{ReplyClass, Did, Refused, class_of}
use Rattle.node_acts.specs.Plans.{with_torn, after, after_told, Fails, IsOfNode, done_plan, view_after, view_told}
use Rattle.node_acts.specs.Said.{tells, IsPlain, seen_plan, said_reply, said_entries}

module _ {S X : Type 0} (n : Counting S X) (m : Node) where
  -- what was reported of a call with this act, this plan and this commit
  pub record Tells (p : Plan) (act : Act X Reply Said) (made : Option (Commit × S)) (result : Outcome Reply Said) : Type 0 where
    pub may : (said_reply m result ≡ p.reply) ⊎ Fails p (said_reply m result)
    pub entries_are : said_entries m act result ≡ after p (said_reply m result) []
    pub view : (v : View S) → view_after n (said_reply m result) made v ≡ after_call result made v

  was_refused : (x : Reply) (act : Act X Reply Said) → class_of x ≡ Refused → Tells (refuse x) act None (o.Refused x)
  was_refused x act is_refusal = record {
    may = inl refl;
    entries_are = sym (ap (λ (t : ReplyClass). after_told (refuse x) t []) is_refusal);
    view = λ v. ap (λ (t : ReplyClass). view_told n t None v) is_refusal;
  }

  was_told : (a : Said) → class_of a.reply ≡ Did → Tells (told a.reply (tells a)) (Tell a) None (o.Done a)
  was_told a is_done = record {
    may = inl refl;
    entries_are = sym (append-nil (tells a)) ∙ sym (ap (λ (t : ReplyClass). after_told (told a.reply (tells a)) t []) is_done);
    view = λ v. ap (λ (t : ReplyClass). view_told n t None v) is_done;
  }

  was_made : (worn : Bool) (c : Commit) (x : X) (s : S) (a : Said) → class_of a.reply ≡ Did
      → Tells (if worn then refuse (r.Worn m) else made a.reply c (tells a)) (Commits c x a) (if worn then None else Some (c, s)) (if worn then o.Worn else o.Done a)
  was_made true c x s a is_done = record { may = inl refl; entries_are = refl; view = λ v. refl }
  was_made false c x s a is_done = record {
    may = inl refl;
    entries_are = sym (ap (λ (t : ReplyClass). after_told (made a.reply c (tells a)) t []) is_done);
    view = λ v. ap (λ (t : ReplyClass). view_told n t (Some (c, s)) v) is_done;
  }

  was_done : (s : S) (act : Act X Reply Said) → IsPlain act → Tells (done_plan n m (λ x. x) (λ a. a.reply) tells s act) act (commit_in n s act) (outcome_in n s act)
  was_done s (Refuse y) plain = was_refused y (Refuse y) plain
  was_done s (Tell a) plain = was_told a plain
  was_done s (Commits c x a) plain = was_made (n.is_worn s x) c x (n.after s x) a plain

  was_answered : (on : Bool) (s : S) (act : Act X Reply Said) → IsPlain act
      → Tells (if on then done_plan n m (λ x. x) (λ a. a.reply) tells s act else refuse (r.OffNode m)) act (if on then commit_in n s act else None) (if on then outcome_in n s act else o.Off)
  was_answered true s act plain = was_done s act plain
  was_answered false s act plain = record { may = inl refl; entries_are = refl; view = λ v. refl }

  -- the commit of the plan is that of the act
  worn_commit : (worn : Bool) (c : Commit) (s : S) (a : Said)
      → (if worn then refuse (r.Worn m) else made a.reply c (tells a)).commit ≡ option_map (λ (x : Commit × S). x.0) (if worn then None else Some (c, s))
  worn_commit true c s a = refl
  worn_commit false c s a = refl

  done_commit : (s : S) (act : Act X Reply Said) → (done_plan n m (λ x. x) (λ a. a.reply) tells s act).commit ≡ option_map (λ (x : Commit × S). x.0) (commit_in n s act)
  done_commit s (Refuse y) = refl
  done_commit s (Tell a) = refl
  done_commit s (Commits c x a) = worn_commit (n.is_worn s x) c (n.after s x) a

  plan_commit : (on : Bool) (s : S) (act : Act X Reply Said) → (if on then done_plan n m (λ x. x) (λ a. a.reply) tells s act else refuse (r.OffNode m)).commit
      ≡ option_map (λ (x : Commit × S). x.0) (if on then commit_in n s act else None)
  plan_commit true s act = done_commit s act
  plan_commit false s act = refl

  pub seen_commit : (v : View S) (act : Act X Reply Said) → (seen_plan n m v act).commit ≡ option_map (λ (x : Commit × S). x.0) (commit_of n v act)
  seen_commit v act = plan_commit v.on v.state act

  -- and the node's
  worn_own : (worn : Bool) (c : Commit) (s : S) (x : Commit × S) → node_of c ≡ m → (if worn then None else Some (c, s)) ≡ Some x → node_of x.0 ≡ m
  worn_own true c s x own is = cc
  worn_own false c s x own is = let same : ◌≡◌ {A = Commit × S} (c, s) x = cc in ap (λ (y : Commit × S). node_of y.0) (sym same) ∙ own

  done_own : (s : S) (act : Act X Reply Said) (x : Commit × S) → IsOfNode m act → commit_in n s act ≡ Some x → node_of x.0 ≡ m
  done_own s (Refuse y) x own is = cc
  done_own s (Tell a) x own is = cc
  done_own s (Commits c y a) x own is = worn_own (n.is_worn s y) c (n.after s y) x own is

  made_on : (on : Bool) (o : Option (Commit × S)) (x : Commit × S) → (if on then o else None) ≡ Some x → on ≡ true
  made_on true o x is = refl
  made_on false o x is = cc

  commit_own : (on : Bool) (s : S) (act : Act X Reply Said) (x : Commit × S) → IsOfNode m act → (if on then commit_in n s act else None) ≡ Some x → node_of x.0 ≡ m
  commit_own true s act x own is = done_own s act x own is
  commit_own false s act x own is = cc

  -- which is on
  pub seen_own : (v : View S) (act : Act X Reply Said) (x : Commit × S) → IsOfNode m act → commit_of n v act ≡ Some x → (node_of x.0 ≡ m) × (v.on ≡ true)
  seen_own v act x own is = (commit_own v.on v.state act x own is, made_on v.on (commit_in n v.state act) x is)

  module _ (v : View S) (act : Act X Reply Said) (own : IsOfNode m act) (plain : IsPlain act) where
    -- an answer, where the storage did not fail
    by_answer : (result : Outcome Reply Said) → result ≡ outcome_of n v act → Tells (seen_plan n m v act) act (commit_of n v act) result
    by_answer result is = subst (λ (x : Outcome Reply Said). Tells (seen_plan n m v act) act (commit_of n v act) x) (sym is) (was_answered v.on v.state act plain)

    pub tells_call : (result : Outcome Reply Said) → MayCome n v act result → Tells (seen_plan n m v act) act (commit_of n v act) result
    tells_call o.Off may = by_answer o.Off may
    tells_call (o.Refused y) may = by_answer (o.Refused y) may
    tells_call (o.Done a) may = by_answer (o.Done a) may
    tells_call o.Worn may = by_answer o.Worn may
    tells_call (o.Power c) may =
        let planned = seen_commit v act ∙ ap (λ (t : Option (Commit × S)). option_map (λ (x : Commit × S). x.0) t) may.1 in
        record {
          may = inr (inr (c, planned, commit_own v.on v.state act (c, may.0) own may.1));
          entries_are = ap (λ (t : Option Commit). with_torn t m []) (sym planned);
          view = λ w. subst (λ (t : Option (Commit × S)). view_after n (r.Power m) t w ≡ after_call {F = Reply} {A = Said} (o.Power c) t w) (sym may.1) refl;
        }
    tells_call (o.Fault c) may =
        let planned = seen_commit v act ∙ ap (λ (t : Option (Commit × S)). option_map (λ (x : Commit × S). x.0) t) may.1 in
        record {
          may = inr (inr (c, planned, commit_own v.on v.state act (c, may.0) own may.1));
          entries_are = ap (λ (t : Option Commit). with_torn t m []) (sym planned);
          view = λ w. subst (λ (t : Option (Commit × S)). view_after n (r.Fault m) t w ≡ after_call {F = Reply} {A = Said} (o.Fault c) t w) (sym may.1) refl;
        }
